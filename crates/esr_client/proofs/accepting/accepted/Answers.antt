use Rattle.std.proofs.Common.{◌+◌, ◌<◌, ◌^◌, None, IfSome, ap, ◌∙◌, arith}
use Rattle.esr_model.specs.Values.{ClusterRecord}
use Rattle.esr_core.specs.Entry.{AskStep, Accepted}
use Rattle.esr_record.specs.Record.{Record}
use Rattle.esr_formats.specs.Clusters.{cluster_of}
use Rattle.esr_ops.specs.declared.refusal.Refusal.{Refusal}
use Rattle.esr_ops.specs.Asked.{asked_of}
use Rattle.esr_desk.specs.Refusals.{refusal_of}
use Rattle.esr_desk.specs.Start.{world_of}
use Rattle.esr_client.specs.Asked.{entry_of}
use Rattle.esr_repo.specs.May.{MayRefuse}
use Rattle.esr_client.proofs.Accepts.{err_passed, refuses, may_ask}
use Rattle.esr_repo.specs.WithOps.{swap_is}
use Rattle.esr_client.proofs.accepting.accepted.Goals as goal

pub overflow_add-next : goal.overflow_add-next
overflow_add-next g c =
    let fits : (world_of g.K.Told.start c.args.repo.now).next_id + c.in_ok-progress.accepted.drawn < 2 ^ 128 = c.in_ok-progress.ensures.fits in
    omega (arith, fits, c.from.ensures, c.next_id-first.ensures.number)

pub returns-in_err-progress-clause-err : goal.returns-in_err-progress-clause-err
returns-in_err-progress-clause-err g c =
    err_passed c.from_residual-in_err-progress.result
    (λ (e : Refusal). IfSome (entry_of e) (λ r. MayRefuse g.K.Told.start c.args.repo.now 0 (AskStep (asked_of c.args.command.now)) (refusal_of r))) c.in_err-progress.field-0.0 c.from_residual-in_err-progress.ensures.1
    (refuses g.K.Told.start c.args.repo.now (asked_of c.args.command.now) c.in_err-progress.field-0.0 c.requires.may c.in_err-progress.ensures.listed)

pub returns-clause-ok : goal.returns-clause-ok
returns-clause-ok g c =
    swap_is g.K.Told.start c.args.repo.now 0 (AskStep (asked_of c.args.command.now)) (Accepted c.in_ok-progress.accepted.op) None None None c.in_ok-progress.progress _ c.in_ok-renewed.renewed c.in_ok-renewed.ensures.is
    (may_ask g.K.Told.start c.args.repo.now (asked_of c.args.command.now) c.in_ok-renewed.renewed.cluster c.in_ok-progress.progress c.in_ok-progress.accepted _ c.rules.ensures.infos c.requires.may c.in_ok-progress.ensures.listed
    (c.in_ok-renewed.ensures.ledger ∙ ap (λ (r : Record). (cluster_of r).ledger) c.in_ok-cluster.ensures ∙ ap (λ (x : ClusterRecord). x.ledger) c.record.ensures.record) c.in_ok-renewed.ensures.ops
    (omega (arith, c.from.ensures, c.next_id-first.ensures.number)))
