use Rattle.std.proofs.Common.{None, ap, ◌∙◌, refl}
use Rattle.esr_model.specs.Values.{ClusterRecord}
use Rattle.esr_core.specs.Entry.{DroppedStep, HasEnded}
use Rattle.esr_record.specs.Record.{Record}
use Rattle.esr_formats.specs.Clusters.{cluster_of}
use Rattle.esr_steps.proofs.Swapping.{may_swap_drop, leaves_out}
use Rattle.esr_repo.specs.WithOps.{swap_with}
use Rattle.esr_steps.proofs.Stepping.{seat_is_kept}
use Rattle.esr_steps.proofs.renewing.without_op.Goals as goal

pub dropped-requires : goal.dropped-requires
dropped-requires g c = seat_is_kept g.K.Told.start c.args.repo.now c.args.repo.now c.args.ticket c.plan.result.now refl (leaves_out g.K.Told.start c.args.repo.now c.args.ticket c.requires.may) c.plan.ensures

pub returns : goal.returns
returns g c =
    swap_with g.K.Told.start c.args.repo.now c.args.ticket DroppedStep HasEnded c.in_ok-cluster.cluster None None None c.in_ok-progress.progress
    c.next_id-next.result c.with_ops.result c.with_ops.ensures.is c.with_ops.ensures.ledger c.with_ops.ensures.ops (λ cluster ledger ops.
    may_swap_drop g.K.Told.start c.args.repo.now c.args.ticket cluster c.plan.result.now c.in_ok-progress.progress c.next_id-next.result.number
    c.rules.ensures.infos c.rules.ensures.tracked c.requires.may c.requires.present c.plan.ensures c.in_ok-progress.ensures
    (ledger ∙ ap (λ (r : Record). (cluster_of r).ledger) c.in_ok-cluster.ensures ∙ ap (λ (x : ClusterRecord). x.ledger) c.record.ensures.record) ops c.next_id-next.ensures.number)
