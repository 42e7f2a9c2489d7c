use Rattle.std.proofs.Common.{Some, None, ◌∙◌, sym, refl, subst}
use Rattle.esr_core.specs.Entry.{SettleStep, WasSettled}
use Rattle.esr_formats.specs.Roots.{root_of}
use Rattle.esr_root.specs.Root.{Root}
use Rattle.esr_desk.specs.Conditions.{CanSettle}
use Rattle.esr_desk.specs.Start.{ticket_of}
use Rattle.esr_steps.proofs.Swapping.{may_swap_settle}
use Rattle.esr_repo.specs.WithOps.{swap_with}
use Rattle.esr_steps.proofs.Stepping.{seat_is_kept}
use Rattle.esr_steps.proofs.renewing.settled.Goals as goal

pub finalized-requires : goal.finalized-requires
finalized-requires g c = seat_is_kept g.K.Told.start c.args.repo.now c.args.repo.now c.args.ticket c.plan.result.now refl c.requires.may.put.out c.plan.ensures

pub returns : goal.returns
returns g c =
    swap_with g.K.Told.start c.args.repo.now c.args.ticket SettleStep WasSettled c.in_ok-cluster.cluster (Some c.in_ok-root.root) None
    (Some c.in_ok-info.info) c.in_ok-progress.progress c.next_id-next.result c.with_ops.result c.with_ops.ensures.is c.with_ops.ensures.ledger c.with_ops.ensures.ops (λ cluster ledger ops.
    may_swap_settle g.K.Told.start c.args.repo.now c.args.ticket c.in_ok-root.root c.in_ok-info.info cluster c.plan.result.now c.in_ok-progress.progress c.next_id-next.result.number c.in_ok-info.ensures c.rules.ensures.infos c.requires.unpruned
    (subst (λ (r : Root). CanSettle g.K.Told.start (ticket_of g.K.Told.start c.args.repo.now c.args.ticket) (root_of r)) (sym c.in_ok-root.ensures) c.requires.may) c.requires.present c.plan.ensures c.in_ok-progress.ensures
    (λ n own. ledger ∙ c.in_ok-cluster.ensures n own) ops c.next_id-next.ensures.number)
