use Rattle.std.proofs.Common.{List, Some, None, ap, ◌∙◌, sym, subst, refl}
use Rattle.std.specs.Prelude.{filter}
use Rattle.esr_core.specs.Entry.{PruneStep, SettlePruned, WasSettled}
use Rattle.esr_root.specs.Snaps.{lists}
use Rattle.esr_root.specs.Root.{Root}
use Rattle.esr_root.specs.declared.snaps.RootSnap.{RootSnap}
use Rattle.esr_meta.specs.Info.{Info}
use Rattle.esr_formats.specs.Roots.{root_of}
use Rattle.esr_desk.specs.Start.{ticket_of}
use Rattle.esr_desk.specs.Delete.Conditions.{CanSettleDelete}
use Rattle.esr_steps.proofs.DeleteMays.{may_swap_delete}
use Rattle.esr_repo.specs.WithOps.{swap_with}
use Rattle.esr_steps.proofs.Stepping.{seat_is_kept}
use Rattle.esr_steps.proofs.deleting.pruned.Goals as goal

pub delete_settled-requires : goal.delete_settled-requires
delete_settled-requires g c = seat_is_kept g.K.Told.start c.args.repo.now c.args.repo.now c.args.ticket c.plan.result.now refl c.requires.may.settle.put.out c.plan.ensures

pub settled_record-requires-clause-may : goal.settled_record-requires-clause-may
settled_record-requires-clause-may g c = (root_of c.args.root.now, c.requires.may.settle)

pub returns : goal.returns
returns g c =
    swap_with g.K.Told.start c.args.repo.now c.args.ticket (PruneStep SettlePruned) WasSettled c.in_ok-cluster.cluster (Some c.in_ok-root.root)
    (Some c.in_ok-left.left) None c.in_ok-progress.progress c.next_id-next.result c.with_ops.result c.with_ops.ensures.is c.with_ops.ensures.ledger c.with_ops.ensures.ops (λ cluster ledger ops.
    may_swap_delete g.K.Told.start c.args.repo.now c.args.ticket c.in_ok-root.root c.infos.result.now c.in_ok-left.left cluster c.plan.result.now
    c.in_ok-progress.progress c.next_id-next.result.number c.rules.ensures.of_ops c.rules.ensures.infos c.rules.ensures.tracked
    (subst (λ (r : Root). CanSettleDelete g.K.Told.start (ticket_of g.K.Told.start c.args.repo.now c.args.ticket) (root_of r)) (sym c.in_ok-root.ensures) c.requires.may) c.requires.present c.infos.ensures
    (c.in_ok-left.ensures ∙ ap (λ (ss : List RootSnap). filter (λ (i : Info). lists ss i.uuid) c.infos.result.now) (c.as_slice.ensures.items ∙ ap (λ (r : Root). r.snapshots) c.root.view_is))
    c.plan.ensures c.in_ok-progress.ensures (λ n own. ledger ∙ c.in_ok-cluster.ensures n own) ops c.next_id-next.ensures.number)
