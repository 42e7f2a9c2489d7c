use Rattle.std.proofs.Common.{List, map, Some, sym, subst, refl}
use Rattle.esr_names.specs.declared.index_ref.IndexRef.{IndexRef}
use Rattle.esr_core.specs.Entry.{Step, Restore, AskStep, AcceptedRestore}
use Rattle.esr_formats.specs.Refs.{ref_of_code}
use Rattle.esr_desk.specs.Entries.{step_of}
use Rattle.esr_desk.specs.Start.{world_of}
use Rattle.esr_repo.specs.May.{MayNote}
use Rattle.esr_client.proofs.Restores.{may_restore}
use Rattle.esr_repo.specs.Fresh.{goes_as}
use Rattle.esr_client.proofs.restoring.accept_restore.Goals as goal

pub indices_of-requires-clause-listed : goal.indices_of-requires-clause-listed
indices_of-requires-clause-listed g c = (c.args.name.now, c.requires.may.0)

pub note-requires-clause-may : goal.note-requires-clause-may
note-requires-clause-may g c =
    subst (λ (step : Step). MayNote g.K.Told.start c.args.repo.now 0 step (AcceptedRestore c.next_op-op.result c.args.uuid.number (map ref_of_code c.in_ok-told.told)) (Some c.in_ok-progress.progress) c.next_id-next.result.number)
    (sym c.in_ok-step.ensures)
    (subst (λ (indices : List IndexRef). MayNote g.K.Told.start c.args.repo.now 0 (AskStep (Restore c.args.name.now c.args.place.now))
    (AcceptedRestore c.next_op-op.result c.args.uuid.number (map ref_of_code indices)) (Some c.in_ok-progress.progress) c.next_id-next.result.number) (sym c.in_ok-told.ensures)
    (may_restore g.K.Told.start c.args.repo.now c.args.name.now c.args.place.now c.args.uuid.number (map ref_of_code c.in_ok-indices.indices) c.in_ok-progress.progress c.next_op-op.result c.next_id-next.result.number
    c.requires.may c.in_ok-indices.ensures.indices c.next_op-op.ensures
    (c.in_ok-progress.ensures (world_of g.K.Told.start c.args.repo.now) c.plan.ensures) c.next_id-next.ensures.number))

pub note-requires-clause-goes : goal.note-requires-clause-goes
note-requires-clause-goes g c = goes_as g.K.Told.start c.args.repo.now 0 (AskStep (Restore c.args.name.now c.args.place.now)) (step_of c.in_ok-step.step) (AskStep (Restore c.args.name.now c.args.place.now)) refl c.in_ok-step.ensures c.requires.goes
