use Rattle.std.proofs.Common.{List, map, sym, subst}
use Rattle.esr_core.specs.Entry.{PruneStep, RemoveDoomed, Step}
use Rattle.esr_names.specs.declared.blob.BlobName.{BlobName as CodeName}
use Rattle.esr_formats.specs.Names.{name_of}
use Rattle.esr_desk.specs.Entries.{step_of}
use Rattle.esr_repo.specs.May.{MayRemove}
use Rattle.esr_steps.proofs.DeleteTickets.{remove_kept, removes_from}
use Rattle.esr_steps.proofs.DeleteMays.{may_remove_doomed}
use Rattle.esr_repo.specs.Fresh.{fresh_as, goes_as, own_as}
use Rattle.esr_steps.proofs.deleting.remove.Goals as goal

pub call_remove-requires-clause-may : goal.call_remove-requires-clause-may
call_remove-requires-clause-may g c =
    let s = g.K.Told.start in
    let may = may_remove_doomed s c.args.repo.now c.check.new.self c.args.ticket (map name_of c.args.names.now) c.in_ok-check.ensures.step.0 c.rules.ensures.tracked c.rules.ensures.of_ops c.requires.may in
    subst (λ (step : Step). MayRemove s c.check.new.self c.args.ticket step (map name_of c.as_slice.result.now)) (sym c.in_ok-step.ensures)
    (subst (λ (names : List CodeName). MayRemove s c.check.new.self c.args.ticket (PruneStep (RemoveDoomed (map name_of c.args.names.now))) (map name_of names)) (sym c.as_slice.ensures) may)

pub returns-clause-step : goal.returns-clause-step
returns-clause-step g c =
    removes_from g.K.Told.start c.args.repo.now c.check.new.self c.call_remove.new.self c.args.ticket (step_of c.in_ok-step.step) c.args.names.now c.call_remove.result c.in_ok-check.ensures.step.0 c.in_ok-step.ensures c.call_remove.ensures.step

pub returns-clause-own : goal.returns-clause-own
returns-clause-own g c = remove_kept g.K.Told.start c.args.repo.now c.call_remove.new.self c.args.ticket (map name_of c.args.names.now) c.call_remove.result (returns-clause-step g c)

pub check-requires-clause-fresh : goal.check-requires-clause-fresh
check-requires-clause-fresh g c = fresh_as g.K.Told.start c.args.repo.now c.args.ticket (step_of c.in_ok-removes.field-0) (PruneStep (RemoveDoomed (map name_of c.args.names.now))) c.in_ok-removes.ensures c.requires.new

pub check-requires-clause-own : goal.check-requires-clause-own
check-requires-clause-own g c = own_as g.K.Told.start c.args.repo.now c.args.ticket (step_of c.in_ok-removes.field-0) (PruneStep (RemoveDoomed (map name_of c.args.names.now))) c.in_ok-removes.ensures tt

pub call_remove-requires-clause-goes : goal.call_remove-requires-clause-goes
call_remove-requires-clause-goes g c =
    goes_as g.K.Told.start c.check.new.self c.args.ticket (step_of c.in_ok-removes.field-0) (step_of c.in_ok-step.step) (PruneStep (RemoveDoomed (map name_of c.args.names.now))) c.in_ok-removes.ensures c.in_ok-step.ensures c.in_ok-check.ensures.goes
