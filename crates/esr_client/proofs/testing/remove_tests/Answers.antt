use Rattle.std.proofs.Common.{List, map, refl, sym, subst, ap, ◌∙◌}
use Rattle.esr_core.specs.Entry.{Step, ReadStep, RemoveTests, WasRemoved}
use Rattle.esr_names.specs.declared.blob.BlobName.{BlobName as CodeName}
use Rattle.esr_formats.specs.Names.{name_of}
use Rattle.esr_desk.specs.Entries.{step_of}
use Rattle.esr_repo.specs.May.{MayRemove}
use Rattle.esr_repo.specs.Stepping.{on_done}
use Rattle.esr_client.proofs.CallerSteps.{kept_caller}
use Rattle.esr_client.proofs.Verifying.{may_remove_tests, removed_did, removed_caller}
use Rattle.esr_repo.specs.Fresh.{fresh_as, goes_as, own_as}
use Rattle.esr_client.proofs.testing.remove_tests.Goals as goal

pub call_remove-requires-clause-may : goal.call_remove-requires-clause-may
call_remove-requires-clause-may g c =
    subst (λ (step : Step). MayRemove g.K.Told.start c.check.new.self 0 step (map name_of c.as_slice-names.result.now)) (sym c.in_ok-step.ensures)
    (subst (λ (names : List CodeName). MayRemove g.K.Told.start c.check.new.self 0 (ReadStep (RemoveTests (map name_of names))) (map name_of names)) (sym c.as_slice-names.ensures)
    (may_remove_tests g.K.Told.start c.args.repo.now c.check.new.self (map name_of c.args.names.now) c.in_ok-check.ensures.step.0 c.rules.ensures.read_tracked c.requires.may))

pub returns-clause-step : goal.returns-clause-step
returns-clause-step g c =
    removed_did g.K.Told.start c.args.repo.now c.check.new.self c.call_remove.new.self
    (step_of c.in_ok-step.step) c.as_slice-names.result.now c.args.names.now c.call_remove.result c.in_ok-check.ensures.step.0 c.in_ok-step.ensures c.as_slice-names.ensures c.call_remove.ensures.step

pub returns-clause-own : goal.returns-clause-own
returns-clause-own g c =
    on_done g.K.Told.start c.args.repo.now c.call_remove.new.self 0 (ReadStep (RemoveTests (map name_of c.args.names.now))) WasRemoved c.call_remove.result (returns-clause-step g c)
    (removed_caller c.entries_tell_the_caller.ensures g.K.Told.start c.args.repo.now c.call_remove.new.self (map name_of c.args.names.now))

pub returns-clause-kept : goal.returns-clause-kept
returns-clause-kept g c =
    kept_caller c.entries_tell_the_caller.ensures g.K.Told.start c.args.repo.now c.args.repo.now c.call_remove.new.self 0 (RemoveTests (map name_of c.args.names.now)) (λ _. WasRemoved) c.call_remove.result (λ is. cc) refl (returns-clause-step g c)

pub check-requires-clause-fresh : goal.check-requires-clause-fresh
check-requires-clause-fresh g c =
    fresh_as g.K.Told.start c.args.repo.now 0 (step_of c.in_ok-removes.field-0) (ReadStep (RemoveTests (map name_of c.args.names.now)))
    (c.in_ok-removes.ensures ∙ ap (λ (names : List CodeName). ReadStep (RemoveTests (map name_of names))) c.as_slice-names.ensures) c.requires.new

pub check-requires-clause-own : goal.check-requires-clause-own
check-requires-clause-own g c =
    own_as g.K.Told.start c.args.repo.now 0 (step_of c.in_ok-removes.field-0) (ReadStep (RemoveTests (map name_of c.args.names.now)))
    (c.in_ok-removes.ensures ∙ ap (λ (names : List CodeName). ReadStep (RemoveTests (map name_of names))) c.as_slice-names.ensures) tt

pub call_remove-requires-clause-goes : goal.call_remove-requires-clause-goes
call_remove-requires-clause-goes g c =
    goes_as g.K.Told.start c.check.new.self 0 (step_of c.in_ok-removes.field-0) (step_of c.in_ok-step.step) (ReadStep (RemoveTests (map name_of c.as_slice-names.result.now))) c.in_ok-removes.ensures c.in_ok-step.ensures c.in_ok-check.ensures.goes
