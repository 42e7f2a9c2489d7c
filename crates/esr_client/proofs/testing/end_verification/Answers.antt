use Rattle.esr_core.specs.Entry.{ReadStep, VerifiedAll, HasEnded}
use Rattle.esr_repo.specs.Stepping.{on_done}
use Rattle.esr_client.proofs.CallerSteps.{kept_caller}
use Rattle.esr_client.proofs.Verifying.{may_note_verified, verified_caller}
use Rattle.esr_repo.specs.Fresh.{free_fresh}
use Rattle.esr_client.proofs.testing.end_verification.Goals as goal

pub note-requires-clause-may : goal.note-requires-clause-may
note-requires-clause-may g c = may_note_verified g.K.Told.start c.args.repo.now c.check.new.self c.next_id-next.result.number c.in_ok-check.ensures.step.0 c.requires.may c.next_id-next.ensures.number

pub returns-clause-own : goal.returns-clause-own
returns-clause-own g c = on_done g.K.Told.start c.check.new.self c.note.new.self 0 (ReadStep VerifiedAll) HasEnded c.note.result c.note.ensures.step (verified_caller c.entries_tell_the_caller.ensures g.K.Told.start c.check.new.self c.note.new.self)

pub returns-clause-kept : goal.returns-clause-kept
returns-clause-kept g c = kept_caller c.entries_tell_the_caller.ensures g.K.Told.start c.args.repo.now c.check.new.self c.note.new.self 0 VerifiedAll (λ _. HasEnded) c.note.result (λ is. cc) c.in_ok-check.ensures.step.0 c.note.ensures.step

pub check-requires-clause-fresh : goal.check-requires-clause-fresh
check-requires-clause-fresh g c = free_fresh g.K.Told.start c.args.repo.now 0 (ReadStep VerifiedAll) tt
