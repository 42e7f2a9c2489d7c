use Rattle.std.proofs.Common.{rules}
use Rattle.esr_client.proofs.Verifying.{may_note_draw_test, may_refuse_draw_test, drawn_caller, refused_draw, drew_caller, first_draw, tested_none}
use Rattle.esr_client.proofs.testing.draw_test.Goals as goal

pub refuse-requires-clause-may : goal.refuse-requires-clause-may
refuse-requires-clause-may g c = may_refuse_draw_test g.K.Told.start c.args.repo.now c.check.new.self c.next_id-first.result.number c.in_ok-check.ensures.step.0 c.requires.may c.next_id-first.ensures.number c.in_default.ensures.next

pub note-requires-clause-may : goal.note-requires-clause-may
note-requires-clause-may g c =
    may_note_draw_test g.K.Told.start c.args.repo.now c.check.new.self c.next_id-first.result.number c.in-Some.next.number c.in_ok-check.ensures.step.0 c.requires.may c.next_id-first.ensures.number c.in-Some.ensures.next.0 c.in-Some.ensures.next.1

pub returns-in_err-check-clause-own : goal.returns-in_err-check-clause-own
returns-in_err-check-clause-own g c = drew_caller c.entries_tell_the_caller.ensures g.K.Told.start c.args.repo.now c.check.new.self c.from_residual.result (search rules)

pub returns-clause-own : goal.returns-clause-own
returns-clause-own g c = drawn_caller c.entries_tell_the_caller.ensures g.K.Told.start c.args.repo.now c.check.new.self c.note.new.self c.next_id-first.result.number c.in_ok-check.ensures.step.0 c.in_ok-note.ensures.step

pub returns-in_default-clause-own : goal.returns-in_default-clause-own
returns-in_default-clause-own g c = refused_draw c.entries_tell_the_caller.ensures g.K.Told.start c.args.repo.now c.check.new.self c.refuse.new.self c.refuse.result c.in_ok-check.ensures.step.0 c.refuse.ensures.step

pub check-requires-clause-fresh : goal.check-requires-clause-fresh
check-requires-clause-fresh g c = first_draw g.K.Told.start c.args.repo.now c.rules.ensures.client c.requires.may

pub returns-clause-new : goal.returns-clause-new
returns-clause-new g c = tested_none g.K.Told.start c.args.repo.now c.check.new.self c.note.new.self c.next_id-first.result.number c.in_ok-check.ensures.step.0 c.rules.ensures.client c.requires.may c.in_ok-note.ensures.step
