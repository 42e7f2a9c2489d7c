use Rattle.std.proofs.Common.{sym, subst, List}
use Rattle.esr_core.specs.Entry.{Step, HasEnded, Moment}
use Rattle.esr_desk.specs.Entries.{why_of, step_of}
use Rattle.esr_desk.specs.Own.{caller_of}
use Rattle.esr_desk.specs.Hands.{fail_step, MayFail}
use Rattle.esr_repo.specs.Next.{Did}
use Rattle.esr_repo.specs.May.{MayNote}
use Rattle.esr_repo.specs.Stepping.{did_from}
use Rattle.esr_repo.specs.Fresh.{fresh_as, goes_as, own_as}
use Rattle.esr_steps.proofs.HandSteps.{fail_free, fail_reads, may_fail_by, fail_own, fail_own_kept}
use Rattle.esr_steps.proofs.hands.fail.Goals as goal

pub failed-requires-clause-may : goal.failed-requires-clause-may
failed-requires-clause-may g c = subst (λ (log : List Moment). MayFail c.args.hand g.K.Told.start log c.args.who) (sym c.in_ok-check.ensures.step.0) c.requires.may

pub check-requires-clause-fresh : goal.check-requires-clause-fresh
check-requires-clause-fresh g c =
    fresh_as g.K.Told.start c.args.repo.now c.args.who (step_of c.fails.result) (fail_step c.args.hand (why_of c.args.why)) c.fails.ensures (fail_free c.args.hand g.K.Told.start c.args.repo.now c.args.who (why_of c.args.why))

pub check-requires-clause-own : goal.check-requires-clause-own
check-requires-clause-own g c =
    own_as g.K.Told.start c.args.repo.now c.args.who (step_of c.fails.result) (fail_step c.args.hand (why_of c.args.why)) c.fails.ensures (fail_reads c.args.hand (caller_of g.K.Told.start c.args.repo.now) c.args.who (why_of c.args.why))

pub note-requires-clause-goes : goal.note-requires-clause-goes
note-requires-clause-goes g c =
    goes_as g.K.Told.start c.check.new.self c.args.who (step_of c.fails.result) (step_of c.fails-2.result) (fail_step c.args.hand (why_of c.args.why)) c.fails.ensures c.fails-2.ensures c.in_ok-check.ensures.goes

pub note-requires-clause-may : goal.note-requires-clause-may
note-requires-clause-may g c =
    subst (λ (step : Step). MayNote g.K.Told.start c.check.new.self c.args.who step HasEnded c.in_ok-progress.progress c.next_id-next.result.number) (sym c.fails-2.ensures)
    (may_fail_by c.args.hand g.K.Told.start c.args.repo.now c.check.new.self c.args.who (why_of c.args.why) c.in_ok-progress.progress c.next_id-next.result.number c.in_ok-check.ensures.step.0
    c.rules.ensures.tracked c.rules.ensures.read_tracked c.rules.ensures.of_ops c.requires.may c.in_ok-progress.ensures c.next_id-next.ensures.number)

pub returns-clause-step : goal.returns-clause-step
returns-clause-step g c =
    did_from g.K.Told.start c.args.repo.now c.check.new.self c.note.new.self c.args.who (fail_step c.args.hand (why_of c.args.why)) (λ _. HasEnded) c.note.result c.in_ok-check.ensures.step.0
    (subst (λ (step : Step). Did g.K.Told.start c.check.new.self c.note.new.self c.args.who step (λ _. HasEnded) c.note.result) c.fails-2.ensures c.note.ensures.step)

pub returns-clause-own : goal.returns-clause-own
returns-clause-own g c =
    fail_own c.entries_tell_the_caller.ensures c.args.hand g.K.Told.start c.args.repo.now c.check.new.self c.note.new.self c.args.who
    (why_of c.args.why) c.note.result c.in_ok-check.ensures.step.0 c.rules.ensures.tracked c.rules.ensures.read_tracked c.requires.may
    (subst (λ (step : Step). Did g.K.Told.start c.check.new.self c.note.new.self c.args.who step (λ _. HasEnded) c.note.result) c.fails-2.ensures c.note.ensures.step)

pub returns-clause-kept : goal.returns-clause-kept
returns-clause-kept g c =
    fail_own_kept c.entries_tell_the_caller.ensures c.args.hand g.K.Told.start c.args.repo.now c.check.new.self c.note.new.self c.args.who (why_of c.args.why) c.note.result c.in_ok-check.ensures.step.0
    (subst (λ (step : Step). Did g.K.Told.start c.check.new.self c.note.new.self c.args.who step (λ _. HasEnded) c.note.result) c.fails-2.ensures c.note.ensures.step)
