use Rattle.std.proofs.Common.{◌∙◌, sym, ap, subst, List, Err}
use Rattle.esr_core.specs.Entry.{Moment}
use Rattle.esr_desk.specs.Start.{Legal}
use Rattle.esr_desk.specs.Evidence.{NeverFailed}
use Rattle.esr_handle.specs.Turned.{Seen}
use Rattle.esr_drive.specs.Worked.{HasSat, HasWaited}
use Rattle.esr_drive.proofs.Working.{new_first, none_since}
use Rattle.esr_drive.proofs.Closing.{waited_stopped, waited_off}
use Rattle.esr_drive.proofs.crew.sit_told.Goals as goal

pub new-requires-clause-alone : goal.new-requires-clause-alone
new-requires-clause-alone g c = λ lives within. c.requires.waits.alone

pub new-requires-clause-before : goal.new-requires-clause-before
new-requires-clause-before g c = λ lives within. c.requires.picked

pub new-requires-2 : goal.new-requires-2
new-requires-2 g c = none_since g.B.Since.before c.new.result (c.new.ensures ∙ sym c.requires.picked)

pub work_at-desk-requires-clause-new : goal.work_at-desk-requires-clause-new
work_at-desk-requires-clause-new g c = λ lives within.
    new_first g.Q.Desk.start g.B.Since.before c.in-Ok.lock c.in-Ok.pass c.new.result c.in-Ok.ensures.ok (subst (Legal g.Q.Desk.start) (sym c.requires.picked) c.is_legal.ensures.legal)
    (λ quiet. subst NeverFailed (sym c.requires.picked) (c.never_fails.ensures quiet))

pub work_at-desk-requires-clause-all : goal.work_at-desk-requires-clause-all
work_at-desk-requires-clause-all g c = λ lives within. ap (λ (p : Seen). p.left) c.in-Ok.ensures.ok

pub work_at-desk-requires-clause-some : goal.work_at-desk-requires-clause-some
work_at-desk-requires-clause-some g c = λ lives within. c.requires.waits.some

pub work_at-desk-requires-clause-few : goal.work_at-desk-requires-clause-few
work_at-desk-requires-clause-few g c = λ lives within. c.requires.waits.few

pub work_at-desk-requires-clause-workable : goal.work_at-desk-requires-clause-workable
work_at-desk-requires-clause-workable g c = λ lives within. c.requires.waits.workable

pub work_off-answer-requires-clause-alone : goal.work_off-answer-requires-clause-alone
work_off-answer-requires-clause-alone g c = λ lives within. c.requires.waits.alone

pub work_off-answer-requires-clause-outside : goal.work_off-answer-requires-clause-outside
work_off-answer-requires-clause-outside g c = λ lives within. c.requires.waits.workable.outside

pub work_off-answer-requires-clause-tracked : goal.work_off-answer-requires-clause-tracked
work_off-answer-requires-clause-tracked g c = λ lives within. c.requires.waits.workable.tracked

pub work_off-answer-requires-clause-ops : goal.work_off-answer-requires-clause-ops
work_off-answer-requires-clause-ops g c = λ lives within. c.requires.waits.workable.ops

pub returns-in-Err-answer : goal.returns-in-Err-answer
returns-in-Err-answer g c = subst (λ (old : List Moment). HasWaited g.Q.Desk.start old (g.Q.Desk.seen c.work_at-desk.result.0) c.args.crew.workers c.args.crew.elections (Err c.in-Err-answer.refusal)) c.requires.picked
    (waited_stopped g.Q.Desk.start g.B.Since.before (g.Q.Desk.seen c.work_at-desk.result.0) c.args.crew.workers c.args.crew.elections c.in-Err-answer.refusal
    (subst (HasSat g.Q.Desk.start g.B.Since.before (g.Q.Desk.seen c.work_at-desk.result.0) c.args.crew.workers c.args.crew.elections) c.in-Err-answer.is c.work_at-desk.ensures))

pub returns-in-Ok-answer : goal.returns-in-Ok-answer
returns-in-Ok-answer g c = subst (λ (old : List Moment). HasWaited g.Q.Desk.start old (g.Q.Desk.seen c.work_off-answer.new.desk) c.args.crew.workers c.args.crew.elections c.work_off-answer.result) c.requires.picked
    (waited_off c.ended_tickets_stay.ensures.tickets c.ended_tickets_stay.ensures.readers g.Q.Desk.start g.B.Since.before (g.Q.Desk.seen c.work_at-desk.result.0)
    (g.Q.Desk.seen c.work_off-answer.new.desk) c.args.crew.workers c.args.crew.elections c.work_off-answer.result c.requires.waits.alone
    (subst (HasSat g.Q.Desk.start g.B.Since.before (g.Q.Desk.seen c.work_at-desk.result.0) c.args.crew.workers c.args.crew.elections) c.in-Ok-answer.is c.work_at-desk.ensures) c.work_off-answer.ensures.grew
    c.work_off-answer.ensures.only c.work_off-answer.ensures.takes c.work_off-answer.ensures.rest c.work_off-answer.ensures.readers c.work_off-answer.ensures.ready c.work_off-answer.ensures.stopped)

pub returns-in-Err : goal.returns-in-Err
returns-in-Err g c =
    subst (λ (old : List Moment). HasWaited g.Q.Desk.start old (g.Q.Desk.seen c.work_one.result.0) c.args.crew.workers c.args.crew.elections c.work_one.result.1)
    (c.into_desk-desk.ensures ∙ c.in-Err.ensures.err ∙ c.new.ensures) c.work_one.ensures
