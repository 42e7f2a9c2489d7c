use Rattle.std.proofs.Common.{◌≡◌, ◌⊎◌, ℕ, ◌+◌, ◌^◌, ◌≤◌, length, Result, Ok, Err, OnOk, arith}
use Rattle.std.specs.declared.alloc.AllocError.{AllocError}
use Rattle.esr_drive.specs.Takes.{idle_takes}
use Rattle.esr_drive.specs.Elections.{elections}
use Rattle.esr_complete.specs.Answers.{IsIdle}
use Rattle.esr_complete.specs.Lines.{steps_of, failovers_of}
use Rattle.esr_run.specs.Checked.{asks_check}
use Rattle.esr_run.specs.Made.{HasStopped, WasLeft, AreIn, AreMade, AreDone}
use Rattle.esr_run.specs.Waits.{waits_of}
use Rattle.esr_run.proofs.Making.{made_then, done_then, apart_then}
use Rattle.esr_run.proofs.Going.{ok_is}
use Rattle.esr_run.proofs.carry.carry.Goals as goal

pub work_out-requires-clause-waits : goal.work_out-requires-clause-waits
work_out-requires-clause-waits g c κs within = c.requires.waits

pub work_out-requires-clause-legal : goal.work_out-requires-clause-legal
work_out-requires-clause-legal g c κs within = c.carry_lines-desk.ensures.made.grew.legal c.requires.may.legal

pub returns-in-Ok-clause-made : goal.returns-in-Ok-clause-made
returns-in-Ok-clause-made g c =
    made_then g.Q.Desk.start (steps_of c.args.moment c.args.lines.now) (g.Q.Desk.seen c.args.desk) (g.Q.Desk.seen c.carry_lines-desk.result.0) (g.Q.Desk.seen c.work_out.result.0) c.carry_lines-desk.ensures.made c.work_out.ensures.grew

pub returns-in-Ok-clause-done : goal.returns-in-Ok-clause-done
returns-in-Ok-clause-done g c = go c.work_out.result.1 c.work_out.ensures.done c.work_out.ensures.elected
  where
    go : (r : Result Unit AllocError) → OnOk r (AreIn g.Q.Desk.start (g.Q.Desk.seen c.carry_lines-desk.result.0) → IsIdle g.Q.Desk.start (g.Q.Desk.seen c.work_out.result.0) ⊎ HasStopped (g.Q.Desk.seen c.work_out.result.0))
        → OnOk r ((elections (g.Q.Desk.seen c.work_out.result.0) ≡ elections (g.Q.Desk.seen c.carry_lines-desk.result.0) + c.in-Ok.elections) ⊎ (2 ^ 33 ≤ length (g.Q.Desk.seen c.work_out.result.0)))
        → OnOk r (AreIn g.Q.Desk.start (g.Q.Desk.seen c.args.desk) → AreDone g.Q.Desk.start c.args.moment c.args.lines.now (g.Q.Desk.seen c.args.desk) (g.Q.Desk.seen c.work_out.result.0)
        ⊎ WasLeft g.Q.Desk.start c.args.moment 0 c.args.lines.now (g.Q.Desk.seen c.args.desk) (g.Q.Desk.seen c.work_out.result.0))
    go (Ok x) done elected = done_then g.Q.Desk.start c.args.moment c.in-Ok.elections c.args.lines.now (g.Q.Desk.seen c.args.desk) (g.Q.Desk.seen c.carry_lines-desk.result.0) (g.Q.Desk.seen c.work_out.result.0)
        (ok_is (λ (owed : ℕ). AreIn g.Q.Desk.start (g.Q.Desk.seen c.args.desk)
        → AreMade g.Q.Desk.start c.args.moment owed c.args.lines.now (g.Q.Desk.seen c.args.desk) (g.Q.Desk.seen c.carry_lines-desk.result.0) ⊎ WasLeft g.Q.Desk.start c.args.moment owed c.args.lines.now
        (g.Q.Desk.seen c.args.desk) (g.Q.Desk.seen c.carry_lines-desk.result.0)) c.carry_lines-desk.result.1 c.in-Ok.elections c.in-Ok.is c.carry_lines-desk.ensures.rests) c.work_out.ensures.grew
        c.work_out.ensures.only elected done c.work_out.ensures.closed
    go (Err e) done elected = tt

pub returns-in-Ok-clause-whole : goal.returns-in-Ok-clause-whole
returns-in-Ok-clause-whole g c = c.work_out.ensures.whole c.args.workers (asks_check c.args.lines.now) c.carry_lines-desk.ensures.whole

pub returns-in-Ok-clause-takes : goal.returns-in-Ok-clause-takes
returns-in-Ok-clause-takes g c =
    let few : idle_takes (g.Q.Desk.seen c.carry_lines-desk.result.0) ≤ idle_takes (g.Q.Desk.seen c.args.desk) + waits_of c.args.workers c.args.lines.now = c.carry_lines-desk.ensures.takes in
    let last : idle_takes (g.Q.Desk.seen c.work_out.result.0) ≤ idle_takes (g.Q.Desk.seen c.carry_lines-desk.result.0) + c.args.workers = c.work_out.ensures.takes in
    omega (arith, few, last)

pub returns-in-Ok-clause-elects : goal.returns-in-Ok-clause-elects
returns-in-Ok-clause-elects g c =
    let few : elections (g.Q.Desk.seen c.carry_lines-desk.result.0) + c.in-Ok.elections ≤ elections (g.Q.Desk.seen c.args.desk) + failovers_of c.args.lines.now =
    ok_is (λ (owed : ℕ). elections (g.Q.Desk.seen c.carry_lines-desk.result.0) + owed ≤ elections (g.Q.Desk.seen c.args.desk) + failovers_of c.args.lines.now)
    c.carry_lines-desk.result.1 c.in-Ok.elections c.in-Ok.is c.carry_lines-desk.ensures.owes in
    let last : elections (g.Q.Desk.seen c.work_out.result.0) ≤ elections (g.Q.Desk.seen c.carry_lines-desk.result.0) + c.in-Ok.elections = c.work_out.ensures.elects in
    omega (arith, few, last)

pub returns-in-Err-clause-takes : goal.returns-in-Err-clause-takes
returns-in-Err-clause-takes g c =
    let few : idle_takes (g.Q.Desk.seen c.carry_lines-desk.result.0) ≤ idle_takes (g.Q.Desk.seen c.args.desk) + waits_of c.args.workers c.args.lines.now = c.carry_lines-desk.ensures.takes in
    omega (arith, few)

pub returns-in-Ok-clause-apart : goal.returns-in-Ok-clause-apart
returns-in-Ok-clause-apart g c =
    apart_then g.Q.Desk.start c.args.moment c.in-Ok.elections c.args.lines.now (g.Q.Desk.seen c.args.desk) (g.Q.Desk.seen c.carry_lines-desk.result.0) (g.Q.Desk.seen c.work_out.result.0) c.carry_lines-desk.ensures.apart
    (ok_is (λ (owed : ℕ). AreIn g.Q.Desk.start (g.Q.Desk.seen c.args.desk) → AreMade g.Q.Desk.start c.args.moment owed c.args.lines.now (g.Q.Desk.seen c.args.desk) (g.Q.Desk.seen c.carry_lines-desk.result.0)
    ⊎ WasLeft g.Q.Desk.start c.args.moment owed c.args.lines.now (g.Q.Desk.seen c.args.desk) (g.Q.Desk.seen c.carry_lines-desk.result.0)) c.carry_lines-desk.result.1 c.in-Ok.elections c.in-Ok.is c.carry_lines-desk.ensures.rests)
    c.work_out.ensures.only

pub returns-in-Err-clause-apart : goal.returns-in-Err-clause-apart
returns-in-Err-clause-apart g c = c.carry_lines-desk.ensures.apart
