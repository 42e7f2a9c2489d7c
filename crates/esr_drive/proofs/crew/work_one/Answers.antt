use Rattle.std.proofs.Common.{◌+◌, ◌≤◌, arith}
use Rattle.esr_drive.specs.Takes.{idle_takes}
use Rattle.esr_drive.proofs.crew.work_one.Goals as goal

pub work_alone-answer-requires-clause-alone : goal.work_alone-answer-requires-clause-alone
work_alone-answer-requires-clause-alone g c = λ lives within. c.requires.alone

pub work_alone-answer-requires-clause-outside : goal.work_alone-answer-requires-clause-outside
work_alone-answer-requires-clause-outside g c = λ lives within. c.requires.workable.outside

pub work_alone-answer-requires-clause-tracked : goal.work_alone-answer-requires-clause-tracked
work_alone-answer-requires-clause-tracked g c = λ lives within. c.requires.workable.tracked

pub work_alone-answer-requires-clause-ops : goal.work_alone-answer-requires-clause-ops
work_alone-answer-requires-clause-ops g c = λ lives within. c.requires.workable.ops

pub work_alone-answer-requires-clause-legal : goal.work_alone-answer-requires-clause-legal
work_alone-answer-requires-clause-legal g c = λ lives within. c.is_legal.ensures.legal

pub returns : goal.returns
returns g c =
    let told = c.work_alone-answer.ensures in
    let some : 1 ≤ c.args.crew.workers = c.requires.some in
    let few : idle_takes (g.Q.Desk.seen c.work_alone-answer.new.desk) ≤ idle_takes (g.Q.Desk.seen c.args.desk) + 1 = told.takes in
    record { grew = told.grew; only = told.only; takes = omega (arith, some, few); elected = told.elects; rest = told.rest; readers = told.readers; ready = told.ready; stopped = told.stopped }
