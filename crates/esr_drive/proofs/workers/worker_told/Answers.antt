use Rattle.std.proofs.Common.{◌++◌, length, arith}
use Rattle.esr_handle.specs.Owned.{calls_in}
use Rattle.esr_drive.proofs.Working.{outside_shared, none_called, worked_by, back_by}
use Rattle.esr_drive.proofs.workers.worker_told.Goals as goal

pub new-desk-requires-clause-own : goal.new-desk-requires-clause-own
new-desk-requires-clause-own g c = λ lives within. (c.requires.new.own, c.requires.picked.0)

pub new-desk-requires-clause-turns : goal.new-desk-requires-clause-turns
new-desk-requires-clause-turns g c = λ lives within. (c.requires.picked.1, c.requires.new.unused)

pub new-desk-requires-clause-much : goal.new-desk-requires-clause-much
new-desk-requires-clause-much g c = let left = c.requires.new.share in let is = c.requires.picked.1 in omega (arith, left, is)

pub new-desk-requires-clause-fit : goal.new-desk-requires-clause-fit
new-desk-requires-clause-fit g c = λ lives within. c.requires.new.fit

pub work-answer-requires-clause-outside : goal.work-answer-requires-clause-outside
work-answer-requires-clause-outside g c = λ lives within. outside_shared g.Q.Desk.start (g.S.Sources.told c.args.outside.now.sources.now) (g.T.Targets.told c.args.outside.now.targets.now) c.args.outside.now.part_size c.requires.workable.outside

pub work-answer-requires-clause-tracked : goal.work-answer-requires-clause-tracked
work-answer-requires-clause-tracked g c = λ lives within. c.requires.workable.tracked

pub work-answer-requires-clause-ops : goal.work-answer-requires-clause-ops
work-answer-requires-clause-ops g c = λ lives within. c.requires.workable.ops

pub returns : goal.returns
returns g c =
    let s = g.Q.Desk.start in
    let before = g.B.Since.before in
    let first = c.args.pass in
    let old = c.new-desk.result.pass in
    let last = c.work-answer.new.desk.pass in
    back_by s before c.args.lock.now g.W.Share.lock g.W.Share.total first last c.into_pass.result 1 0 c.work-answer.result c.requires.picked.0
    c.requires.picked.1 c.requires.new.unused c.into_pass.ensures.pass c.into_pass.ensures.own c.into_pass.ensures.turns c.into_pass.ensures.fit
    (worked_by s (before ++ last.seen) (calls_in (length before) old.seen old.mine) (calls_in (length before) last.seen last.mine) c.work-answer.result
    (none_called (length before) first old c.new-desk.ensures.pass c.requires.new.mine) c.work-answer.ensures.calls c.work-answer.ensures.ended c.work-answer.ensures.stopped)
