use Rattle.std.proofs.Common.{◌++◌, length, arith}
use Rattle.esr_handle.specs.Owned.{calls_in}
use Rattle.esr_drive.proofs.Working.{none_called, elected_by, back_by}
use Rattle.esr_drive.proofs.workers.elector_told.Goals as goal

pub new-desk-requires-clause-own : goal.new-desk-requires-clause-own
new-desk-requires-clause-own g c = λ lives within. (c.requires.new.own, c.requires.picked.0)

pub new-desk-requires-clause-turns : goal.new-desk-requires-clause-turns
new-desk-requires-clause-turns g c = λ lives within. (c.requires.picked.1, c.requires.new.unused)

pub new-desk-requires-clause-much : goal.new-desk-requires-clause-much
new-desk-requires-clause-much g c = let left = c.requires.new.share in let is = c.requires.picked.1 in omega (arith, left, is)

pub new-desk-requires-clause-fit : goal.new-desk-requires-clause-fit
new-desk-requires-clause-fit g c = λ lives within. c.requires.new.fit

pub returns : goal.returns
returns g c =
    let s = g.Q.Desk.start in
    let before = g.B.Since.before in
    let first = c.args.pass in
    let old = c.new-desk.result.pass in
    let last = c.elect_often-answer.new.desk.pass in
    back_by s before c.args.lock.now g.W.Share.lock g.W.Share.total first last c.into_pass.result 0 c.args.times c.elect_often-answer.result c.requires.picked.0
    c.requires.picked.1 c.requires.new.unused c.into_pass.ensures.pass c.into_pass.ensures.own c.into_pass.ensures.turns c.into_pass.ensures.fit
    (elected_by s (before ++ last.seen) (calls_in (length before) old.seen old.mine) (calls_in (length before) last.seen last.mine) c.args.times c.elect_often-answer.result
    (none_called (length before) first old c.new-desk.ensures.pass c.requires.new.mine) c.elect_often-answer.ensures.calls c.elect_often-answer.ensures.stopped)
