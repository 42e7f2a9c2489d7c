use Rattle.std.proofs.Common.{◌*◌, ◌^◌, arith}
use Rattle.esr_drive.specs.Members.{members}
use Rattle.esr_drive.proofs.Joining.{back_both}
use Rattle.esr_drive.proofs.Working.{new_less, split_turns}
use Rattle.esr_drive.proofs.workers.+drive_and_elect+fn-drive_and_elect-join+arg3.Goals as goal

pub member-requires-clause-new : goal.member-requires-clause-new
member-requires-clause-new g t c = λ lives within.
    new_less g.Q.Desk.start g.B.Since.before c.args.lock.now (members c.args.crew.workers c.args.crew.elections * 2 ^ 33) c.args.pass c.requires.new (2 ^ 33) (omega arith)

pub returns : goal.returns
returns g t c =
    let whole = c.args.pass in
    let one = c.split-rest.result.1 in
    let rest = c.split-rest.result.0 in
    back_both c.ended_tickets_stay.ensures.over g.Q.Desk.start g.B.Since.before c.args.lock.now whole one rest c.join-one.result.0.0 c.join-one.result.1.0 c.join.result
    c.split.result.0.workers c.split.result.1.workers c.split.result.0.elections c.split.result.1.elections c.args.crew.workers c.args.crew.elections
    c.join-one.result.0.1 c.join-one.result.1.1 c.graver-answer.result
    (split_turns (2 ^ 33) whole one rest c.split-rest.ensures.old_turns c.split-rest.ensures.new_turns) c.join-one.ensures.first c.join-one.ensures.second
    c.join.ensures.own c.join.ensures.seen c.join.ensures.both c.join.ensures.mine c.join.ensures.turns c.split.ensures.workers c.split.ensures.elections c.graver-answer.ensures
