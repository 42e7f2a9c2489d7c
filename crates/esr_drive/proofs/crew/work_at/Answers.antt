use Rattle.std.proofs.Common.{◌≡◌, ◌≤◌, ◌*◌, ◌^◌, arith}
use Rattle.esr_drive.specs.Members.{members}
use Rattle.esr_drive.proofs.Closing.{sat_by}
use Rattle.esr_drive.proofs.Working.{new_less}
use Rattle.esr_drive.proofs.crew.work_at.Goals as goal

pub drive_and_elect-pass-requires-clause-new : goal.drive_and_elect-pass-requires-clause-new
drive_and_elect-pass-requires-clause-new g c = λ lives within.
    let few : c.args.crew.workers ≤ 64 = c.requires.few in
    new_less g.Q.Desk.start g.B.Since.before c.args.lock (2 ^ 40) c.args.pass c.requires.new (members c.args.crew.workers c.args.crew.elections * 2 ^ 33) (omega (arith, few))

pub close-requires-clause-own : goal.close-requires-clause-own
close-requires-clause-own g c = λ lives within. c.drive_and_elect-pass.ensures.own

pub close-requires-clause-all : goal.close-requires-clause-all
close-requires-clause-all g c =
    let turns = c.drive_and_elect-pass.ensures.turns in
    let left : c.args.pass.left ≡ 2 ^ 40 = c.requires.all in
    let used : c.args.pass.used ≡ 0 = c.requires.new.unused in
    omega (arith, turns, left, used)

pub returns : goal.returns
returns g c = sat_by g.Q.Desk.start g.B.Since.before c.args.lock c.args.pass c.drive_and_elect-pass.result.0
    (g.Q.Desk.seen c.close.result) c.args.crew.workers c.args.crew.elections c.drive_and_elect-pass.result.1 c.drive_and_elect-pass.ensures c.close.ensures.whole c.close.ensures.mine
