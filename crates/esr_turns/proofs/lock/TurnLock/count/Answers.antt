use Rattle.std.proofs.Common.{rules, length, ap, arith, length-append}
use Rattle.esr_turns.proofs.Keeps.{counts}
use Rattle.esr_turns.proofs.lock.TurnLock.count.Goals as goal

pub fetch_add-requires : goal.fetch_add-requires
fetch_add-requires g c =
    let one = c.requires.added.1 in
    let a = ap length c.requires.added.0 in
    let b = length-append c.args.seat.now.me.0.seen g.J.Adds.added in
    let d = c.requires.lifted.1 in
    let e = c.entries.ensures in
    (search rules, search rules, counts _ _ _ _ _ _ c.args.ticket _ _ c.requires.lifted.0 (omega arith) (omega arith) c.requires.may)
