use Rattle.std.proofs.Common.{arith}
use Rattle.esr_handle.proofs.seat.Seat.new.Goals as goal

pub invariant_of-result : goal.invariant_of-result
invariant_of-result g c = record {
  own_is = c.requires.own.0;
  lock_is = c.requires.own.1;
  turns = (let left = c.requires.turns.0 in let used = c.requires.turns.1 in omega (arith, left, used));
  much = c.requires.much;
  used = λ going. (let used = c.requires.turns.1 in omega (arith, used));
  fit = c.requires.fit;
}
