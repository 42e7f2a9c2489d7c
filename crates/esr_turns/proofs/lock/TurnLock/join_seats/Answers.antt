use Rattle.std.proofs.Common.{rules}
use Rattle.esr_turns.proofs.Keeps.{joins, agrees}
use Rattle.esr_turns.proofs.lock.TurnLock.join_seats.Goals as goal

pub join_seat-requires : goal.join_seat-requires
join_seat-requires g c = (search rules, search rules, search rules, search rules, joins _ _ _ _ _ _ _ c.requires.idle.0 c.requires.idle.1)

pub load-requires : goal.load-requires
load-requires g c = (search rules, search rules, agrees _ _ _ _ _ _ (search rules))
