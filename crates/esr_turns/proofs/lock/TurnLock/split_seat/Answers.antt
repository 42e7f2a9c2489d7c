use Rattle.std.proofs.Common.{rules}
use Rattle.esr_turns.proofs.Keeps.{splits}
use Rattle.esr_turns.proofs.lock.TurnLock.split_seat.Goals as goal

pub split_seat-requires : goal.split_seat-requires
split_seat-requires g c = (search rules, search rules, splits _ _ _ _ _ g.J.Share.share c.requires.idle (rw c.requires.picked c.requires.share))
