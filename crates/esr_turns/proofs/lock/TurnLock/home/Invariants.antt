use Rattle.std.proofs.Common.{length, drop}
use Rattle.esr_turns.proofs.lock.TurnLock.home.Given as goal

abbrev pub ghosts-count : goal.ghosts-count
ghosts-count g a = record { added = drop (length a.seat.now.me.0.seen) (g.T.Logged.history a.value.now) }
