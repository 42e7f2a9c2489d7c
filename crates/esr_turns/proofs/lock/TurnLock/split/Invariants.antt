use Rattle.esr_turns.proofs.lock.TurnLock.split.Given as goal

abbrev pub ghosts-split_seat : goal.ghosts-split_seat
ghosts-split_seat g a = record { share = a.share }
