use Rattle.esr_drive.proofs.workers.elector.Given as goal

abbrev pub ghosts-elector_told : goal.ghosts-elector_told
ghosts-elector_told g a = record { lock = a.lock.now; total = a.pass.left }
