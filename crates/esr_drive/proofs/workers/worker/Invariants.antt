use Rattle.esr_drive.proofs.workers.worker.Given as goal

abbrev pub ghosts-worker_told : goal.ghosts-worker_told
ghosts-worker_told g a = record { lock = a.lock.now; total = a.pass.left }
