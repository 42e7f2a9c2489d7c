use Rattle.esr_test_steps.proofs.both.sit_at.Given as goal

abbrev pub ghosts-work_both : goal.ghosts-work_both
ghosts-work_both g a = record { lock = a.lock.now; total = a.one.left }
