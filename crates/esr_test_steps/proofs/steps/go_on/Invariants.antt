use Rattle.esr_test_steps.proofs.steps.go_on.Given as goal

abbrev pub ghosts-sit_told : goal.ghosts-sit_told
ghosts-sit_told g a = record { before = g.Q.Desk.seen a.desk }
