use Rattle.esr_test_steps.proofs.steps.play_steps.Goals as goal

pub go_on-desk-requires-clause-workable : goal.go_on-desk-requires-clause-workable
go_on-desk-requires-clause-workable g c κs within = c.requires.workable
