use Rattle.esr_test_steps.proofs.steps.made.Goals as goal

pub play_steps-desk-requires-clause-sources : goal.play_steps-desk-requires-clause-sources
play_steps-desk-requires-clause-sources g c κs within = c.requires.outside.told

pub play_steps-desk-requires-clause-size : goal.play_steps-desk-requires-clause-size
play_steps-desk-requires-clause-size g c κs within = c.requires.outside.size

pub play_steps-desk-requires-clause-alone : goal.play_steps-desk-requires-clause-alone
play_steps-desk-requires-clause-alone g c κs within = c.requires.alone

pub play_steps-desk-requires-clause-earlier : goal.play_steps-desk-requires-clause-earlier
play_steps-desk-requires-clause-earlier g c κs within = c.requires.earlier

pub play_steps-desk-requires-clause-workable : goal.play_steps-desk-requires-clause-workable
play_steps-desk-requires-clause-workable g c κs within = record { outside = c.requires.outside; tracked = c.requires.begun.read_tracked; ops = c.requires.begun.order.tracked }
