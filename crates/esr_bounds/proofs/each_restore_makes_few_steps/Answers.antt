use Rattle.esr_bounds.proofs.Pieces.{restore_few}
use Rattle.esr_bounds.proofs.each_restore_makes_few_steps.Goals as goal

pub returns : goal.returns
returns c = λ f size w log k q h told some there. restore_few f size (c.steps_are_lawful.ensures f size) w log h told k q some there
