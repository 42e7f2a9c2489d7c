use Rattle.esr_bounds.proofs.Verifying.{tests_few}
use Rattle.esr_bounds.proofs.each_verification_makes_few_steps.Goals as goal

pub returns : goal.returns
returns c = λ f size w log h told. tests_few f size (c.steps_are_lawful.ensures f size) (c.each_step_is_one_change.ensures f) (c.each_step_leaves_the_others.ensures.caller f size) w log h told
