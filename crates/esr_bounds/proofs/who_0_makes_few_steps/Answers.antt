use Rattle.esr_bounds.proofs.Idle.{client_few}
use Rattle.esr_bounds.proofs.who_0_makes_few_steps.Goals as goal

pub returns : goal.returns
returns c = λ f size w log h told. client_few f size (c.steps_are_lawful.ensures f size) w log h (c.no_more_ends_than_begins.ensures f size w log h) (c.each_verification_makes_few_steps.ensures f size w log h told)
