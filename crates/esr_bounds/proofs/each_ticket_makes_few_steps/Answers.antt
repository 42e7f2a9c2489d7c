use Rattle.esr_bounds.proofs.Bounded.{shard_few, final_few, drop_few}
use Rattle.esr_bounds.proofs.each_ticket_makes_few_steps.Goals as goal

pub returns-clause-shard : goal.returns-clause-shard
returns-clause-shard c = λ f size w log k index number t h known some there is. shard_few f size known (c.steps_are_lawful.ensures f size) w log h k t some there index number is

pub returns-clause-finalization : goal.returns-clause-finalization
returns-clause-finalization c = λ f size w log k t info results made h known some there is. final_few f size known (c.steps_are_lawful.ensures f size) w log h k t some there info results made is

pub returns-clause-drop : goal.returns-clause-drop
returns-clause-drop c = λ f size w log k t h known some there is. drop_few f size known (c.steps_are_lawful.ensures f size) w log h k t some there is
