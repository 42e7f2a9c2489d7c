use Rattle.esr_bounds.proofs.Prunes.{delete_few}
use Rattle.esr_bounds.proofs.each_delete_makes_few_steps.Goals as goal

pub returns : goal.returns
returns c = λ f size w log k t uuids plan h known told some there is. delete_few f size known (c.steps_are_lawful.ensures f size) (c.changes_are_lawful.ensures f size) w log h told k t some there uuids plan is
