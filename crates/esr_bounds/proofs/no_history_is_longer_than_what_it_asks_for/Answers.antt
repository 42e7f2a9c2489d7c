use Rattle.esr_bounds.proofs.Totals.{whole}
use Rattle.esr_bounds.proofs.no_history_is_longer_than_what_it_asks_for.Goals as goal

pub returns : goal.returns
returns c = λ f size w log h known. whole f size known (c.steps_are_lawful.ensures f size) (c.changes_are_lawful.ensures f size) (c.answers_tell_their_steps.ensures.gave f size) w log h
