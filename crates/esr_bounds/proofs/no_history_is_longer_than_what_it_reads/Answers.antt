use Rattle.esr_bounds.proofs.ToldTotals.{whole_told}
use Rattle.esr_bounds.proofs.no_history_is_longer_than_what_it_reads.Goals as goal

pub returns : goal.returns
returns c = λ f size w log h known told. whole_told f size known (c.steps_are_lawful.ensures f size) (c.changes_are_lawful.ensures f size) w log h told (c.answers_tell_their_steps.ensures.gave f size)
