use Rattle.esr_core.specs.Laws.NumberMaps.{nothing}
use Rattle.esr_bounds.proofs.Writes.{writes_few}
use Rattle.esr_bounds.proofs.no_more_is_written_than_asked.Goals as goal

pub returns : goal.returns
returns c = λ f size w log h known told one_each none.
    writes_few f size known (c.steps_are_lawful.ensures f size) (c.changes_are_lawful.ensures f size) (c.answers_tell_their_steps.ensures.gave f size) w log h told one_each (λ o r there. nothing w.restores o r none there)
    (c.each_verification_makes_few_steps.ensures f size w log h told)
