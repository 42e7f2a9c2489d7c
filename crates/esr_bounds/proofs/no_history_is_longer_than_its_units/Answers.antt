use Rattle.esr_bounds.proofs.TicketCounts.{whole_asked}
use Rattle.esr_core.specs.Laws.NumberMaps.{nothing}
use Rattle.esr_bounds.proofs.no_history_is_longer_than_its_units.Goals as goal

pub returns : goal.returns
returns c = λ f size w log deleting restoring h known told none delete_few restore_few.
    whole_asked f size known (c.steps_are_lawful.ensures f size) (c.changes_are_lawful.ensures f size) (c.answers_tell_their_steps.ensures.gave f size) w log h told (λ o r there. nothing w.restores o r none there)
    (c.who_0_makes_few_steps.ensures f size w log h told) deleting restoring delete_few restore_few
