use Rattle.esr_bounds.proofs.Clients.{ended_few}
use Rattle.esr_bounds.proofs.no_more_ends_than_begins.Goals as goal

pub returns : goal.returns
returns c = λ f size w log h.
    ended_few f size (c.steps_are_lawful.ensures f size) (c.each_step_is_one_change.ensures f) (c.each_step_leaves_the_others.ensures.caller f size) w log h.tracked h.readers h.untouched.caller h.legal h.heard
