use Rattle.esr_desk.proofs.Numbers.{below_next, is_next}
use Rattle.esr_desk.proofs.law.each_ticket_is_given_once.Goals as goal

pub returns-clause-below : goal.returns-clause-below
returns-clause-below c = below_next c.each_step_is_one_change.ensures c.answers_tell_their_steps.ensures.gave

pub returns-clause-next : goal.returns-clause-next
returns-clause-next c = is_next c.answers_tell_their_steps.ensures.gave
