use Rattle.esr_desk.proofs.Numbers.{none_made}
use Rattle.esr_desk.proofs.law.each_ticket_is_new.Goals as goal

pub returns : goal.returns
returns c = none_made c.each_step_is_one_change.ensures c.each_step_has_its_maker.ensures c.answers_tell_their_steps.ensures.gave
