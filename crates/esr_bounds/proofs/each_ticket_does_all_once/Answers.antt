use Rattle.esr_bounds.proofs.Once.{heard_kept}
use Rattle.esr_bounds.proofs.each_ticket_does_all_once.Goals as goal

pub returns : goal.returns
returns c = λ f size w log k h some. (heard_kept f size (c.steps_are_lawful.ensures f size) w log h).once k some
