use Rattle.esr_bounds.proofs.Listed.{listed_few}
use Rattle.esr_bounds.proofs.no_ticket_lists_more_than_there_was.Goals as goal

pub returns : goal.returns
returns c = λ f size w log k t h known told there. listed_few f size known (c.steps_are_lawful.ensures f size) (c.each_step_changes_blobs_so.ensures f size) w log h told k t there
