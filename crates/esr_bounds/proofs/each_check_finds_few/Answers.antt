use Rattle.esr_bounds.proofs.Checks.{checks_few}
use Rattle.esr_bounds.proofs.each_check_finds_few.Goals as goal

pub returns : goal.returns
returns c = λ f size w log h told.
    checks_few f size (c.steps_are_lawful.ensures f size) (c.each_step_is_one_change.ensures f) (c.each_step_leaves_the_others.ensures.caller f size) (c.each_step_changes_blobs_so.ensures f size) w log h told
