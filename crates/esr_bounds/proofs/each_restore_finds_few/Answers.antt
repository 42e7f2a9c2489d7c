use Rattle.esr_bounds.proofs.Found.{restore_found}
use Rattle.esr_bounds.proofs.each_restore_finds_few.Goals as goal

pub returns : goal.returns
returns c = λ f size w log k q h told some there. restore_found f size (c.steps_are_lawful.ensures f size) (c.each_step_changes_blobs_so.ensures f size) w log h told k q some there
