use Rattle.esr_core.proofs.PruneTurns.{was_reached, is_left}
use Rattle.esr_core.proofs.a_delete_dooms_what_it_leaves.Goals as goal

pub returns : goal.returns
returns c = record { was = λ f w shelf k s l present deletes. was_reached f w shelf l k s present deletes; left = λ f w shelf k s l present. is_left f w shelf l k s present }
