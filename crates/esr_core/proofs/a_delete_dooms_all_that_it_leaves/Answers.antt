use Rattle.esr_core.proofs.DoomsAll.{dooms_all, dooms_root}
use Rattle.esr_core.proofs.a_delete_dooms_all_that_it_leaves.Goals as goal

pub returns : goal.returns
returns c = record { reached = λ f w shelf k s l present deletes tidy. dooms_all f w shelf l k s present deletes tidy; root = λ f w shelf k s l present deletes. dooms_root f w shelf l k s present deletes }
