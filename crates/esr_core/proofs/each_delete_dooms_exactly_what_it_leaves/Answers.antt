use Rattle.esr_core.proofs.TidyHistories.{exact_over, settled_exact}
use Rattle.esr_core.proofs.each_delete_dooms_exactly_what_it_leaves.Goals as goal

pub returns : goal.returns
returns c = record { may = exact_over; settled = settled_exact }
