use Rattle.std.proofs.Common.{ap, ◌∙◌}
use Rattle.std.specs.FinMap as fin
use Rattle.esr_core.specs.World.{World}
use Rattle.esr_ready_trials.proofs.a_snapshot_that_is_being_finalized_is_not_aborted.Goals as goal

pub returns-clause-asked : goal.returns-clause-asked
returns-clause-asked c = λ w new uuids h k swap. ap (λ (x : World). fin.get x.ops swap.t.op) h.new_is ∙ h.unfinal k swap.t swap.there swap.out swap.unsettled swap.present swap.swaps

pub returns-clause-merged : goal.returns-clause-merged
returns-clause-merged c = λ w new uuids d h k swap. ap (λ (x : World). fin.get x.ops swap.t.op) h.new_is ∙ h.unfinal k swap.t swap.there swap.out swap.unsettled swap.present swap.swaps
