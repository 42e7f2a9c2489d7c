use Rattle.std.proofs.Common.{◌≡◌, vec_len}
use Rattle.esr_model.specs.Places.{sorted_by}
use Rattle.esr_targets.specs.Listed.{target_first}
use Rattle.esr_targets.proofs.Sorting.{put_all}
use Rattle.esr_targets.proofs.list.sorted.Given as goal

abbrev pub invariant-loop-last : goal.invariant-loop-last
invariant-loop-last g l = sorted_by target_first l.fn.found.items ≡ put_all target_first l.left.items l.sorted.items

abbrev pub decreases-loop-last : goal.decreases-loop-last
decreases-loop-last g l = vec_len l.left
