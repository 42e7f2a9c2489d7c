use Rattle.std.proofs.Common.{◌≡◌, ◌++◌}
use Rattle.std.specs.Vec.Iter.{into_iter_items}
use Rattle.esr_targets.specs.Listed.{listed}
use Rattle.esr_targets.proofs.list.listed.Given as goal

abbrev pub invariant-loop-filled : goal.invariant-loop-filled
invariant-loop-filled g l = listed l.ops l.fn.restored ≡ l.found.items ++ listed l.ops (into_iter_items l.filled-iterator)
