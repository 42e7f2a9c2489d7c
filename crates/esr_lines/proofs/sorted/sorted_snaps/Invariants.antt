use Rattle.std.proofs.Common.{◌≡◌, drop, take, map, length}
use Rattle.esr_model.specs.Places.{sorted_by}
use Rattle.esr_formats.specs.Roots.{root_snap_of}
use Rattle.esr_lines.specs.Lines.{name_first}
use Rattle.esr_lines.proofs.sorted.sorted_snaps.Given as goal

abbrev pub invariant-loop-left : goal.invariant-loop-left
invariant-loop-left l = record {
  front : l.left ≡ take (length l.left) l.snaps;
  sorted : map root_snap_of l.sorted ≡ sorted_by name_first (map root_snap_of (drop (length l.left) l.snaps));
}

abbrev pub decreases-loop-left : goal.decreases-loop-left
decreases-loop-left l = length l.left
