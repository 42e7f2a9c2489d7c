use Rattle.std.proofs.Common.{◌≡◌, ◌++◌, drop, take, map}
use Rattle.esr_model.specs.Places.{put_by}
use Rattle.esr_formats.specs.Roots.{root_snap_of}
use Rattle.esr_lines.specs.Lines.{name_first}
use Rattle.esr_lines.proofs.sorted.place_of.Given as goal

abbrev pub invariant-loop-old : goal.invariant-loop-old
invariant-loop-old l = record {
  place : l.place ≡ l.old-index;
  put : put_by name_first (root_snap_of l.snap) (map root_snap_of l.sorted)
      ≡ take l.old-index (map root_snap_of l.sorted) ++ put_by name_first (root_snap_of l.snap) (drop l.old-index (map root_snap_of l.sorted));
}
