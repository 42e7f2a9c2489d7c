use Rattle.std.proofs.Common.{◌≡◌, ◌++◌, drop, map}
use Rattle.esr_formats.specs.Roots.{root_snap_of}
use Rattle.esr_lines.specs.Lines.{snap_texts}
use Rattle.esr_lines.proofs.lines.push_snaps.Given as goal

abbrev pub invariant-loop-snap : goal.invariant-loop-snap
invariant-loop-snap l = l.fn.out ++ snap_texts (map root_snap_of l.snaps) ≡ l.out ++ snap_texts (map root_snap_of (drop l.snap-index l.snaps))
