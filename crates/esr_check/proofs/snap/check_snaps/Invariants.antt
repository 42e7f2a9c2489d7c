use Rattle.std.proofs.Common.{map, take}
use Rattle.esr_formats.specs.Infos.{info_of_code}
use Rattle.esr_formats.specs.Roots.{root_of, root_snap_of}
use Rattle.esr_desk.specs.Own.{caller_of}
use Rattle.esr_check.specs.Pieces.{HasInfosOf}
use Rattle.esr_check.specs.Went.{IsSoFar, Went}
use Rattle.esr_check.proofs.Listing.{Any}
use Rattle.esr_check.proofs.Naming.{SnapOf}
use Rattle.esr_check.proofs.snap.check_snaps.Given as goal

abbrev pub invariant-loop-snap : goal.invariant-loop-snap
invariant-loop-snap g l =
    let s = g.Q.Desk.start in
    let now = g.Q.Desk.seen l.desk in
    record {
      infos : HasInfosOf s (caller_of s now) (root_of l.root) (map root_snap_of (take l.snap-index l.snap-items)) (map info_of_code l.infos);
      so_far : IsSoFar s now l.count;
      went : Went s (g.Q.Desk.seen l.fn.desk) now (Any SnapOf (map root_snap_of (take l.snap-index l.snap-items)));
    }
