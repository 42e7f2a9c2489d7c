use Rattle.std.proofs.Common.{◌≡◌, map, take, length}
use Rattle.esr_formats.specs.Infos.{info_of_code}
use Rattle.esr_formats.specs.Roots.{root_of, root_index_of}
use Rattle.esr_desk.specs.Own.{caller_of}
use Rattle.esr_check.specs.Pieces.{HasIndices}
use Rattle.esr_check.specs.Went.{IsSoFar, Went}
use Rattle.esr_check.proofs.Listing.{Any}
use Rattle.esr_check.proofs.Naming.{IndexOf}
use Rattle.esr_check.proofs.index.check_each.Given as goal

abbrev pub invariant-loop-index : goal.invariant-loop-index
invariant-loop-index g l =
    let s = g.Q.Desk.start in
    let now = g.Q.Desk.seen l.desk in
    record {
      buffer : length l.buf ≡ length l.fn.buf;
      indices : HasIndices s (caller_of s now) (root_of l.root) (map info_of_code l.infos) (map root_index_of (take l.index-index l.index-items));
      so_far : IsSoFar s now l.count;
      went : Went s (g.Q.Desk.seen l.fn.desk) now (Any IndexOf (map root_index_of (take l.index-index l.index-items)));
    }
