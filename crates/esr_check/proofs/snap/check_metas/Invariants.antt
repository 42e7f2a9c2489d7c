use Rattle.std.proofs.Common.{map, take}
use Rattle.esr_formats.specs.Refs.{ref_of_code}
use Rattle.esr_desk.specs.Own.{caller_of}
use Rattle.esr_check.specs.Pieces.{HasMetas}
use Rattle.esr_check.specs.Went.{IsSoFar, Went}
use Rattle.esr_check.proofs.Listing.{Any}
use Rattle.esr_check.proofs.Naming.{MetaOf}
use Rattle.esr_check.proofs.snap.check_metas.Given as goal

abbrev pub invariant-loop-index : goal.invariant-loop-index
invariant-loop-index g l =
    let s = g.Q.Desk.start in
    let now = g.Q.Desk.seen l.desk in
    record {
      metas : HasMetas s (caller_of s now) l.snap.listed.now.uuid.number (map ref_of_code (take l.index-index l.index-items));
      so_far : IsSoFar s now l.count;
      went : Went s (g.Q.Desk.seen l.fn.desk) now (Any (MetaOf l.snap.listed.now.uuid.number) (map ref_of_code (take l.index-index l.index-items)));
    }
