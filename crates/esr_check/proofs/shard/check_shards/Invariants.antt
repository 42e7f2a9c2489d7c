use Rattle.std.proofs.Common.{◌≡◌, map, option_map, take, length}
use Rattle.esr_formats.specs.Ids.{number_of}
use Rattle.esr_formats.specs.Infos.{info_of_code}
use Rattle.esr_formats.specs.Roots.{root_of}
use Rattle.esr_desk.specs.Own.{caller_of}
use Rattle.esr_check.specs.Names.{IsOfShard}
use Rattle.esr_check.specs.Went.{IsSoFar, Went}
use Rattle.esr_check.proofs.Listing.{Below}
use Rattle.esr_check.proofs.Sharding.{HasFirst}
use Rattle.esr_check.proofs.shard.check_shards.Given as goal

abbrev pub invariant-loop-number : goal.invariant-loop-number
invariant-loop-number g l =
    let s = g.Q.Desk.start in
    let now = g.Q.Desk.seen l.desk in
    record {
      buffer : length l.buf ≡ length l.fn.buf;
      shards : HasFirst s (caller_of s now) (root_of l.root) (map info_of_code l.infos) l.index.id.number (map (option_map number_of) (take l.number l.generation-items));
      so_far : IsSoFar s now l.count;
      went : Went s (g.Q.Desk.seen l.fn.desk) now (Below (IsOfShard l.index.id.number) l.number);
    }
