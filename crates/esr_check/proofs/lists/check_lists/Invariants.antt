use Rattle.std.proofs.Common.{map, take}
use Rattle.esr_formats.specs.Infos.{info_of_code}
use Rattle.esr_formats.specs.Roots.{root_of}
use Rattle.esr_formats.specs.Shards.{shard_index_of, snap_list_of}
use Rattle.esr_desk.specs.Own.{caller_of}
use Rattle.esr_check.specs.Pieces.{HasLists}
use Rattle.esr_check.specs.Went.{IsSoFar, Went}
use Rattle.esr_check.proofs.Listing.{Any}
use Rattle.esr_check.proofs.Naming.{ListOf}
use Rattle.esr_check.proofs.lists.check_lists.Given as goal

abbrev pub invariant-loop-list : goal.invariant-loop-list
invariant-loop-list g l =
    let s = g.Q.Desk.start in
    let now = g.Q.Desk.seen l.desk in
    record {
      lists : HasLists s (caller_of s now) (root_of l.shard.root.now) (map info_of_code l.shard.infos.now) l.shard.at.index.number l.shard.at.number (shard_index_of l.held) (map snap_list_of (take l.list-index l.list-items));
      so_far : IsSoFar s now l.count;
      went : Went s (g.Q.Desk.seen l.fn.desk) now (Any (ListOf l.shard.at.index.number l.shard.at.number) (map snap_list_of (take l.list-index l.list-items)));
    }
