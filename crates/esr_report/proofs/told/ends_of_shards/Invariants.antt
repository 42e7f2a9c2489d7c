use Rattle.std.proofs.Common.{◌≡◌, ◌++◌, List, map, option_map, drop}
use Rattle.esr_core.specs.Entry.{Entry}
use Rattle.esr_report.specs.Replies.{ShardEnd, ends_of}
use Rattle.esr_report.specs.Ends.{shard_of_code, end_of_code, AreAllEnds}
use Rattle.esr_report.proofs.told.ends_of_shards.Given as goal

abbrev pub invariant-loop-shard : goal.invariant-loop-shard
invariant-loop-shard l = (all : List Entry) → AreAllEnds all l.told
    → ends_of all (map shard_of_code l.shards) ≡ option_map (λ (es : List ShardEnd). map end_of_code l.ends.items ++ es) (ends_of all (map shard_of_code (drop l.shard-index l.shards)))
