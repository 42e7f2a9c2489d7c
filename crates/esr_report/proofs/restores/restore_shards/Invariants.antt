use Rattle.std.proofs.Common.{◌≡◌, map, take}
use Rattle.esr_formats.specs.Refs.{ref_of_code}
use Rattle.esr_report.specs.Replies.{restore_shards}
use Rattle.esr_report.specs.Ends.{shard_of_code}
use Rattle.esr_report.proofs.restores.restore_shards.Given as goal

abbrev pub invariant-loop-index : goal.invariant-loop-index
invariant-loop-index l = map shard_of_code l.shards.items ≡ restore_shards l.op l.uuid.number (map ref_of_code (take l.index-index l.indices))
