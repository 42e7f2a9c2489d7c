use Rattle.std.proofs.Common.{◌≡◌, ◌++◌, map}
use Rattle.esr_formats.specs.Refs.{ref_of_code}
use Rattle.esr_model.specs.Places.{numbered}
use Rattle.esr_report.specs.Replies.{read_shard}
use Rattle.esr_report.specs.Ends.{shard_of_code}
use Rattle.esr_report.proofs.restores.push_numbered.Given as goal

abbrev pub invariant-loop-number : goal.invariant-loop-number
invariant-loop-number l = map shard_of_code l.shards.items ≡ map shard_of_code l.fn.shards.items ++ map (read_shard l.op l.uuid.number) (numbered (ref_of_code l.index) 0 l.number)
