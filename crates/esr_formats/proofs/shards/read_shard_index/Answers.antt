use Rattle.esr_shardidx.specs.Indices.{shard_index_text, shard_index_from}
use Rattle.esr_formats.specs.Shards.{shard_index_of, code_shard_index, shard_index_kind}
use Rattle.esr_formats.proofs.ByKind.{IsRead-kind_by}
use Rattle.esr_formats.proofs.shards.read_shard_index.Goals as goal

pub returns-clause-read : goal.returns-clause-read
unfolding shard_index_kind
returns-clause-read c = IsRead-kind_by code_shard_index shard_index_of shard_index_text shard_index_from c.args.bytes.now c.shard_index_read.result c.shard_index_read.ensures
