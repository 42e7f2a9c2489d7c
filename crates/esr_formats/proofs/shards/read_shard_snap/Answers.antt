use Rattle.esr_shardidx.specs.Snapshots.{shard_snap_text, shard_snap_from}
use Rattle.esr_formats.specs.Shards.{shard_snap_of, code_shard_snap, shard_snap_kind}
use Rattle.esr_formats.proofs.ByKind.{IsRead-kind_by}
use Rattle.esr_formats.proofs.shards.read_shard_snap.Goals as goal

pub returns-clause-read : goal.returns-clause-read
unfolding shard_snap_kind
returns-clause-read c = IsRead-kind_by code_shard_snap shard_snap_of shard_snap_text shard_snap_from c.args.bytes.now c.shard_snap_read.result c.shard_snap_read.ensures
