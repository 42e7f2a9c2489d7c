-- The texts of a shard's files read as they were.
use Rattle.std.proofs.Common.{◌≡◌}
use Rattle.esr_shardidx.specs.Snapshots.{SnapValue, IsShardSnap, shard_snap_text, shard_snap_from}
use Rattle.esr_shardidx.specs.Indices.{IndexValue, shard_index_text, shard_index_from}
use Rattle.esr_shardidx.specs.RoundTrip.{snap_reads_back}
use Rattle.esr_model.specs.Values.{ReadsBack}
use Rattle.esr_formats.specs.Shards.{shard_snap_of, code_shard_snap, shard_snap_kind, shard_index_of, code_shard_index, shard_index_kind}
use Rattle.esr_formats.specs.ReadBack.{ReadsBack-kind_by, shard_index_back}
use Rattle.esr_formats.proofs.ByKind.{text-kind_by}
use Rattle.esr_formats.proofs.Inverses.{shard_snap_back}

pub shard_snap_kind-text : (s : SnapValue) → shard_snap_kind.text (shard_snap_of s) ≡ shard_snap_text s
unfolding shard_snap_kind
shard_snap_kind-text s = text-kind_by code_shard_snap shard_snap_of shard_snap_text shard_snap_from s (shard_snap_back s)

pub shard_snap_reads_back : (s : SnapValue) → IsShardSnap s → ReadsBack shard_snap_kind (shard_snap_of s)
unfolding shard_snap_kind
shard_snap_reads_back s h = ReadsBack-kind_by code_shard_snap shard_snap_of shard_snap_text shard_snap_from s (shard_snap_back s) (snap_reads_back s h)

pub shard_index_kind-text : (v : IndexValue) → shard_index_kind.text (shard_index_of v) ≡ shard_index_text v
unfolding shard_index_kind
shard_index_kind-text v = text-kind_by code_shard_index shard_index_of shard_index_text shard_index_from v (shard_index_back v)
