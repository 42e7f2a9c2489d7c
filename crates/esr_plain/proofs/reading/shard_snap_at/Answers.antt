use Rattle.esr_formats.specs.Shards.{shard_snap_of, shard_snap_kind}
use Rattle.esr_model.specs.Names.{ShardSnap}
use Rattle.esr_plain.proofs.Blobs.{shard_snap_is, reading_exact, reading_none}
use Rattle.esr_plain.proofs.reading.shard_snap_at.Goals as goal

pub returns-in-Some : goal.returns-in-Some
returns-in-Some c =
    reading_exact shard_snap_kind (λ f. f.shard_snap) shard_snap_of c.args.image.now (ShardSnap c.args.shard.index.number c.args.shard.number c.args.uuid.number) c.in_ok-bytes.field-0 c.in-Some.bytes
    c.as_slice.result.now c.read_shard_snap.result c.undamaged.result shard_snap_is c.in_ok-bytes.ensures c.in-Some.is c.as_slice.ensures c.read_shard_snap.ensures.read c.undamaged.ensures

pub returns-in-None : goal.returns-in-None
returns-in-None c = reading_none (λ f. f.shard_snap) c.args.image.now (ShardSnap c.args.shard.index.number c.args.shard.number c.args.uuid.number) c.in_ok-bytes.field-0 c.in_ok-bytes.ensures c.in-None.is
