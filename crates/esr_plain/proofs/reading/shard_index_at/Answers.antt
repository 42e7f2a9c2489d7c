use Rattle.esr_formats.specs.Shards.{shard_index_of, shard_index_kind}
use Rattle.esr_model.specs.Names.{ShardIndex}
use Rattle.esr_plain.proofs.Blobs.{shard_index_is, reading_exact, reading_none}
use Rattle.esr_plain.proofs.reading.shard_index_at.Goals as goal

pub returns-in-Some : goal.returns-in-Some
returns-in-Some c =
    reading_exact shard_index_kind (λ f. f.shard_index) shard_index_of c.args.image.now (ShardIndex c.args.shard.index.number c.args.shard.number c.args.generation.number) c.in_ok-bytes.field-0
    c.in-Some.bytes c.as_slice.result.now c.read_shard_index.result c.undamaged.result shard_index_is c.in_ok-bytes.ensures c.in-Some.is c.as_slice.ensures c.read_shard_index.ensures.read c.undamaged.ensures

pub returns-in-None : goal.returns-in-None
returns-in-None c = reading_none (λ f. f.shard_index) c.args.image.now (ShardIndex c.args.shard.index.number c.args.shard.number c.args.generation.number) c.in_ok-bytes.field-0 c.in_ok-bytes.ensures c.in-None.is
