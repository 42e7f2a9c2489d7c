-- What is held for the shards of a root.
use Rattle.std.specs.Prelude.{◌≡◌, ℕ, Bool, List, Some, IsSome, Option}
use Rattle.esr_model.specs.Names.{BlobName, ShardIndex}
use Rattle.esr_model.specs.Values.{Bytes, RootIndex, RootData, ShardFiles, Formats}
use Rattle.esr_model.specs.Image.{Blobs, At, Reads, Generation, at_shard}
use Rattle.esr_formats.specs.Formats.{formats}
use Rattle.esr_reach.specs.Held.{HeldShard, held_at}

-- an index is held for each shard of this index that has a generation
abbrev pub HasShards : RootIndex → List HeldShard → Type 0
HasShards x held = (shard generation : ℕ) → at_shard x.generations shard ≡ Some generation → IsSome (held_at held x.id shard)

-- an index is held for each shard of the root that has a generation
abbrev pub HasEach : RootData → List HeldShard → Type 0
HasEach root held = (index shard generation : ℕ) → Generation root index shard generation → IsSome (held_at held index shard)

-- the index of such a shard reads as the one that is held
abbrev pub ReadsAsHeld : (f : Formats) → (BlobName → Bytes → Type 0) → RootData → List HeldShard → Type 0
ReadsAsHeld f has root held =
    (index shard generation : ℕ) (files : ShardFiles) → Generation root index shard generation → held_at held index shard ≡ Some files → Reads has (ShardIndex index shard generation) f.shard_index files

-- it holds of each image, with the real texts, whatever the sources tell
abbrev pub InEachImage : ((f : Formats) → (BlobName → Bytes → Type 0) → Type 0) → Type 0
InEachImage P = (known : Bytes → Bytes → ℕ → Bool) (told : Bytes → Bytes → ℕ → Option (List (Bytes × Bytes))) (blobs : Blobs) → P (formats known told) (At (formats known told) blobs)
