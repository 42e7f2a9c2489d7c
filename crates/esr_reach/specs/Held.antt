-- Shard indices that are held, as they were read.
use Rattle.std.specs.Prelude.{◌≡◌, ℕ, ◌==◌, ◌&&◌, if◌then◌else◌, List, [], ◌∷◌, map, Option, Some, None}
use Rattle.esr_names.specs.declared.blob.ShardId.{ShardId}
use Rattle.esr_shardidx.specs.Indices.{IndexValue, IsShardIndex}
use Rattle.esr_formats.specs.Shards.{shard_index_of}
use Rattle.esr_model.specs.Values.{ShardFiles}
use Rattle.esr_reach.specs.Names.{AreOnce}

-- a shard of an index, with what its own index says
pub record HeldShard : Type 0 where
  pub index : ℕ
  pub shard : ℕ
  pub files : ShardFiles

-- an entry of the code as the definitions see it
abbrev pub held_of : ShardId × IndexValue → HeldShard
held_of e = record { index = e.0.index.number; shard = e.0.number; files = shard_index_of e.1 }

-- what is held for a shard of an index
abbrev pub held_at : List HeldShard → ℕ → ℕ → Option ShardFiles
held_at [] index shard = None
held_at (h ∷ hs) index shard = if index == h.index && shard == h.shard then Some h.files else held_at hs index shard

-- what is held for this shard is now this, and for any other what was held
abbrev pub Holds : List HeldShard → List HeldShard → ℕ → ℕ → ShardFiles → Type 0
Holds old new index shard files = (i k : ℕ) → held_at new i k ≡ (if index == i && shard == k then Some files else held_at old i k)

-- each that is held is an index as the code makes them
abbrev pub AreWhole : List HeldShard → Type 0
AreWhole held = (index shard : ℕ) (v : ShardFiles) → held_at held index shard ≡ Some v → (w : IndexValue) × IsShardIndex w × (v ≡ shard_index_of w)

-- no file and no snapshot of a shard stands twice
pub record IsApart (v : ShardFiles) : Type 0 where
  pub files : AreOnce (map (λ e. e.name) v.files)
  pub snapshots : AreOnce (map (λ l. l.uuid) v.snapshots)

-- nor of any that is held
abbrev pub AreApart : List HeldShard → Type 0
AreApart held = (index shard : ℕ) (v : ShardFiles) → held_at held index shard ≡ Some v → IsApart v
