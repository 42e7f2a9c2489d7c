-- An index of a root by its name, and what raising the generations of its shards makes of it.
use Rattle.std.specs.Prelude.{◌≡◌, ℕ, ◌<◌, ◌≤◌, List, [], ◌∷◌, length, Option, Some, None, option_map, if◌then◌else◌}
use Rattle.std.specs.Str.{bytes_eq}
use Rattle.esr_model.specs.Values.{Bytes, RootIndex, RootData, ShardResult}
use Rattle.esr_model.specs.Finalize.{done_at, merged}
use Rattle.esr_names.specs.declared.index_ref.IndexRef.{IndexRef}

abbrev pub index_named : Bytes → List RootIndex → Option RootIndex
index_named name [] = None
index_named name (y ∷ ys) = if bytes_eq y.name name then Some y else index_named name ys

abbrev pub ref_named : Bytes → List IndexRef → Option IndexRef
ref_named name [] = None
ref_named name (q ∷ qs) = if bytes_eq q.name name then Some q else ref_named name qs

-- the index with the larger generation in each shard that has a result
abbrev pub with_done : List ShardResult → ℕ → RootIndex → RootIndex
with_done results id y = record { name = y.name; id = y.id; snapshots = y.snapshots; generations = merged results id 0 y.generations 0 }

-- the same where the snapshot has the index
abbrev pub done_in : List ShardResult → Option IndexRef → Option RootIndex → Option RootIndex
done_in results None y = y
done_in results (Some q) y = option_map (with_done results q.id.number) y

-- the root has the index, with a place for each of so many shards
pub record HasShards (root : RootData) (name : Bytes) (shards : ℕ) : Type 0 where
  pub index : RootIndex
  pub there : index_named name root.indices ≡ Some index
  pub long : shards ≤ length index.generations

-- the results of an index are of its shards, and of each there is one at most
abbrev pub AreShardsOf : ℕ → ℕ → List ShardResult → Type 0
AreShardsOf id shards [] = Unit {0}
AreShardsOf id shards (r ∷ results) = (r.index ≡ id → (r.shard < shards) × (done_at results id r.shard ≡ None)) × AreShardsOf id shards results

-- the results of an index can be put into a root
pub record IsReady (root : RootData) (results : List ShardResult) (q : IndexRef) : Type 0 where
  pub few : q.shards ≤ 1024
  pub has : HasShards root q.name q.shards
  pub shards : AreShardsOf q.id.number q.shards results

-- the new root has the snapshots of the old one, and its index of each name is this one
pub record Becomes (old new : RootData) (at : Bytes → Option RootIndex) : Type 0 where
  pub snapshots : new.snapshots ≡ old.snapshots
  pub indices : (name : Bytes) → index_named name new.indices ≡ at name

-- the index of a name, after a change in the index of one name
abbrev pub changed : Bytes → (RootIndex → RootIndex) → RootData → Bytes → Option RootIndex
changed one change root name =
    if bytes_eq one name then option_map change (index_named name root.indices) else index_named name root.indices
