-- The names that a root reaches, one after another, by what is held for its shards.
use Rattle.std.specs.Prelude.{ℕ, suc, ◌==◌, Bool, List, [], ◌∷◌, ◌++◌, flat_map, Option, Some, None, if◌then◌else◌}
use Rattle.std.specs.List.{list_any}
use Rattle.esr_model.specs.Names.{BlobName, Snap, Meta, IndexMeta, ShardSnap, ShardIndex}
use Rattle.esr_model.specs.Values.{RootSnap, RootIndex, RootData, SnapList, ShardFiles}
use Rattle.esr_model.specs.Parts.{part_names}
use Rattle.esr_reach.specs.Held.{HeldShard, held_at}

-- one of the snapshots has this uuid
abbrev pub is_listed : List RootSnap → ℕ → Bool
is_listed snaps uuid = list_any (λ s. s.uuid == uuid) snaps

-- of a snapshot: its info and its global metadata
abbrev pub snap_names : RootSnap → List BlobName
snap_names s = Snap s.uuid ∷ Meta s.uuid ∷ []

-- of an index in a snapshot: its metadata
abbrev pub meta_names : ℕ → ℕ → List BlobName
meta_names index uuid = IndexMeta index uuid ∷ []

-- of a shard in a snapshot that the root lists: what the snapshot has of the shard
abbrev pub list_names : (ℕ → Bool) → ℕ → ℕ → SnapList → List BlobName
list_names listed index shard l = if listed l.uuid then ShardSnap index shard l.uuid ∷ [] else []

-- of a shard, by what its index reads as: of its snapshots those that the root lists, and all of its files
abbrev pub held_names : (ℕ → Bool) → ℕ → ℕ → ShardFiles → List BlobName
held_names listed index shard held = flat_map (list_names listed index shard) held.snapshots ++ flat_map (part_names index shard) held.files

-- the same, where an index is held
abbrev pub known_names : (ℕ → Bool) → ℕ → ℕ → Option ShardFiles → List BlobName
known_names listed index shard None = []
known_names listed index shard (Some held) = held_names listed index shard held

-- of a shard with a generation: its index, and what that has
abbrev pub shard_names : (ℕ → Bool) → List HeldShard → ℕ → ℕ → ℕ → List BlobName
shard_names listed held index shard generation = ShardIndex index shard generation ∷ known_names listed index shard (held_at held index shard)

-- of a shard that has a generation or none
abbrev pub place_names : (ℕ → Bool) → List HeldShard → ℕ → ℕ → Option ℕ → List BlobName
place_names listed held index shard None = []
place_names listed held index shard (Some generation) = shard_names listed held index shard generation

-- of the shards of an index, numbered from a number on, by their generations
abbrev pub shards_names : (ℕ → Bool) → List HeldShard → ℕ → ℕ → List (Option ℕ) → List BlobName
shards_names listed held index first [] = []
shards_names listed held index first (g ∷ gs) = place_names listed held index first g ++ shards_names listed held index (suc first) gs

-- of an index
abbrev pub index_names : (ℕ → Bool) → List HeldShard → RootIndex → List BlobName
index_names listed held x = flat_map (meta_names x.id) x.snapshots ++ shards_names listed held x.id 0 x.generations

-- of a root
abbrev pub root_names : RootData → List HeldShard → List BlobName
root_names root held = flat_map snap_names root.snapshots ++ flat_map (index_names (is_listed root.snapshots) held) root.indices
