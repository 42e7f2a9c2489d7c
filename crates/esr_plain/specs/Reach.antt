-- The names that each part of a root reaches.
use Rattle.std.specs.Prelude.{◌≡◌, ◌⊎◌, ◌↔◌, ℕ, List, [], ◌∷◌, Option, Some, map}
use Rattle.esr_names.specs.declared.blob.BlobName.{BlobName as CodeName}
use Rattle.esr_formats.specs.Names.{name_of}
use Rattle.esr_model.specs.Names.{BlobName, Snap, Meta, IndexMeta, ShardSnap, ShardIndex}
use Rattle.esr_model.specs.Values.{Bytes, Has, RootSnap, RootIndex, RootData, FileEntry, SnapList, ShardFiles, Formats}
use Rattle.esr_model.specs.Parts.{part_names}
use Rattle.esr_model.specs.Image.{Reads, at_shard}

-- these are the names of which it holds
abbrev pub AreNames : List CodeName → (BlobName → Type 0) → Type 0
AreNames names P = (name : BlobName) → Has (map name_of names) name ↔ P name

-- no name stands twice
abbrev pub AreOnce : List BlobName → Type 0
AreOnce [] = Unit {0}
AreOnce (name ∷ names) = (Has names name → ⊥) × AreOnce names

-- a name of one of these
abbrev pub OfSome : {A : Type 0} → (A → BlobName → Type 0) → List A → BlobName → Type 0
OfSome {A} P xs name = (x : A) × Has xs x × P x name

-- of a listed snapshot
abbrev pub OfSnap : RootSnap → BlobName → Type 0
OfSnap s name = (name ≡ Snap s.uuid) ⊎ (name ≡ Meta s.uuid)

-- of an index in one of its snapshots
abbrev pub OfMeta : ℕ → ℕ → BlobName → Type 0
OfMeta index uuid name = name ≡ IndexMeta index uuid

abbrev pub HasList : List SnapList → ℕ → Type 0
HasList lists uuid = (l : SnapList) × Has lists l × (l.uuid ≡ uuid)

-- of a listed snapshot that the index of a shard has
abbrev pub OfList : ShardFiles → ℕ → ℕ → RootSnap → BlobName → Type 0
OfList held index shard s name = HasList held.snapshots s.uuid × (name ≡ ShardSnap index shard s.uuid)

-- of a file
abbrev pub OfFile : ℕ → ℕ → FileEntry → BlobName → Type 0
OfFile index shard e name = Has (part_names index shard e) name

-- of the index of a shard, as it reads
abbrev pub OfHeld : List RootSnap → ShardFiles → ℕ → ℕ → BlobName → Type 0
OfHeld snaps held index shard name = OfSome (OfList held index shard) snaps name ⊎ OfSome (OfFile index shard) held.files name

-- of a shard under a generation
abbrev pub OfShard : (f : Formats) → (BlobName → Bytes → Type 0) → List RootSnap → ℕ → ℕ → ℕ → BlobName → Type 0
OfShard f has snaps index shard generation name =
    (name ≡ ShardIndex index shard generation)
    ⊎ ((held : ShardFiles) × Reads has (ShardIndex index shard generation) f.shard_index held × OfHeld snaps held index shard name)

-- of a shard that has this generation or none
abbrev pub OfPlace : (f : Formats) → (BlobName → Bytes → Type 0) → List RootSnap → ℕ → ℕ → Option ℕ → BlobName → Type 0
OfPlace f has snaps index shard g name = (generation : ℕ) × (g ≡ Some generation) × OfShard f has snaps index shard generation name

-- of the shards of an index, by their generations
abbrev pub OfShards : (f : Formats) → (BlobName → Bytes → Type 0) → List RootSnap → ℕ → List (Option ℕ) → BlobName → Type 0
OfShards f has snaps index generations name = (shard : ℕ) × OfPlace f has snaps index shard (at_shard generations shard) name

-- of an index
abbrev pub OfIndex : (f : Formats) → (BlobName → Bytes → Type 0) → List RootSnap → RootIndex → BlobName → Type 0
OfIndex f has snaps x name = OfSome (OfMeta x.id) x.snapshots name ⊎ OfShards f has snaps x.id x.generations name

-- of a root
abbrev pub OfRoot : (f : Formats) → (BlobName → Bytes → Type 0) → RootData → BlobName → Type 0
OfRoot f has root name = OfSome OfSnap root.snapshots name ⊎ OfSome (OfIndex f has root.snapshots) root.indices name
