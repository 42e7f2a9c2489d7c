-- The root without some snapshots: as a function, and as facts on it.
use Rattle.std.specs.Prelude.{◌≡◌, ℕ, zero, suc, ◌<◌, ◌⊎◌, ◌&&◌, Bool, true, false, ◌==◌, if◌then◌else◌, List, [], ◌∷◌, ◌++◌, map, filter, set, Option, Some, None}
use Rattle.std.specs.List.{list_any}
use Rattle.esr_model.specs.Names.{BlobName, Root, Latest, Snap, Meta, IndexMeta, ShardSnap, ShardIndex, File, Part, TestMaster, TestNode}
use Rattle.esr_model.specs.Values.{Bytes, Has, RootSnap, RootIndex, RootData, FileEntry, SnapList, ShardFiles, ReadsBack, Formats}
pub use Rattle.esr_model.specs.Shelf.{names_uuid, left_shelf}
use Rattle.esr_model.specs.Parts.{part_names}
use Rattle.esr_model.specs.Image.{Reads, Lists, Generation, index_at, at_shard_of}

abbrev pub left_snaps : List ℕ → List RootSnap → List RootSnap
left_snaps uuids [] = []
left_snaps uuids (s ∷ ss) = if names_uuid uuids s.uuid then left_snaps uuids ss else s ∷ left_snaps uuids ss

-- ---- the root that a delete writes

-- A shard whose generation goes: it gets an index of what is left of it, or nothing is left.
pub record PrunedShard : Type 0 where
  pub index : ℕ
  pub number : ℕ
  -- its generation so far
  pub base : ℕ
  -- something is left of it
  pub kept : Bool

-- the new generations are drawn one after another, for the shards of which something is left
abbrev pub next_after : ℕ → PrunedShard → ℕ
next_after next p = if p.kept then suc next else next

abbrev pub own_id : ℕ → PrunedShard → Option ℕ
own_id next p = if p.kept then Some next else None

-- how many are drawn
abbrev pub kept_count : List PrunedShard → ℕ
kept_count [] = 0
kept_count (p ∷ shards) = next_after (kept_count shards) p

-- the new generation of a shard: None where it stays, Some None where nothing of it is left
abbrev pub fresh_from : ℕ → List PrunedShard → ℕ → ℕ → Option (Option ℕ)
fresh_from next [] index number = None
fresh_from next (p ∷ shards) index number = if (p.index == index) && (p.number == number) then Some (own_id next p) else fresh_from (next_after next p) shards index number

-- the uuids that are not named
abbrev pub left_uuids : List ℕ → List ℕ → List ℕ
left_uuids uuids [] = []
left_uuids uuids (u ∷ us) = if names_uuid uuids u then left_uuids uuids us else u ∷ left_uuids uuids us

-- an index with these snapshots, before others; without any it leaves
abbrev pub left_index : RootIndex → List ℕ → List RootIndex → List RootIndex
left_index x [] rest = rest
left_index x (u ∷ us) rest = record { name = x.name; id = x.id; snapshots = u ∷ us; generations = x.generations } ∷ rest

abbrev pub left_indices : List ℕ → List RootIndex → List RootIndex
left_indices uuids [] = []
left_indices uuids (x ∷ xs) = left_index x (left_uuids uuids x.snapshots) (left_indices uuids xs)

-- the root without the named snapshots, and without the indices that have no other
abbrev pub left_root : RootData → List ℕ → RootData
left_root root uuids = record { snapshots = left_snaps uuids root.snapshots; indices = left_indices uuids root.indices }

-- another generation of a shard
abbrev pub fresh_in : ℕ → ℕ → Option ℕ → RootIndex → RootIndex
fresh_in index number to x =
    record { name = x.name; id = x.id; snapshots = x.snapshots; generations = if x.id == index then set x.generations number to else x.generations }

abbrev pub set_fresh : ℕ → ℕ → Option ℕ → RootData → RootData
set_fresh index number to root = record { snapshots = root.snapshots; indices = map (fresh_in index number to) root.indices }

-- each of these shards with its new generation, one after another
abbrev pub renewed : ℕ → List PrunedShard → RootData → RootData
renewed next [] root = root
renewed next (p ∷ shards) root = renewed (next_after next p) shards (set_fresh p.index p.number (own_id next p) root)

unfoldable pub deleted_root : RootData → List ℕ → List PrunedShard → ℕ → RootData
deleted_root root uuids shards first = renewed first shards (left_root root uuids)

-- ---- the shard indices that it writes

abbrev pub uuids_of : RootData → List ℕ
uuids_of root = map (λ (s : RootSnap). s.uuid) root.snapshots

-- some of the lists has the file
abbrev pub lists_file : List SnapList → FileEntry → Bool
lists_file lists e = list_any (λ (l : SnapList). names_uuid l.files e.name) lists

abbrev pub listed_lists : List ℕ → List SnapList → List SnapList
listed_lists listed lists = filter (λ (l : SnapList). names_uuid listed l.uuid) lists

-- the listed snapshots alone, and the files that some of them has
abbrev pub surviving : List ℕ → ShardFiles → ShardFiles
surviving listed was =
    record { files = filter (lists_file (listed_lists listed was.snapshots)) was.files; snapshots = listed_lists listed was.snapshots }

-- the bytes of a shard index among some blobs
abbrev pub is_index : ℕ → ℕ → ℕ → BlobName → Bool
is_index i k g (ShardIndex index number generation) = ((index == i) && (number == k)) && (generation == g)
is_index i k g (Root n) = false
is_index i k g Latest = false
is_index i k g (Snap u) = false
is_index i k g (Meta u) = false
is_index i k g (IndexMeta x u) = false
is_index i k g (ShardSnap x s u) = false
is_index i k g (File x s e) = false
is_index i k g (Part x s e p) = false
is_index i k g (TestMaster v) = false
is_index i k g (TestNode v n) = false

abbrev pub index_bytes : List (BlobName × Bytes) → PrunedShard → Option Bytes
index_bytes [] p = None
index_bytes (blob ∷ read) p = if is_index p.index p.number p.base blob.0 then Some blob.1 else index_bytes read p

-- what was read of a shard, where it was told and reads
abbrev pub files_by : Formats → Option Bytes → Option ShardFiles
files_by f None = None
files_by f (Some bytes) = f.shard_index.read bytes

abbrev pub files_read : Formats → List (BlobName × Bytes) → PrunedShard → Option ShardFiles
files_read f read p = files_by f (index_bytes read p)

-- the text of what is left; of a container that tells nothing it is not known
abbrev pub left_text : Formats → List ℕ → Option ShardFiles → Bytes
left_text f listed None = []
left_text f listed (Some was) = f.shard_index.text (surviving listed was)

-- the new shard indices, by the listed snapshots that are left
abbrev pub pruned_blobs : Formats → List (BlobName × Bytes) → List ℕ → ℕ → List PrunedShard → List (BlobName × Bytes)
pruned_blobs f read listed next [] = []
pruned_blobs f read listed next (p ∷ shards) =
    if p.kept then (ShardIndex p.index p.number next, left_text f listed (files_read f read p)) ∷ pruned_blobs f read listed (suc next) shards
    else pruned_blobs f read listed next shards

-- ---- the names that it dooms

-- the shards whose generation the new root hasn't: by that of the new root
abbrev pub gone_by : ℕ → Option ℕ → ℕ → ℕ → List PrunedShard → List PrunedShard
gone_by base None index number rest = record { index = index; number = number; base = base; kept = false } ∷ rest
gone_by base (Some now) index number rest = if now == base then rest else record { index = index; number = number; base = base; kept = true } ∷ rest

abbrev pub gone_from : RootData → ℕ → ℕ → List (Option ℕ) → List PrunedShard
gone_from new index number [] = []
gone_from new index number (None ∷ gs) = gone_from new index (suc number) gs
gone_from new index number (Some base ∷ gs) = gone_by base (at_shard_of (index_at new.indices index) number) index number (gone_from new index (suc number) gs)

abbrev pub gone_shards : RootData → List RootIndex → List PrunedShard
gone_shards new [] = []
gone_shards new (x ∷ xs) = gone_from new x.id 0 x.generations ++ gone_shards new xs

abbrev pub doomed_snaps : List ℕ → List RootSnap → List BlobName
doomed_snaps uuids [] = []
doomed_snaps uuids (s ∷ snaps) = if names_uuid uuids s.uuid then Snap s.uuid ∷ Meta s.uuid ∷ doomed_snaps uuids snaps else doomed_snaps uuids snaps

abbrev pub doomed_metas : List ℕ → ℕ → List ℕ → List BlobName
doomed_metas uuids id [] = []
doomed_metas uuids id (u ∷ us) = if names_uuid uuids u then IndexMeta id u ∷ doomed_metas uuids id us else doomed_metas uuids id us

abbrev pub doomed_index_metas : List ℕ → List RootIndex → List BlobName
doomed_index_metas uuids [] = []
doomed_index_metas uuids (x ∷ xs) = doomed_metas uuids x.id x.snapshots ++ doomed_index_metas uuids xs

-- of a shard: the lists of listed snapshots that its new index hasn't, and the parts of files that it hasn't
abbrev pub doomed_lists : List ℕ → List ℕ → PrunedShard → List SnapList → List BlobName
doomed_lists listed left p [] = []
doomed_lists listed left p (l ∷ lists) =
    if names_uuid listed l.uuid && (if p.kept then (if names_uuid left l.uuid then false else true) else true) then ShardSnap p.index p.number l.uuid ∷ doomed_lists listed left p lists
    else doomed_lists listed left p lists

abbrev pub doomed_parts : List SnapList → PrunedShard → List FileEntry → List BlobName
doomed_parts lists p [] = []
doomed_parts lists p (e ∷ files) =
    if p.kept && lists_file lists e then doomed_parts lists p files else part_names p.index p.number e ++ doomed_parts lists p files

abbrev pub doomed_files : List ℕ → List ℕ → PrunedShard → Option ShardFiles → List BlobName
doomed_files listed left p None = []
doomed_files listed left p (Some was) = doomed_lists listed left p was.snapshots ++ doomed_parts (listed_lists left was.snapshots) p was.files

abbrev pub doomed_shards : Formats → List (BlobName × Bytes) → List ℕ → List ℕ → List PrunedShard → List BlobName
doomed_shards f read listed left [] = []
doomed_shards f read listed left (p ∷ shards) =
    ShardIndex p.index p.number p.base ∷ (doomed_files listed left p (files_read f read p) ++ doomed_shards f read listed left shards)

-- the root itself, where there is one
abbrev pub doomed_root : ℕ → List BlobName
doomed_root zero = []
doomed_root (suc n) = Root n ∷ []

-- what the old root reaches and the new one doesn't, by what was read of the shards
unfoldable pub doomed_names : Formats → ℕ → RootData → RootData → List ℕ → List (BlobName × Bytes) → List BlobName
doomed_names f safe old new uuids read =
    doomed_root safe ++ doomed_snaps uuids old.snapshots ++ doomed_index_metas uuids old.indices
    ++ doomed_shards f read (uuids_of old) (uuids_of new) (gone_shards new old.indices)

-- ---- what is to be known of it

-- a shard index without the snapshots that these uuids name
pub record Prunes (was held : ShardFiles) (uuids : List ℕ) : Type 0 where
  pub keeps : (u : ℕ) (fs : List FileEntry) → Lists was u fs → names_uuid uuids u ≡ false → Lists held u fs
  pub files_from : (e : FileEntry) → Has held.files e → Has was.files e
  pub lists_from : (l : SnapList) → Has held.snapshots l → Has was.snapshots l

-- the new generations: None for a shard that stays, Some None where no snapshot of it is left
pub record Deletes (f : Formats) (has : BlobName → Bytes → Type 0) (root : RootData) (uuids : List ℕ) (fresh : ℕ → ℕ → Option (Option ℕ)) (own : List (BlobName × Bytes)) (new : RootData) : Type 0 where
  pub snapshots : new.snapshots ≡ left_snaps uuids root.snapshots
  pub from : (y : RootIndex) → Has new.indices y → (x : RootIndex) × Has root.indices x × (x.name ≡ y.name) × (x.id ≡ y.id) × ((u : ℕ) → Has y.snapshots u → Has x.snapshots u)
  pub kept : (x : RootIndex) (u : ℕ) → Has root.indices x → Has x.snapshots u → names_uuid uuids u ≡ false → (y : RootIndex) × Has new.indices y × (y.name ≡ x.name) × (y.id ≡ x.id) × Has y.snapshots u
  pub generations : (i k g : ℕ) → Generation new i k g → ((fresh i k ≡ None) × Generation root i k g) ⊎ (fresh i k ≡ Some (Some g))
  -- of a shard that a snapshot which is left has, in an index of the root that lists it
  pub left : (i k g u : ℕ) → Generation root i k g → (x : RootIndex) → Has root.indices x → x.id ≡ i → Has x.snapshots u
      → (held : ShardFiles) → Reads has (ShardIndex i k g) f.shard_index held → (fs : List FileEntry) → Lists held u fs → names_uuid uuids u ≡ false
      → ((fresh i k ≡ None) × Generation new i k g) ⊎ ((now : ℕ) × (fresh i k ≡ Some (Some now)) × Generation new i k now)
  -- each new index is one of the unit's blobs, pruned, under an id above the old one
  pub pruned : (i k now : ℕ) → fresh i k ≡ Some (Some now)
      → (g : ℕ) × (was : ShardFiles) × (held : ShardFiles) × Generation root i k g × Reads has (ShardIndex i k g) f.shard_index was × Has own (ShardIndex i k now, f.shard_index.text held) × ReadsBack f.shard_index held
      × Prunes was held uuids
      × (g < now)
