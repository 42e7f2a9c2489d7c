-- What the unit of a delete or cleanup makes of the shards that it read: which generations go, its root, its blobs, and the names that it dooms.
use Rattle.std.specs.Prelude.{◌≡◌, ℕ, suc, ◌&&◌, Bool, true, false, if◌then◌else◌, List, [], ◌∷◌, ◌++◌, Option, Some, None}
use Rattle.std.specs.List.{list_any}
use Rattle.std.specs.Ordering.{nat_cmp}
use Rattle.std.specs.FinMap.{FinMap}
use Rattle.std.specs.FinMap as fin
use Rattle.esr_model.specs.Names.{BlobName}
use Rattle.esr_model.specs.Values.{Bytes, Has, SnapList, ShardFiles, RootIndex, RootData, ReadsBack, Formats}
use Rattle.esr_model.specs.Shelf.{Command, Delete, names_uuid}
use Rattle.esr_model.specs.Image.{Blobs, Generation, at_shard}
use Rattle.esr_model.specs.Delete.{PrunedShard, kept_count, left_uuids, uuids_of, files_read, surviving, pruned_blobs, deleted_root, doomed_names}
use Rattle.esr_model.specs.Cleanup.{cleaned_names}
use Rattle.esr_core.specs.World.{Work, Shard, Finalize, Deleting, Drop, Swap, Ticket, Safely}

-- ---- which generations go

-- a list of a snapshot that is left
abbrev pub is_left : List ℕ → SnapList → Bool
is_left left l = names_uuid left l.uuid

-- a list that goes: of a listed snapshot that a delete names; of a snapshot that isn't listed where a cleanup prunes
abbrev pub is_victim : Bool → List ℕ → List ℕ → SnapList → Bool
is_victim false uuids listed l = names_uuid uuids l.uuid && names_uuid listed l.uuid
is_victim true uuids listed l = if names_uuid listed l.uuid then false else true

abbrev pub has_none : List ℕ → Bool
has_none [] = true
has_none (u ∷ us) = false

-- one of these is named
abbrev pub has_named : List ℕ → List ℕ → Bool
has_named uuids [] = false
has_named uuids (u ∷ us) = if names_uuid uuids u then true else has_named uuids us

-- an index whose shards are read: a delete's has one of the named, a cleanup reads all
abbrev pub is_touched : Bool → List ℕ → List ℕ → Bool
is_touched false uuids us = has_named uuids us
is_touched true uuids us = true

-- a shard by what was read of it: it goes where its index leaves or some victim is listed; something is left where some left one is
abbrev pub pruned_by : Bool → List ℕ → List ℕ → Bool → ℕ → ℕ → ℕ → Option ShardFiles → List PrunedShard → List PrunedShard
pruned_by clean uuids listed leaves index number base None rest = rest
pruned_by clean uuids listed true index number base (Some was) rest = record { index = index; number = number; base = base; kept = false } ∷ rest
pruned_by clean uuids listed false index number base (Some was) rest =
    if list_any (is_victim clean uuids listed) was.snapshots
    then record { index = index; number = number; base = base; kept = list_any (is_left (left_uuids uuids listed)) was.snapshots } ∷ rest
    else rest

abbrev pub bare_shard : ℕ → ℕ → ℕ → PrunedShard
bare_shard index number base = record { index = index; number = number; base = base; kept = false }

abbrev pub pruned_of_index : Formats → List (BlobName × Bytes) → Bool → List ℕ → List ℕ → Bool → ℕ → ℕ → List (Option ℕ) → List PrunedShard → List PrunedShard
pruned_of_index f read clean uuids listed leaves index number [] rest = rest
pruned_of_index f read clean uuids listed leaves index number (None ∷ gs) rest = pruned_of_index f read clean uuids listed leaves index (suc number) gs rest
pruned_of_index f read clean uuids listed leaves index number (Some g ∷ gs) rest =
    pruned_by clean uuids listed leaves index number g (files_read f read (bare_shard index number g)) (pruned_of_index f read clean uuids listed leaves index (suc number) gs rest)

-- of the indices that are read, in the root's order, and by number in each
abbrev pub pruned_of_indices : Formats → List (BlobName × Bytes) → Bool → List ℕ → List ℕ → List RootIndex → List PrunedShard
pruned_of_indices f read clean uuids listed [] = []
pruned_of_indices f read clean uuids listed (x ∷ xs) =
    if is_touched clean uuids x.snapshots
    then pruned_of_index f read clean uuids listed (has_none (left_uuids uuids x.snapshots)) x.id 0 x.generations (pruned_of_indices f read clean uuids listed xs)
    else pruned_of_indices f read clean uuids listed xs

abbrev pub pruned_shards : Formats → Bool → RootData → List ℕ → List (BlobName × Bytes) → List PrunedShard
pruned_shards f clean root uuids read = pruned_of_indices f read clean uuids (uuids_of root) root.indices

-- the shards that are to be read: those with a generation, of the indices that are read
pub record IsToRead (clean : Bool) (root : RootData) (uuids : List ℕ) (index number generation : ℕ) : Type 0 where
  pub x : RootIndex
  pub there : Has root.indices x
  pub id : x.id ≡ index
  pub victim : is_touched clean uuids x.snapshots ≡ true
  pub at : at_shard x.generations number ≡ Some generation

-- each of them was read
abbrev pub AreRead : Formats → Bool → RootData → List ℕ → List (BlobName × Bytes) → Type 0
AreRead f clean root uuids read = (index number generation : ℕ) → IsToRead clean root uuids index number generation → (was : ShardFiles) × (files_read f read (bare_shard index number generation) ≡ Some was)

-- each of these shards is one of the root, with its generation, and stands once
abbrev pub AreOfRoot : RootData → List PrunedShard → Type 0
AreOfRoot root [] = Unit {0}
AreOfRoot root (p ∷ shards) = Generation root p.index p.number p.base × ((q : PrunedShard) → Has shards q → p.index ≡ q.index → p.number ≡ q.number → ⊥) × AreOfRoot root shards

-- what is left of each of them can be written
abbrev pub AreWritable : Formats → RootData → List ℕ → List (BlobName × Bytes) → List PrunedShard → Type 0
AreWritable f root uuids read shards = (p : PrunedShard) (was : ShardFiles) → Has shards p → files_read f read p ≡ Some was → ReadsBack f.shard_index (surviving (left_uuids uuids (uuids_of root)) was)

-- ---- the swap

-- a delete has its command; a cleanup leaves the shelf as it is
abbrev pub commands_by : Bool → List ℕ → List Command
commands_by false uuids = Delete uuids ∷ []
commands_by true uuids = []

abbrev pub delete_swap : Formats → Bool → RootData → List (BlobName × Bytes) → List ℕ → List PrunedShard → ℕ → Swap
delete_swap f clean root read uuids shards first =
    record {
      root = deleted_root root uuids shards first;
      own = pruned_blobs f read (left_uuids uuids (uuids_of root)) first shards;
      commands = commands_by clean uuids;
    }

abbrev pub planned_work : Formats → Ticket → List PrunedShard → ℕ → Work → Work
planned_work f t shards first (Deleting uuids plan) = Deleting uuids (Some (delete_swap f t.clean t.root t.read uuids shards first))
planned_work f t shards first (Shard index number) = Shard index number
planned_work f t shards first (Finalize info results made) = Finalize info results made
planned_work f t shards first Drop = Drop

-- the ticket has its plan, and the ids for it
abbrev pub planned : Formats → List PrunedShard → ℕ → Ticket → Ticket
planned f shards first t = record t { first = first; drawn = kept_count shards; work = planned_work f t shards first t.work }

-- the swap follows from what was read, and from the first id that was drawn
pub record IsPlanned (f : Formats) (clean : Bool) (root : RootData) (read : List (BlobName × Bytes)) (first : ℕ) (uuids : List ℕ) (s : Swap) : Type 0 where
  pub are_read : AreRead f clean root uuids read
  pub of_root : AreOfRoot root (pruned_shards f clean root uuids read)
  pub writable : AreWritable f root uuids read (pruned_shards f clean root uuids read)
  pub swap_is : s ≡ delete_swap f clean root read uuids (pruned_shards f clean root uuids read) first

-- ---- what it dooms

-- a delete what the old root reached and the new one doesn't; a cleanup what it listed and its new root doesn't reach
abbrev pub doomed_as : Formats → Ticket → List ℕ → Swap → Bool → List BlobName
doomed_as f t uuids s false = doomed_names f t.safe t.root s.root uuids t.read
doomed_as f t uuids s true = cleaned_names f t.raised s.root (s.own ++ t.read) t.listed

abbrev pub doomed_by : Formats → Ticket → Work → List BlobName
doomed_by f t (Deleting uuids (Some s)) = doomed_as f t uuids s t.clean
doomed_by f t (Deleting uuids None) = []
doomed_by f t (Shard index number) = []
doomed_by f t (Finalize info results made) = []
doomed_by f t Drop = []

abbrev pub dooms : Formats → Ticket → List BlobName
dooms f t = doomed_by f t t.work

-- ---- what holds of the tickets of deletes and cleanups

-- of one of the present term, before its settle
pub record PruneLaw (f : Formats) (has : BlobName → Bytes → Type 0) (safe : ℕ) (t : Ticket) (uuids : List ℕ) (plan : Option Swap) : Type 0 where
  -- what it read is there, and nobody may remove it
  pub held : (name : BlobName) (bytes : Bytes) → Has t.read (name, bytes) → has name bytes
  pub safe_is : t.safe ≡ safe
  pub follows : (s : Swap) → plan ≡ Some s → IsPlanned f t.clean t.root t.read t.first uuids s

-- of each of these, and of each that has settled: what it dooms may be removed
pub record PruneLaws (f : Formats) (blobs : Blobs) (doomed : List BlobName) (safe term : ℕ) (tickets : FinMap nat_cmp Ticket) : Type 0 where
  pub unsettled : (k : ℕ) (t : Ticket) (uuids : List ℕ) (plan : Option Swap) → fin.get tickets k ≡ Some t → t.out ≡ true → t.settled ≡ false → t.term ≡ term → t.work ≡ Deleting uuids plan
      → PruneLaw f (Safely f blobs doomed) safe t uuids plan
  pub settled : (k : ℕ) (t : Ticket) (uuids : List ℕ) (s : Swap) → fin.get tickets k ≡ Some t → t.settled ≡ true → t.work ≡ Deleting uuids (Some s) → (name : BlobName) → Has (dooms f t) name → Has doomed name
