-- What the ticket of a unit may do at most.
use Rattle.std.specs.Prelude.{◌⊎◌, ℕ, zero, suc, ◌+◌, ◌*◌, max, List, [], ◌∷◌, ◌++◌, length, map, Option, Some, None}
use Rattle.esr_model.specs.Names.{BlobName, Root, Latest, ShardSnap, ShardIndex, File}
use Rattle.esr_model.specs.Values.{Bytes, Has, Formats, files_told}
use Rattle.esr_model.specs.Parts.{part_count, parts_from}
use Rattle.esr_core.specs.World.{Work, Shard, Finalize, Deleting, Drop, Ticket, Swap, swap}
use Rattle.esr_bounds.specs.Keys.{Key, DrawKey, BeginKey, CommitKey, LatestKey, FetchKey, PageKey, RaiseKey, SettleKey, DropKey, IndexKey, PlanKey, PrunedKey, NoneKey, RemovalKey, EndKey}

-- ---- names

-- the parts of the longest file
abbrev pub most_parts : ℕ → List (Bytes × Bytes) → ℕ
most_parts size [] = 0
most_parts size (file ∷ files) = max (part_count (length file.1) size) (most_parts size files)

-- how many parts a file of the shard has at most; a clone's ticket commits none
abbrev pub parts_by : Formats → ℕ → Bytes → Bytes → ℕ → Option ℕ → ℕ
parts_by f size place name number None = most_parts size (files_told f place name number)
parts_by f size place name number (Some source) = 0

-- how many ids its ticket draws at most: one for each file and one more, a clone's one
abbrev pub ids_by : Formats → Bytes → Bytes → ℕ → Option ℕ → ℕ
ids_by f place name number None = suc (length (files_told f place name number))
ids_by f place name number (Some source) = 1

-- the blobs of a shard under so many ids from the first on: an index, a file of one part, and so many numbered parts
abbrev pub names_under : ℕ → ℕ → ℕ → ℕ → ℕ → List BlobName
names_under index number parts first zero = []
names_under index number parts first (suc drawn) = ShardIndex index number first ∷ File index number first ∷ (parts_from index number first 0 parts ++ names_under index number parts (suc first) drawn)

-- what the ticket of a shard may commit: the snapshot of the shard, and the blobs under the ids that it drew
abbrev pub shard_names : Formats → ℕ → Ticket → Work → ℕ → ℕ → List BlobName
shard_names f size t (Shard index number) first drawn = ShardSnap index number t.uuid ∷ names_under index number (parts_by f size t.place t.name number t.source) first drawn
shard_names f size t (Finalize info results made) first drawn = []
shard_names f size t (Deleting uuids plan) first drawn = []
shard_names f size t Drop first drawn = []

-- what a swap writes before its root
abbrev pub swap_names : Option Swap → List BlobName
swap_names None = []
swap_names (Some s) = map (λ (b : BlobName × Bytes). b.0) s.own

abbrev pub root_names : Option ℕ → List BlobName
root_names None = []
root_names (Some n) = Root n ∷ []

-- what the ticket may commit
abbrev pub names_of : Formats → ℕ → Ticket → List BlobName
names_of f size t = shard_names f size t t.work t.first t.drawn ++ (swap_names (swap f t) ++ root_names t.raised)

-- what the ticket of a shard fetches: its base, and what a clone copies
abbrev pub base_names : ℕ → ℕ → Option ℕ → List BlobName
base_names index number None = []
base_names index number (Some generation) = ShardIndex index number generation ∷ []

abbrev pub source_names : ℕ → ℕ → Option ℕ → List BlobName
source_names index number None = []
source_names index number (Some uuid) = ShardSnap index number uuid ∷ []

abbrev pub fetch_names : Ticket → Work → List BlobName
fetch_names t (Shard index number) = base_names index number t.base ++ source_names index number t.source
fetch_names t (Finalize info results made) = []
fetch_names t (Deleting uuids plan) = []
fetch_names t Drop = []

-- ---- keys

-- what a ticket does on no name of its own
abbrev pub single_keys : List Key
single_keys = DrawKey ∷ LatestKey ∷ RaiseKey ∷ SettleKey ∷ DropKey ∷ PlanKey ∷ PrunedKey ∷ NoneKey ∷ EndKey ∷ BeginKey Latest ∷ []

abbrev pub keys_of : Formats → ℕ → Ticket → List Key
keys_of f size t = single_keys ++ (map FetchKey (fetch_names t t.work) ++ (map BeginKey (names_of f size t) ++ map CommitKey (names_of f size t)))

-- what the ticket of a delete or cleanup does besides: it fetches indices, lists and removes
abbrev pub IsOfDelete : Key → Type 0
IsOfDelete (IndexKey name) = Unit {0}
IsOfDelete (PageKey from) = Unit {0}
IsOfDelete (RemovalKey name) = Unit {0}
IsOfDelete x = ⊥

abbrev pub IsDelete : Work → Type 0
IsDelete (Shard index number) = ⊥
IsDelete (Finalize info results made) = ⊥
IsDelete (Deleting uuids plan) = Unit {0}
IsDelete Drop = ⊥

-- it may do this
abbrev pub MayDo : Formats → ℕ → Ticket → Key → Type 0
MayDo f size t x = Has (keys_of f size t) x ⊎ (IsOfDelete x × IsDelete t.work)

-- ---- how many steps

-- of a shard: for each id as many names as a file has parts, and two more; it begins and commits each
abbrev pub most_of_shard : Formats → ℕ → Bytes → Bytes → ℕ → Option ℕ → ℕ
most_of_shard f size place name number source = 12 + 2 * (2 + ids_by f place name number source * (2 + parts_by f size place name number source))

-- of a finalization of so many indices: its metadata, those of each index, and the root
abbrev pub most_of_final : ℕ → ℕ
most_of_final indices = 12 + 2 * (3 + indices)

-- of a drop
abbrev pub most_of_drop : ℕ
most_of_drop = 14
