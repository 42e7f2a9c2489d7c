-- What a delete or cleanup prunes and dooms, piece by piece: by sets of numbers, and by what is held of the shards.
use Rattle.std.specs.Prelude.{◌≡◌, ℕ, suc, ◌==◌, ◌&&◌, ◌||◌, not, Bool, false, if◌then◌else◌, List, [], ◌∷◌, ◌++◌, flat_map, map, Option, Some, None}
use Rattle.std.specs.List.{list_any}
use Rattle.esr_model.specs.Names.{BlobName, Root, Snap, Meta, IndexMeta, ShardSnap, ShardIndex}
use Rattle.esr_model.specs.Values.{RootSnap, RootIndex, RootData, FileEntry, SnapList, ShardFiles}
use Rattle.esr_model.specs.Parts.{part_names}
use Rattle.esr_model.specs.Image.{index_at, at_shard_of}
use Rattle.esr_model.specs.Delete.{PrunedShard, names_uuid, uuids_of, gone_by, gone_shards}
use Rattle.esr_reach.specs.Held.{HeldShard, held_at}
use Rattle.esr_results.specs.declared.pruned.PrunedShard.{PrunedShard as CodePruned}
use Rattle.esr_results.specs.Pruned.{pruned_of}
use Rattle.esr_dooming.specs.declared.prune.Loss.{Loss}
use Rattle.esr_dooming.specs.declared.prune.Loss.TheVariants as losses

-- these shards were appended
abbrev pub Added : List CodePruned → List CodePruned → List PrunedShard → Type 0
Added old new more = map pruned_of new ≡ map pruned_of old ++ more

-- one of the numbers is this one
abbrev pub is_one : List ℕ → ℕ → Bool
is_one us u = list_any (λ v. v == u) us

-- some list of a snapshot that is left has the file
abbrev pub has_left_file : (ℕ → Bool) → List SnapList → ℕ → Bool
has_left_file left lists file = list_any (λ l. left l.uuid && is_one l.files file) lists

-- what each place of a list gives, the places numbered from a number on
abbrev pub of_places : {A : Type 0} → (ℕ → Option ℕ → List A) → ℕ → List (Option ℕ) → List A
of_places piece number [] = []
of_places piece number (g ∷ gs) = piece number g ++ of_places piece (suc number) gs

abbrev pub one_shard : ℕ → ℕ → ℕ → Bool → PrunedShard
one_shard index number base kept = record { index = index; number = number; base = base; kept = kept }

-- ---- the shards that it prunes

-- an index whose shards are read: a delete's has a named snapshot, a cleanup reads all
abbrev pub touches : Bool → (ℕ → Bool) → List ℕ → Bool
touches clean named us = clean || list_any named us

-- a listed snapshot that is named has the shard
abbrev pub has_victim : (ℕ → Bool) → (ℕ → Bool) → List SnapList → Bool
has_victim named listed lists = list_any (λ l. named l.uuid && listed l.uuid) lists

-- one that isn't listed has it
abbrev pub has_unlisted : (ℕ → Bool) → List SnapList → Bool
has_unlisted listed lists = list_any (λ l. not (listed l.uuid)) lists

-- a listed one that isn't named has it
abbrev pub has_left : (ℕ → Bool) → (ℕ → Bool) → List SnapList → Bool
has_left named listed lists = list_any (λ l. listed l.uuid && not (named l.uuid)) lists

-- what the shards of an index lose, where it leaves or not
abbrev pub loss_of : Bool → Bool → Loss
loss_of clean leaves = if leaves then losses.All else (if clean then losses.Unlisted else losses.Named)

-- whether something is left of a shard that has victims
abbrev pub kept_where : Bool → Bool → Option Bool
kept_where victim left = if victim then Some left else None

-- whether something is left of a shard that is pruned; None where it loses nothing. Of an index that leaves nothing is left
abbrev pub kept_by : (ℕ → Bool) → (ℕ → Bool) → Loss → List SnapList → Option Bool
kept_by named listed losses.All lists = Some false
kept_by named listed losses.Named lists = kept_where (has_victim named listed lists) (has_left named listed lists)
kept_by named listed losses.Unlisted lists = kept_where (has_unlisted listed lists) (has_left named listed lists)

abbrev pub one_piece : ℕ → ℕ → ℕ → Option Bool → List PrunedShard
one_piece index number base None = []
one_piece index number base (Some kept) = one_shard index number base kept ∷ []

-- of a shard by what was read of it
abbrev pub read_piece : (ℕ → Bool) → (ℕ → Bool) → Loss → ℕ → ℕ → ℕ → Option ShardFiles → List PrunedShard
read_piece named listed loss index number base None = []
read_piece named listed loss index number base (Some was) = one_piece index number base (kept_by named listed loss was.snapshots)

abbrev pub known_piece : (ℕ → Bool) → (ℕ → Bool) → Loss → List HeldShard → ℕ → ℕ → ℕ → List PrunedShard
known_piece named listed loss held index number base = read_piece named listed loss index number base (held_at held index number)

abbrev pub place_piece : (ℕ → Bool) → (ℕ → Bool) → Loss → List HeldShard → ℕ → ℕ → Option ℕ → List PrunedShard
place_piece named listed loss held index number None = []
place_piece named listed loss held index number (Some base) = known_piece named listed loss held index number base

-- no snapshot of the index is left
abbrev pub loses_all : (ℕ → Bool) → List ℕ → Bool
loses_all named us = not (list_any (λ u. not (named u)) us)

-- of an index that is read
abbrev pub index_piece : Bool → (ℕ → Bool) → (ℕ → Bool) → List HeldShard → RootIndex → List PrunedShard
index_piece clean named listed held x =
    if touches clean named x.snapshots then of_places (place_piece named listed (loss_of clean (loses_all named x.snapshots)) held x.id) 0 x.generations else []

-- ---- the shards that it is to read

abbrev pub read_place : ℕ → ℕ → Option ℕ → List PrunedShard
read_place index number None = []
read_place index number (Some base) = one_shard index number base false ∷ []

-- of an index that is read
abbrev pub read_index : Bool → (ℕ → Bool) → RootIndex → List PrunedShard
read_index clean named x = if touches clean named x.snapshots then of_places (read_place x.id) 0 x.generations else []

-- ---- the shards whose generation the new root hasn't

abbrev pub gone_place : List RootIndex → ℕ → ℕ → Option ℕ → List PrunedShard
gone_place new index number None = []
gone_place new index number (Some base) = gone_by base (at_shard_of (index_at new index) number) index number []

abbrev pub gone_index : List RootIndex → RootIndex → List PrunedShard
gone_index new x = of_places (gone_place new x.id) 0 x.generations

-- ---- the names that a delete dooms

abbrev pub root_piece : Option ℕ → List BlobName
root_piece None = []
root_piece (Some n) = Root n ∷ []

-- how many generations there are up to the root
abbrev pub root_count : Option ℕ → ℕ
root_count None = 0
root_count (Some n) = suc n

abbrev pub snap_piece : (ℕ → Bool) → RootSnap → List BlobName
snap_piece named s = if named s.uuid then Snap s.uuid ∷ Meta s.uuid ∷ [] else []

abbrev pub meta_piece : (ℕ → Bool) → ℕ → ℕ → List BlobName
meta_piece named index uuid = if named uuid then IndexMeta index uuid ∷ [] else []

abbrev pub metas_piece : (ℕ → Bool) → RootIndex → List BlobName
metas_piece named x = flat_map (meta_piece named x.id) x.snapshots

-- what a listed snapshot has of a shard goes: the shard's new index hasn't the snapshot
abbrev pub leaves : (ℕ → Bool) → (ℕ → Bool) → Bool → ℕ → Bool
leaves listed left kept uuid = listed uuid && not (kept && left uuid)

abbrev pub list_piece : (ℕ → Bool) → (ℕ → Bool) → PrunedShard → SnapList → List BlobName
list_piece listed left p l = if leaves listed left p.kept l.uuid then ShardSnap p.index p.number l.uuid ∷ [] else []

-- the parts of a file that the shard's new index hasn't
abbrev pub file_piece : (ℕ → Bool) → PrunedShard → FileEntry → List BlobName
file_piece has p e = if p.kept && has e.name then [] else part_names p.index p.number e

abbrev pub held_piece : (ℕ → Bool) → (ℕ → Bool) → PrunedShard → ShardFiles → List BlobName
held_piece listed left p was = flat_map (list_piece listed left p) was.snapshots ++ flat_map (file_piece (has_left_file left was.snapshots) p) was.files

abbrev pub files_piece : (ℕ → Bool) → (ℕ → Bool) → PrunedShard → Option ShardFiles → List BlobName
files_piece listed left p None = []
files_piece listed left p (Some was) = held_piece listed left p was

abbrev pub shard_piece : (ℕ → Bool) → (ℕ → Bool) → List HeldShard → PrunedShard → List BlobName
shard_piece listed left held p = ShardIndex p.index p.number p.base ∷ files_piece listed left p (held_at held p.index p.number)

-- of the named snapshots themselves
abbrev pub snaps_names : List ℕ → RootData → List BlobName
snaps_names uuids old = flat_map (snap_piece (names_uuid uuids)) old.snapshots ++ flat_map (metas_piece (names_uuid uuids)) old.indices

-- and of the shards whose generation the new root hasn't
abbrev pub gone_names : RootData → RootData → List HeldShard → List BlobName
gone_names old new held = flat_map (shard_piece (names_uuid (uuids_of old)) (names_uuid (uuids_of new)) held) (gone_shards new old.indices)
