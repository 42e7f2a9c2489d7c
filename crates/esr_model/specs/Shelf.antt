-- The shelf: what a reader of the repository is to find.
use Rattle.std.specs.Prelude.{ℕ, Bool, true, false, ◌==◌, if◌then◌else◌, List, [], ◌∷◌, ◌++◌, filter, Option, Some, None}
use Rattle.std.specs.List.{list_any}
use Rattle.esr_model.specs.Values.{Bytes}
use Rattle.esr_model.specs.Uploads.{same_bytes}

pub record ShelfShard : Type 0 where
  pub index : Bytes
  pub number : ℕ
  pub files : List (Bytes × Bytes)

pub record Shelved : Type 0 where
  pub name : Bytes
  pub uuid : ℕ
  pub shards : List ShelfShard

abbrev pub names_uuid : List ℕ → ℕ → Bool
names_uuid [] u = false
names_uuid (x ∷ xs) u = if x == u then true else names_uuid xs u

-- a delete keeps what it doesn't name
abbrev pub left_shelf : List ℕ → List Shelved → List Shelved
left_shelf uuids [] = []
left_shelf uuids (s ∷ ss) = if names_uuid uuids s.uuid then left_shelf uuids ss else s ∷ left_shelf uuids ss

-- the shard is of one of these indices
abbrev pub is_of_one : List Bytes → ShelfShard → Bool
is_of_one names s = list_any (same_bytes s.index) names

-- the snapshot of this uuid
abbrev pub shelved_at : List Shelved → ℕ → Option Shelved
shelved_at [] uuid = None
shelved_at (s ∷ ss) uuid = if s.uuid == uuid then Some s else shelved_at ss uuid

-- what a snapshot has of these indices, under another name and uuid
abbrev pub copied_snap : Bytes → ℕ → List Bytes → Option Shelved → List Shelved
copied_snap name uuid names None = []
copied_snap name uuid names (Some s) = record { name = name; uuid = uuid; shards = filter (is_of_one names) s.shards } ∷ []

pub data Command : Type 0 where
  Create : (made : Shelved) → Command
  -- a snapshot of these indices of another one
  Clone : (source : ℕ) (name : Bytes) (uuid : ℕ) (names : List Bytes) → Command
  Delete : (uuids : List ℕ) → Command

abbrev pub apply : List Shelved → Command → List Shelved
apply shelf (Create made) = shelf ++ made ∷ []
apply shelf (Clone source name uuid names) = shelf ++ copied_snap name uuid names (shelved_at shelf source)
apply shelf (Delete uuids) = left_shelf uuids shelf

abbrev pub shelf_after : List Shelved → List Command → List Shelved
shelf_after shelf [] = shelf
shelf_after shelf (c ∷ cs) = shelf_after (apply shelf c) cs
