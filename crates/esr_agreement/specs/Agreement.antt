-- The info of a snapshot beside the root that lists it: it has the root's name, uuid and state, and exactly the indices that
-- have the snapshot, each with a generation of each of its shards.
use Rattle.std.specs.Prelude.{ℕ, zero, suc, Bool, true, false, ◌==◌, ◌&&◌, if◌then◌else◌, List, [], ◌∷◌, Option, is_some}
use Rattle.esr_model.specs.Values.{IndexRef, RootSnap, RootIndex, RootData, SnapInfo}
use Rattle.esr_model.specs.Shelf.{names_uuid}
use Rattle.esr_model.specs.Uploads.{same_bytes}
use Rattle.esr_model.specs.Image.{at_shard}
-- what the test of agreement means: `agreement_is` of this crate
pub use Rattle.esr_model.specs.Agreement.{Agrees}

-- each of the first so many shards has a generation
abbrev pub have_generations : List (Option ℕ) → ℕ → Bool
have_generations generations zero = true
have_generations generations (suc n) = is_some (at_shard generations n) && have_generations generations n

-- the root's index has the name, the snapshot, and a generation of each shard
abbrev pub serves : RootIndex → IndexRef → ℕ → Bool
serves x r uuid = same_bytes x.name r.name && (names_uuid x.snapshots uuid && have_generations x.generations r.shards)

-- so has the index of that id
abbrev pub is_served : List RootIndex → IndexRef → ℕ → Bool
is_served [] r uuid = false
is_served (x ∷ xs) r uuid = if x.id == r.id then serves x r uuid else is_served xs r uuid

abbrev pub are_served : List RootIndex → List IndexRef → ℕ → Bool
are_served indices [] uuid = true
are_served indices (r ∷ refs) uuid = is_served indices r uuid && are_served indices refs uuid

-- the info has this index
abbrev pub has_ref : List IndexRef → RootIndex → Bool
has_ref [] x = false
has_ref (r ∷ refs) x = if (r.id == x.id) && same_bytes r.name x.name then true else has_ref refs x

-- and each that has the snapshot
abbrev pub are_told : List RootIndex → List IndexRef → ℕ → Bool
are_told [] refs uuid = true
are_told (x ∷ xs) refs uuid = (if names_uuid x.snapshots uuid then has_ref refs x else true) && are_told xs refs uuid

unfoldable pub agrees : RootData → RootSnap → SnapInfo → Bool
agrees root snap info =
    (same_bytes info.name snap.name && ((info.uuid == snap.uuid) && (info.state == snap.state)))
    && (are_served root.indices info.indices snap.uuid && are_told root.indices info.indices snap.uuid)
