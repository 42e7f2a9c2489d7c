-- Ids of terms that have not come.
use Rattle.std.specs.Prelude.{ℕ, Bool, nat_lt, if◌then◌else◌, List, [], ◌∷◌, ◌++◌, Option, Some, None}
use Rattle.esr_model.specs.Values.{RootSnap, RootIndex, RootData}

abbrev pub generation_ids : List (Option ℕ) → List ℕ
generation_ids [] = []
generation_ids (None ∷ generations) = generation_ids generations
generation_ids (Some g ∷ generations) = g ∷ generation_ids generations

abbrev pub index_ids : List RootIndex → List ℕ
index_ids [] = []
index_ids (x ∷ xs) = x.id ∷ generation_ids x.generations ++ index_ids xs

abbrev pub snapshot_ids : List RootSnap → List ℕ
snapshot_ids [] = []
snapshot_ids (s ∷ snaps) = s.uuid ∷ snapshot_ids snaps

-- the ids of a root: the uuids of its snapshots, then of each index its id and its generations
abbrev pub root_ids : RootData → List ℕ
root_ids root = snapshot_ids root.snapshots ++ index_ids root.indices

-- the first that isn't below a bound
abbrev pub first_from : ℕ → List ℕ → Option ℕ
first_from bound [] = None
first_from bound (id ∷ ids) = if nat_lt id bound then first_from bound ids else Some id
