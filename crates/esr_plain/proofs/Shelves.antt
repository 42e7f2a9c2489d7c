-- A shelf without some snapshots.
use Rattle.std.proofs.Common.{◌≡◌, ℕ, not, List, [], ◌∷◌, refl, ap, inl, inr}
use Rattle.std.specs.List.{filter}
use Rattle.std.proofs.lemmas.Bool.{cases_Bool}
use Rattle.esr_model.specs.Shelf.{Shelved, names_uuid, left_shelf}

pub left-filter : (uuids : List ℕ) (shelf : List Shelved) → filter (λ (s : Shelved). not (names_uuid uuids s.uuid)) shelf ≡ left_shelf uuids shelf
left-filter uuids [] = refl
left-filter uuids (s ∷ shelf) = elim (cases_Bool (names_uuid uuids s.uuid)) [
  | inl named ↦ rw named (left-filter uuids shelf)
  | inr other ↦ rw other (ap (λ (l : List Shelved). s ∷ l) (left-filter uuids shelf))
]
