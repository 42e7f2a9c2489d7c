-- The names of the parts of a file.
use Rattle.std.proofs.Common.{◌≡◌, ◌⊎◌, ℕ, zero, suc, [], ◌∷◌, sym, subst, inl, inr}
use Rattle.std.proofs.lemmas.Bool.{cases_Bool, cond-true, cond-false}
use Rattle.std.specs.Prelude.{leb}
use Rattle.esr_model.specs.Names.{BlobName, File, Part}
use Rattle.esr_model.specs.Values.{Has, FileEntry}
use Rattle.esr_model.specs.Parts.{part_count, parts_from, part_names}

in_parts_from : (i k x p n : ℕ) (name : BlobName) → Has (parts_from i k x p n) name → (q : ℕ) × (name ≡ Part i k x q)
in_parts_from i k x p zero name h = absurd h
in_parts_from i k x p (suc n) name (inl e) = (p, sym e)
in_parts_from i k x p (suc n) name (inr m) = in_parts_from i k x (suc p) n name m

-- a part's name has the id of its file
pub in_parts : (i k : ℕ) (e : FileEntry) (name : BlobName) → Has (part_names i k e) name → (name ≡ File i k e.name) ⊎ ((p : ℕ) × (name ≡ Part i k e.name p))
in_parts i k e name h = elim (cases_Bool (leb e.len e.part_size)) [
  | inl t ↦ one (subst (λ l. Has l name) (cond-true _ _ _ t) h)
  | inr t ↦ inr (in_parts_from i k e.name 0 (part_count e.len e.part_size) name (subst (λ l. Has l name) (cond-false _ _ _ t) h))
]
  where
    one : Has (File i k e.name ∷ []) name → (name ≡ File i k e.name) ⊎ ((p : ℕ) × (name ≡ Part i k e.name p))
    one (inl s) = inl (sym s)
    one (inr m) = absurd m
