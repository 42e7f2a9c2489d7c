-- The id of a file that stands is in the names of its parts.
use Rattle.std.proofs.Common.{◌≡◌, ℕ, zero, suc, ◌<◌, false, true≢false, List, [], ◌∷◌, length, sym, ap, ◌∙◌, subst, inl, inr, arith}
use Rattle.std.proofs.lemmas.Bool.{le-leb, cases_Bool, cond-true, cond-false}
use Rattle.std.specs.Prelude.{leb}
use Rattle.esr_model.specs.Names.{BlobName, File, Part}
use Rattle.esr_model.specs.Values.{Bytes, FileEntry, Formats}
use Rattle.esr_model.specs.Kept.{IdsBelow}
use Rattle.esr_model.specs.Image.{AllPairs, concat, FileStands}
use Rattle.esr_model.specs.Parts.{part_count, parts_from}

-- a file that stands has a part, so its id is one of those in names
pub file_below : (f : Formats) (c : ℕ) (has : BlobName → Bytes → Type 0) → ((name : BlobName) (b : Bytes) → has name b → IdsBelow name c) → (i k : ℕ) (e : FileEntry) (bytes : Bytes) → FileStands f has i k e bytes → e.name < c
file_below f c has below i k e bytes s = elim (cases_Bool (leb e.len e.part_size)) [
  | inl t ↦ one s.parts (subst (λ names. AllPairs has names s.parts) (cond-true _ _ _ t) s.there)
  | inr t ↦ many t (part_count e.len e.part_size) s.parts (subst (λ names. AllPairs has names s.parts) (cond-false _ _ _ t) s.there) s.joined
]
  where
    one : (parts : List Bytes) → AllPairs has (File i k e.name ∷ []) parts → e.name < c
    one [] h = absurd h
    one (p ∷ parts) h = (below (File i k e.name) p h.0).1

    many : leb e.len e.part_size ≡ false → (n : ℕ) (parts : List Bytes) → AllPairs has (parts_from i k e.name 0 n) parts → concat parts ≡ bytes → e.name < c
    many t zero [] h joined = absurd (true≢false (sym (le-leb e.len e.part_size (let z : length bytes ≡ 0 = ap length (sym joined) in let l : length bytes ≡ e.len = s.len in omega (arith, z, l))) ∙ t))
    many t (suc n) (p ∷ parts) h joined = (below (Part i k e.name 0) p h.0).1
    many t n parts h joined = absurd h
