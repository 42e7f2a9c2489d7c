-- Lists of names, and the steps that are made for each.
use Rattle.std.proofs.Common.{◌≡◌, ◌⊎◌, inl, inr, ⊎_elim, ℕ, zero, suc, ◌+◌, ◌<◌, ◌≤◌, List, [], ◌∷◌, ◌++◌, length, take, map, get_or, slice_index_or, refl, sym, ap, ◌∙◌, subst, arith}
use Rattle.std.proofs.lemmas.List.{take_all, take_more}
use Rattle.esr_model.specs.Lists.{Has-map}
use Rattle.esr_names.specs.declared.blob.BlobName.{BlobName as CodeName}
use Rattle.esr_model.specs.Names.{BlobName}
use Rattle.esr_model.specs.Values.{Has}
use Rattle.esr_core.specs.Restores.{AreOnce}
use Rattle.esr_formats.specs.Names.{name_of}
use Rattle.esr_verify.specs.Steps.{Answered, writing, reading}

-- ---- what is in a list

pub has_last : {A : Type 0} (xs : List A) (y : A) → Has (xs ++ y ∷ []) y
has_last [] y = inl refl
has_last (x ∷ xs) y = inr (has_last xs y)

-- ---- the name at a place of a list

pub has_at : (names : List CodeName) (k : ℕ) (name : CodeName) → k < length names → name ≡ get_or names k name → Has names name
has_at [] k name less is = absurd (omega (arith, less))
has_at (x ∷ names) zero name less is = inl (sym is)
has_at (x ∷ names) (suc k) name less is = let fewer : k < length names = omega (arith, less) in inr (has_at names k name fewer is)

-- none before it is the same
pub not_before : (names : List CodeName) (k : ℕ) (name : CodeName) → AreOnce (map name_of names) → k < length names → name ≡ get_or names k name → Has (map name_of (take k names)) (name_of name) → ⊥
not_before [] k name once less is = absurd (omega (arith, less))
not_before (x ∷ names) zero name once less is = λ none. none
not_before (x ∷ names) (suc k) name once less is =
    let fewer : k < length names = omega (arith, less) in
    λ has. ⊎_elim
    (λ (here : name_of x ≡ name_of name). once.0 (subst (Has (map name_of names)) (sym here) (Has-map name_of names name (has_at names k name fewer is))))
    (λ later. not_before names k name once.1 fewer is later)
    has

map_both : {A B : Type 0} (f : A → B) (xs ys : List A) → map f (xs ++ ys) ≡ map f xs ++ map f ys
map_both f [] ys = refl
map_both {B = B} f (x ∷ xs) ys = ap (λ (l : List B). f x ∷ l) (map_both f xs ys)

-- the names up to it, and it
pub names_more : (names : List CodeName) (k : ℕ) (name : CodeName) → k < length names → name ≡ get_or names k name → map name_of (take (k + 1) names) ≡ map name_of (take k names) ++ name_of name ∷ []
names_more names k name less is =
    ap (λ (l : List CodeName). map name_of l) (take_more names k name less ∙ ap (λ (n : CodeName). take k names ++ n ∷ []) (sym is)) ∙ map_both name_of (take k names) (name ∷ [])

-- what stands at a place, whatever would stand for nothing
any_default : (names : List CodeName) (k : ℕ) (one two : CodeName) → k < length names → get_or names k one ≡ get_or names k two
any_default [] k one two less = absurd (omega (arith, less))
any_default (x ∷ names) zero one two less = refl
any_default (x ∷ names) (suc k) one two less = let fewer : k < length names = omega (arith, less) in any_default names k one two fewer

pub item_at : (xs names : List CodeName) (k : ℕ) (default : CodeName) → xs ≡ names → k < length xs → (k < length names) × (slice_index_or xs k default ≡ get_or names k (slice_index_or xs k default))
item_at xs names k default same less = (
  subst (λ (l : List CodeName). k < length l) same less,
  any_default xs k default (slice_index_or xs k default) less ∙ ap (λ (l : List CodeName). get_or l k (slice_index_or xs k default)) same,
)

-- all of them
pub names_all : (xs names : List CodeName) (k : ℕ) → xs ≡ names → length xs ≤ k → map name_of (take k names) ≡ map name_of names
names_all xs names k same all = let most = subst (λ (l : List CodeName). length l ≤ k) same all in ap (λ (l : List CodeName). map name_of l) (take_all k names most)

-- ---- the steps for names

pub writing_both : (xs ys : List BlobName) → writing (xs ++ ys) ≡ writing xs ++ writing ys
writing_both [] ys = refl
writing_both (x ∷ xs) ys =
    let first = writing (x ∷ []) in
    ap (λ (l : List Answered). first ++ l) (writing_both xs ys)

pub reading_both : (xs ys : List BlobName) → reading (xs ++ ys) ≡ reading xs ++ reading ys
reading_both [] ys = refl
reading_both (x ∷ xs) ys =
    let first = reading (x ∷ []) in
    ap (λ (l : List Answered). first ++ l) (reading_both xs ys)
