-- Choices by a test, and names and ids that are the same.
use Rattle.std.proofs.Common.{◌≡◌, ◌≢◌, ℕ, Bool, true, false, List, sym, ap, ◌∙◌}
use Rattle.std.specs.Prelude.{if◌then◌else◌}
use Rattle.std.specs.Ordering.{nat_cmp, is_eq}
use Rattle.std.specs.Str.{bytes_eq}
use Rattle.std.specs.Cmp.Lexicographic.{slice_cmp}
use Rattle.std.specs.declared.cmp.Ordering.TheVariants.{Equal, Greater}
use Rattle.std.proofs.lemmas.Bool.{false_from_ne_true}
use Rattle.std.proofs.lemmas.Map.Text.{is_eq-slice_cmp}
use Rattle.std.proofs.lemmas.Slice.Eq.{bytes_eq-Decides}
use Rattle.esr_root.specs.NameOrder.{flipped}

pub chosen : {A : Type 0} {b : Bool} (x y : A) → b ≡ true → (if b then x else y) ≡ x
chosen x y e = ap (λ (c : Bool). if c then x else y) e

pub passed : {A : Type 0} {b : Bool} (x y : A) → b ≡ false → (if b then x else y) ≡ y
passed x y e = ap (λ (c : Bool). if c then x else y) e

pub same_names : (a b : List ℕ) → bytes_eq a b ≡ true → a ≡ b
same_names a b e = (bytes_eq-Decides a b).0 e

pub other_names : (a b : List ℕ) → a ≢ b → bytes_eq a b ≡ false
other_names a b h = false_from_ne_true (bytes_eq a b) (λ e. h (same_names a b e))

-- ---- by the order of bytes

pub equals : (a b : List ℕ) → slice_cmp nat_cmp a b ≡ Equal → a ≡ b
equals a b e = same_names a b (sym (is_eq-slice_cmp a b) ∙ ap is_eq e)

pub above : (a b : List ℕ) → slice_cmp nat_cmp a b ≡ Greater → (bytes_eq a b ≡ false) × (bytes_eq b a ≡ false)
above a b e = (sym (is_eq-slice_cmp a b) ∙ ap is_eq e, sym (is_eq-slice_cmp b a) ∙ ap is_eq (flipped a b Greater e))
