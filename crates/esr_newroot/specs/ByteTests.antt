-- Texts that are the same, or one below the other, by the test of their bytes.
use Rattle.std.proofs.Common.{◌≡◌, ◌≢◌, ℕ, true, false, List, sym, ap, ◌∙◌}
use Rattle.std.specs.Ordering.{nat_cmp, is_eq}
use Rattle.std.specs.Str.{bytes_eq}
use Rattle.std.specs.Cmp.Lexicographic.{slice_cmp}
use Rattle.std.specs.declared.cmp.Ordering.TheVariants.{Less}
use Rattle.std.proofs.lemmas.Bool.{true≢false}
use Rattle.std.proofs.lemmas.Map.Text.{is_eq-slice_cmp}
use Rattle.std.proofs.lemmas.Slice.Eq.{bytes_eq-Decides}
use Rattle.esr_root.specs.NameOrder.{flipped}

pub named_so : (a b : List ℕ) → a ≡ b → bytes_eq a b ≡ true
named_so a b e = (bytes_eq-Decides a b).1 e

pub differ : (a b : List ℕ) → bytes_eq a b ≡ false → a ≢ b
differ a b h e = true≢false (sym (named_so a b e) ∙ h)

-- ---- by the order of bytes

pub below : (a b : List ℕ) → slice_cmp nat_cmp a b ≡ Less → (bytes_eq a b ≡ false) × (bytes_eq b a ≡ false)
below a b e = (sym (is_eq-slice_cmp a b) ∙ ap is_eq e, sym (is_eq-slice_cmp b a) ∙ ap is_eq (flipped a b Less e))
