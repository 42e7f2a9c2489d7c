-- Laws of tests of numbers and of texts, and of options.
use Rattle.std.proofs.Common.{◌≡◌, ◌⊎◌, Option, Some, None, refl, inl, inr, true, false, subst, ℕ, Bool, ap, List, [], ◌∷◌, ◌∙◌}
use Rattle.std.proofs.lemmas.Bool.Decides.{eqb_tells}
use Rattle.std.specs.Cmp.{eq_by_cmp_equiv}
use Rattle.std.specs.Cmp.Lexicographic.{nat_list_cmp_total}
use Rattle.std.specs.Prelude.{◌==◌, ◌&&◌}
use Rattle.std.proofs.lemmas.Bool.{cases_Bool}
use Rattle.std.specs.List.{list_any}
use Rattle.esr_model.specs.Values.{Bytes, Has}
use Rattle.esr_model.specs.Uploads.{same_bytes}
use Rattle.esr_core.specs.Laws.Maps.{split, texts_same}

-- an optional value is None, or some
pub told : {A : Type 0} (o : Option A) → (o ≡ None) ⊎ ((x : A) × (o ≡ Some x))
told None = inl refl
told (Some x) = inr (x, refl)

-- equal texts are one
pub same_one : (a b : Bytes) → ((same_bytes a b ≡ true) × (a ≡ b)) ⊎ (same_bytes a b ≡ false)
same_one a b = elim (split nat_list_cmp_total texts_same a b) [
  | inl e ↦ inl (subst (λ x. same_bytes a x ≡ true) e ((eq_by_cmp_equiv nat_list_cmp_total).refl a), e)
  | inr e ↦ inr e.1
]

pub same_true : (a b : Bytes) → a ≡ b → same_bytes a b ≡ true
same_true a b e = subst (λ x. same_bytes a x ≡ true) e ((eq_by_cmp_equiv nat_list_cmp_total).refl a)

pub pair_tells : (a b c d : ℕ) → ((((a == b) && (c == d)) ≡ true) × ((a ≡ b) × (c ≡ d))) ⊎ ((((a == b) && (c == d)) ≡ false) × (a ≡ b → c ≡ d → ⊥))
pair_tells a b c d = elim (eqb_tells a b) [
  | inl s ↦ elim (eqb_tells c d) [
    | inl t ↦ inl ((λ j. s.0 j && t.0 j), (s.1, t.1))
    | inr t ↦ inr ((λ j. s.0 j && t.0 j), λ x y. t.1 y)
  ]
  | inr s ↦ inr (ap (λ (x : Bool). x && (c == d)) s.0, λ x y. s.1 x)
]

pub clash : (b : Bool) → b ≡ true → b ≡ false → ⊥
clash b p q = cc

pub any_of : {A : Type 0} (test : A → Bool) (xs : List A) (x : A) → Has xs x → test x ≡ true → list_any test xs ≡ true
any_of test [] x m e = absurd m
any_of test (y ∷ ys) x m e = elim (cases_Bool (test y)) [
  | inl b ↦ rw b refl
  | inr b ↦ elim m [ inl same ↦ absurd (clash (test y) (ap test same ∙ e) b) | inr rest ↦ rw b (any_of test ys x rest e) ]
]

pub same_number : (n : ℕ) → (n == n) ≡ true
same_number n = elim (eqb_tells n n) [ inl t ↦ t.0 | inr t ↦ absurd (t.1 refl) ]
