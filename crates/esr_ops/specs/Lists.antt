-- Laws of lists: their members, and what holds of each.
use Rattle.std.proofs.Common.{◌≡◌, ℕ, zero, suc, ◌+◌, ◌≤◌, Bool, true, false, cond, List, [], ◌∷◌, Option, Some, None, map, length, refl, sym, ap, ◌∙◌, subst, inl, inr, true≢false, arith, slice_get, ltb, ◌<◌, get_or, drop, add-one, drop-cons}
use Rattle.std.specs.List.{AllByRecursion, position, position_or_len, prefix_len}
use Rattle.std.specs.Prelude.{not}
use Rattle.std.proofs.lemmas.List.{length-map}
use Rattle.std.proofs.lemmas.Bool.Decides.{Decides-ltb}
use Rattle.std.proofs.lemmas.Bool.{cases_lt}
use Rattle.esr_model.specs.Values.{Has, Bytes}
use Rattle.std.specs.Str.{bytes_eq}
use Rattle.std.specs.Cmp.Lexicographic.{texts_ties}
use Rattle.std.proofs.lemmas.Option.{same_Some, none-some}
use Rattle.esr_model.specs.Uploads.{same_bytes}

pub all_member : {A : Type 0} (P : A → Type 0) (xs : List A) → AllByRecursion P xs → (x : A) → Has xs x → P x
all_member P [] h x m = absurd m
all_member P (y ∷ ys) h x (inl e) = subst P e h.0
all_member P (y ∷ ys) h x (inr m) = all_member P ys h.1 x m

-- an element by its place is a member
pub Has-at : {A : Type 0} (xs : List A) (i : ℕ) (x : A) → slice_get xs i ≡ Some x → Has xs x
Has-at [] i x e = absurd (none-some x e)
Has-at (y ∷ ys) zero x e = inl (same_Some y x e)
Has-at (y ∷ ys) (suc i) x e = inr (Has-at ys i x e)

-- ---- the first place at which a test passes

prefix_len-map : {A B : Type 0} (p : B → Bool) (f : A → B) (xs : List A) → prefix_len p (map f xs) ≡ prefix_len (λ x. p (f x)) xs
prefix_len-map p f [] = refl
prefix_len-map p f (x ∷ xs) = ap (λ n. cond (p (f x)) (1 + n) 0) (prefix_len-map p f xs)

pub position-map : {A B : Type 0} (p : B → Bool) (f : A → B) (xs : List A) → position p (map f xs) ≡ position (λ x. p (f x)) xs
position-map p f xs = λ i. cond (ltb (prefix_len-map (λ x. not (p x)) f xs i) (length-map xs f i)) (Some (prefix_len-map (λ x. not (p x)) f xs i)) None

module _ {A : Type 0} (p : A → Bool) where
  longer : (y x : A) (ys : List A) (b : Bool) → p y ≡ b → suc (length ys) ≤ cond (not b) (1 + position_or_len p ys) 0 → (length ys ≤ position_or_len p ys → Has ys x → p x ≡ false) → Has (y ∷ ys) x → p x ≡ false
  longer y x ys true e short rest m = absurd (omega arith)
  longer y x ys false e more rest (inl is) = subst (λ z. p z ≡ false) is e
  longer y x ys false e more rest (inr m) = rest (omega arith) m

  long : (xs : List A) → length xs ≤ position_or_len p xs → (x : A) → Has xs x → p x ≡ false
  long [] h x m = absurd m
  long (y ∷ ys) h x m = longer y x ys (p y) refl h (λ le there. long ys le x there) m

  missed : (b : Bool) (n : ℕ) → ◌≡◌ {A = Option ℕ} (cond b (Some n) None) None → b ≡ false
  missed true n e = absurd (none-some n (sym e))
  missed false n e = refl

  -- there is none at which it passes
  pub position-None : (xs : List A) → position p xs ≡ None → (x : A) → Has xs x → p x ≡ false
  position-None xs e x m =
      let past : ltb (position_or_len p xs) (length xs) ≡ false = missed _ _ e in
      long xs (elim (cases_lt (position_or_len p xs) (length xs)) [ inl lt ↦ absurd (true≢false (sym ((Decides-ltb _ _).1 lt) ∙ past)) | inr le ↦ le ]) x m

-- two ways to compare texts
pub same_bytes-is : (a b : Bytes) → same_bytes a b ≡ bytes_eq a b
same_bytes-is a b = sym (texts_ties a b)

-- what is left of a list begins with the element at the place
pub left_from : {A : Type 0} (xs : List A) (i : ℕ) (x : A) → i < length xs → x ≡ get_or xs i x → drop i xs ≡ x ∷ drop (i + 1) xs
left_from xs i x lt is = drop-cons xs i x lt ∙ (λ j. sym is j ∷ drop (sym (add-one i) j) xs)
