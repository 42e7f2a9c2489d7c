-- The list of targets: what it has, and that no two are of one shard.
use Rattle.std.proofs.Common.{◌≡◌, ℕ, Bool, true, false, if◌then◌else◌, List, [], ◌∷◌, ◌++◌, Option, Some, None, refl, sym, ap, ◌∙◌, subst, inl, inr}
use Rattle.esr_model.specs.Values.{Has}
use Rattle.esr_model.specs.Places.{put_by, sorted_by}
use Rattle.esr_core.specs.Laws.SortedLists.{Has-put_by, Has-sorted}
use Rattle.esr_model.specs.Lists.{Has-left, Has-right, Has-either}
use Rattle.esr_desk.specs.declared.target.RestoredTarget.{RestoredTarget}
use Rattle.esr_targets.specs.declared.target.Restored.{Restored}
use Rattle.esr_targets.specs.Listed.{line_of, listed_at, listed}
use Rattle.esr_targets.specs.Targets.{AreSingle}
use Rattle.esr_targets.proofs.Splits.{AreInOrder}

-- the target, listed under the line
abbrev pub listing : {T : Type 0} → RestoredTarget T → ℕ → Restored T
listing r n = record { line = n; index = r.index; shard = r.shard; target = r.target }

pub record ListedAs {T : Type 0} (ops : List (ℕ × ℕ)) (restored : List (RestoredTarget T)) (t : Restored T) : Type 0 where
  pub r : RestoredTarget T
  pub there : Has restored r
  pub number : ℕ
  pub line_is : line_of ops r.op ≡ Some number
  pub is : listing r number ≡ t

listed_later : {T : Type 0} (ops : List (ℕ × ℕ)) (x : RestoredTarget T) (restored : List (RestoredTarget T)) (t : Restored T) → ListedAs ops restored t → ListedAs ops (x ∷ restored) t
listed_later ops x restored t h = record { r = h.r; there = inr h.there; number = h.number; line_is = h.line_is; is = h.is }

listed_by : {T : Type 0} (ops : List (ℕ × ℕ)) (r : RestoredTarget T) (restored : List (RestoredTarget T)) (t : Restored T) (o : Option ℕ) → line_of ops r.op ≡ o → Has (listed_at r o) t → ListedAs ops (r ∷ restored) t
listed_by ops r restored t None is h = absurd h
listed_by ops r restored t (Some n) is (inl e) = record { r = r; there = inl refl; number = n; line_is = is; is = e }
listed_by ops r restored t (Some n) is (inr h) = absurd h

pub in_listed : {T : Type 0} (ops : List (ℕ × ℕ)) (restored : List (RestoredTarget T)) (t : Restored T) → Has (listed ops restored) t → ListedAs ops restored t
in_listed ops [] t h = absurd h
in_listed ops (r ∷ restored) t h = elim (Has-either (listed_at r (line_of ops r.op)) (listed ops restored) t h) [
  | inl here ↦ listed_by ops r restored t (line_of ops r.op) refl here
  | inr later ↦ listed_later ops r restored t (in_listed ops restored t later)
]

pub to_listed : {T : Type 0} (ops : List (ℕ × ℕ)) (restored : List (RestoredTarget T)) (r : RestoredTarget T) (n : ℕ) → Has restored r → line_of ops r.op ≡ Some n → Has (listed ops restored) (listing r n)
to_listed ops [] r n h is = absurd h
to_listed ops (x ∷ restored) r n (inl e) is =
    Has-left (listed_at x (line_of ops x.op)) (listed ops restored) (listing r n)
    (subst (λ (y : Option ℕ). Has (listed_at x y) (listing r n)) (sym is ∙ ap (λ (y : RestoredTarget _). line_of ops y.op) (sym e)) (inl (ap (λ (y : RestoredTarget _). listing y n) e)))
to_listed ops (x ∷ restored) r n (inr h) is = Has-right (listed_at x (line_of ops x.op)) (listed ops restored) (listing r n) (to_listed ops restored r n h is)

-- ---- no two are of one shard

-- they are not of one line, index and shard
abbrev pub AreApartBy : {T : Type 0} → List (ℕ × ℕ) → RestoredTarget T → RestoredTarget T → Type 0
AreApartBy ops a b = (n : ℕ) → line_of ops a.op ≡ Some n → line_of ops b.op ≡ Some n → b.index ≡ a.index → b.shard ≡ a.shard → ⊥

one_single : {T : Type 0} (ops : List (ℕ × ℕ)) (r : RestoredTarget T) (restored : List (RestoredTarget T)) (o : Option ℕ) → line_of ops r.op ≡ o → ((q : RestoredTarget T) → Has restored q → AreApartBy ops r q)
    → AreSingle (listed ops restored)
    → AreSingle (listed_at r o ++ listed ops restored)
one_single ops r restored None is apart rest = rest
one_single ops r restored (Some n) is apart rest = (
  λ u m line index shard.
      let h = in_listed ops restored u m in
      apart h.r h.there n is (h.line_is ∙ ap Some (ap (λ (y : Restored _). y.line) h.is ∙ line)) (ap (λ (y : Restored _). y.index) h.is ∙ index) (ap (λ (y : Restored _). y.shard) h.is ∙ shard),
  rest,
)

pub listed_single : {T : Type 0} (ops : List (ℕ × ℕ)) (restored : List (RestoredTarget T)) → AreInOrder (AreApartBy ops) restored → AreSingle (listed ops restored)
listed_single ops [] h = tt
listed_single ops (r ∷ restored) h = one_single ops r restored (line_of ops r.op) refl h.0 (listed_single ops restored h.1)

-- ---- nor when they are put in order

abbrev IsOther : {T : Type 0} → Restored T → Restored T → Type 0
IsOther x u = u.line ≡ x.line → u.index ≡ x.index → u.shard ≡ x.shard → ⊥

put_by_test : {T : Type 0} (b : Bool) (x y : Restored T) (ys more : List (Restored T)) → AreSingle (x ∷ y ∷ ys) → AreSingle (y ∷ more) → AreSingle (if b then x ∷ y ∷ ys else y ∷ more)
put_by_test true x y ys more h k = h
put_by_test false x y ys more h k = k

put_single : {T : Type 0} (first : Restored T → Restored T → Bool) (x : Restored T) (ts : List (Restored T)) → ((u : Restored T) → Has ts u → IsOther x u) → AreSingle ts → AreSingle (put_by first x ts)
put_single first x [] other h = (λ u m. absurd m, tt)
put_single first x (y ∷ ys) other h =
    put_by_test (first x y) x y ys (put_by first x ys) (other, h) (
      λ u m line index shard. elim (Has-put_by first x u ys m) [
        | inl e ↦ other y (inl refl) (sym line ∙ ap (λ (z : Restored _). z.line) (sym e)) (sym index ∙ ap (λ (z : Restored _). z.index) (sym e)) (sym shard ∙ ap (λ (z : Restored _). z.shard) (sym e))
        | inr there ↦ h.0 u there line index shard
      ],
      put_single first x ys (λ u m. other u (inr m)) h.1,
    )

pub sorted_single : {T : Type 0} (first : Restored T → Restored T → Bool) (ts : List (Restored T)) → AreSingle ts → AreSingle (sorted_by first ts)
sorted_single first [] h = tt
sorted_single first (x ∷ ts) h = put_single first x (sorted_by first ts) (λ u m. h.0 u (Has-sorted first ts u m)) (sorted_single first ts h.1)
