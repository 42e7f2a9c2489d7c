-- Where an id stands among entries that rise by id.
use Rattle.std.proofs.Common.{◌≡◌, ℕ, zero, suc, ◌-◌, ◌<◌, ◌≤◌, ◌==◌, ◌||◌, nat_lt, Bool, true, false, List, [], ◌∷◌, length, get_or, slice_get, Some, add-one, refl, sym, ap, ◌∙◌, arith, inl, inr}
use Rattle.std.specs.List.{list_any, AllByRecursion}
use Rattle.std.specs.List.Sorted.{IsNonDecreasingBy, IsPartitionPoint}
use Rattle.std.proofs.lemmas.Bool.{cases_Bool, ltb-true, ltb-false, eqb-true, eqb-false}
use Rattle.std.proofs.Math.Bool.{or-false}
use Rattle.esr_names.specs.declared.ids.Id.{Id}
use Rattle.esr_shardidx.specs.declared.entry.FileEntry.{FileEntry}
use Rattle.esr_shardidx.specs.Entries.{last_of, id_falls}
use Rattle.esr_shardidx.specs.Snapshots.{has_name}
use Rattle.esr_shardidx.specs.Indices.{Rises, place_of, is_at}
use Rattle.esr_shardidx.specs.FileOrder.{all_map, not_equal, Above}

-- ---- the last entry

-- an id that isn't below the last is at least the first
first_least : (u : Id) (e : FileEntry) (es : List FileEntry) → Rises (e ∷ es) → id_falls (last_of (e ∷ es)) u ≡ false → e.name.number ≤ u.number
first_least u e [] rises stays = ltb-false u.number e.name.number stays
first_least u e (f ∷ es) rises stays =
    let place : length (e ∷ f ∷ es) - 1 ≡ suc (length (f ∷ es) - 1) = omega arith in
    let later = first_least u f es rises.1 (rw place at stays) in
    omega (arith, rises.0.0, later)

-- an id that isn't below the last is that of an entry exactly where it is that of the last
pub last_has : (u : Id) (es : List FileEntry) → Rises es → id_falls (last_of es) u ≡ false → list_any (has_name u) es ≡ is_at u (last_of es)
last_has u [] rises stays = refl
last_has u (e ∷ []) rises stays = or-false (has_name u e)
last_has u (e ∷ f ∷ es) rises stays =
    let place : length (e ∷ f ∷ es) - 1 ≡ suc (length (f ∷ es) - 1) = omega arith in
    let stays_on = rw place at stays in
    let least = first_least u f es rises.1 stays_on in
    let less : e.name.number < u.number = omega (arith, rises.0.0, least) in
    rw (not_equal e.name.number u.number less, place) (last_has u (f ∷ es) rises.1 stays_on)

-- ---- the place of an id

-- what holds of each holds of the one at a place
pub all_at : (P : FileEntry → Type 0) (es : List FileEntry) (i : ℕ) (e : FileEntry) → AllByRecursion P es → slice_get es i ≡ Some e → P e
all_at P [] i e all at = cc
all_at P (f ∷ es) zero e all at = let same : f ≡ e = cc in rw (← same) all.0
all_at P (f ∷ es) (suc i) e all at = all_at P es i e all.1 at

-- no two entries have one id
pub same_place : (es : List FileEntry) (i j : ℕ) (e f : FileEntry) → Rises es → slice_get es i ≡ Some e → slice_get es j ≡ Some f → e.name.number ≡ f.name.number → i ≡ j
same_place [] i j e f rises at_i at_j same = cc
same_place (x ∷ es) zero zero e f rises at_i at_j same = refl
same_place (x ∷ es) zero (suc j) e f rises at_i at_j same =
    let first : x ≡ e = cc in
    let above : Above x.name f = all_at (Above x.name) es j f rises.0 at_j in
    let number = ap (λ (y : FileEntry). y.name.number) first in
    absurd (omega (arith, above, same, number))
same_place (x ∷ es) (suc i) zero e f rises at_i at_j same =
    let first : x ≡ f = cc in
    let above : Above x.name e = all_at (Above x.name) es i e rises.0 at_i in
    let number = ap (λ (y : FileEntry). y.name.number) first in
    absurd (omega (arith, above, same, number))
same_place (x ∷ es) (suc i) (suc j) e f rises at_i at_j same = ap suc (same_place es i j e f rises.1 at_i at_j same)

-- an entry at a place is there
pub there_at : (u : Id) (es : List FileEntry) (i : ℕ) → is_at u (slice_get es i) ≡ true → list_any (has_name u) es ≡ true
there_at u [] i at = cc
there_at u (e ∷ es) zero at = rw at refl
there_at u (e ∷ es) (suc i) at = let later = there_at u es i at in either (has_name u e) later where
  either : {t : Bool} (b : Bool) → t ≡ true → (b || t) ≡ true
  either true h = refl
  either false h = h

pub none_over : (u : Id) (es : List FileEntry) → AllByRecursion (Above u) es → list_any (has_name u) es ≡ false
none_over u [] all = refl
none_over u (e ∷ es) all = elim (cases_Bool (e.name.number == u.number)) [
  | inl same ↦ let is = eqb-true e.name.number u.number same in absurd (omega (arith, all.0, is))
  | inr other ↦ rw (other, none_over u es all.1) refl
]

-- an id that isn't at its place isn't there
pub absent_at : (u : Id) (es : List FileEntry) → Rises es → is_at u (slice_get es (place_of u es)) ≡ false → list_any (has_name u) es ≡ false
absent_at u [] rises other = refl
absent_at u (e ∷ es) rises other = elim (cases_Bool (nat_lt e.name.number u.number)) [
  | inl less ↦
      let apart = not_equal e.name.number u.number (ltb-true e.name.number u.number less) in
      rw apart (absent_at u es rises.1 (rw (less, add-one) at other))
  | inr least ↦
      let apart : (e.name.number == u.number) ≡ false = rw least at other in
      let low = ltb-false e.name.number u.number least in
      let ne = eqb-false e.name.number u.number apart in
      let less : u.number < e.name.number = omega (arith, low, ne) in
      rw (apart, none_over u es (all_map (λ (x : FileEntry) (h : Above e.name x). let more : Above u x = omega (arith, h, less) in more) es rises.0)) refl
]

-- ---- a search by halves

all_from : (P : FileEntry → Type 0) (es : List FileEntry) (j : ℕ) (d : FileEntry) → AllByRecursion P es → j < length es → P (get_or es j d)
all_from P [] j d all within = absurd (omega arith)
all_from P (e ∷ es) zero d all within = all.0
all_from P (e ∷ es) (suc j) d all within = all_from P es j d all.1 (omega arith)

pub numbers_rise : (es : List FileEntry) → Rises es → IsNonDecreasingBy (λ (e : FileEntry). e.name.number) es
numbers_rise [] rises i j d order within = absurd (omega arith)
numbers_rise (e ∷ es) rises zero zero d order within = omega arith
numbers_rise (e ∷ es) rises zero (suc j) d order within = let above = all_from (Above e.name) es j d rises.0 (omega arith) in omega (arith, above)
numbers_rise (e ∷ es) rises (suc i) zero d order within = absurd (omega arith)
numbers_rise (e ∷ es) rises (suc i) (suc j) d order within = numbers_rise es rises.1 i j d (omega arith) (omega arith)

-- the place that a search by halves gives
pub place_of-is : (u : Id) (es : List FileEntry) (i : ℕ) → i ≤ length es → IsPartitionPoint (λ (e : FileEntry). nat_lt e.name.number u.number ≡ true) (λ (e : FileEntry). nat_lt e.name.number u.number ≡ false) es i
    → i ≡ place_of u es
place_of-is u [] i within point = omega arith
place_of-is u (e ∷ es) zero within point = let least = point.1 0 e (omega arith) (omega arith) in rw least refl
place_of-is u (e ∷ es) (suc i) within point =
    let less = point.0 0 e (omega arith) (omega arith) in
    let later = place_of-is u es i (omega arith) (λ k d low high. point.0 (suc k) d (omega arith) (omega arith), λ k d low high. point.1 (suc k) d (omega arith) (omega arith)) in
    rw less (ap suc later ∙ sym (add-one (place_of u es)))
