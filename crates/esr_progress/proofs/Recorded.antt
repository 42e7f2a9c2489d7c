-- The ops as a record tells them: snapshots and deletes, by number.
use Rattle.std.proofs.Common.{◌≡◌, ℕ, ◌<◌, true, ◌≢◌, ◌⊎◌, ◌+◌, ◌≤◌, ◌^◌, Bool, List, [], ◌∷◌, ◌++◌, Option, Some, None, map, length, get_or, drop, refl, sym, ap, ◌∙◌, subst, inl, inr, arith, nat_cmp}
use Rattle.std.specs.Prelude.{nat_lt, filter}
use Rattle.std.proofs.lemmas.Bool.{lt-ltb, cases_Bool, cases_lt, and_from}
use Rattle.std.proofs.lemmas.List.{append_assoc, map-append, drop_all}
use Rattle.esr_model.specs.Values.{Has, RecordWork}
use Rattle.esr_record.specs.declared.op.RecordOp.{RecordOp}
use Rattle.esr_record.specs.Op.{IsWork, IsOp, last_op}
use Rattle.esr_core.specs.World.{Op, Deletion, work_of, record_ops}
use Rattle.esr_formats.specs.Clusters.{op_of}
use Rattle.esr_ops.specs.Deletes.{lies_between, deletion_entry, between}
use Rattle.esr_ops.specs.Inside.{numbers_of, Rise, AreNumbers}
use Rattle.std.specs.FinMap as fin
use Rattle.std.proofs.lemmas.Bool.Decides.{eqb_tells}
use Rattle.std.proofs.lemmas.Option.{none-some}
use Rattle.esr_model.specs.Lists.{Has-map, Has-mapped, Has-either, Has-right, Has-left}
use Rattle.esr_ops.specs.Between.{lies_after, lies_before, between_kept, between_left, from_place, last_pushed}
use Rattle.esr_ops.specs.Entries.{find-here, find-past, find-member, get_from, same_maps}
use Rattle.esr_ops.specs.Numbers.{found_member, entries_from}
use Rattle.esr_progress.proofs.Entries.{find-none}
use Rattle.esr_progress.proofs.Lists.{Has-filter}

pub so_lies : (after before n : ℕ) → after < n → n < before → lies_between after before n ≡ true
so_lies after before n a b = and_from (nat_lt after n) (nat_lt n before) (lt-ltb after n a) (lt-ltb n before b)

abbrev pub told : ℕ × Op → ℕ × RecordWork
told e = (e.0, work_of e.1)

-- the ops from one number on, and between them the deletes up to another
abbrev pub merged : ℕ → List (ℕ × Op) → List (ℕ × Deletion) → ℕ → List (ℕ × RecordWork)
merged last [] ds next = map deletion_entry (between last next ds)
merged last (e ∷ es) ds next = map deletion_entry (between last e.0 ds) ++ told e ∷ merged e.0 es ds next

-- the numbers lie between two others
abbrev Within : List ℕ → ℕ → ℕ → Type 0
Within ns last next = (n : ℕ) → Has ns n → (last < n) × (n < next)

-- ---- their numbers rise

numbers-deletes : (ds : List (ℕ × Deletion)) → numbers_of (map deletion_entry ds) ≡ numbers_of ds
numbers-deletes [] = refl
numbers-deletes (d ∷ ds) = ap (λ (ns : List ℕ). d.0 ∷ ns) (numbers-deletes ds)

kept_in : (p : ℕ × Deletion → Bool) (ds : List (ℕ × Deletion)) (n : ℕ) → Has (numbers_of (filter p ds)) n → Has (numbers_of ds) n
kept_in p ds n h =
    let (e, m, same) = Has-mapped (λ (x : ℕ × Deletion). x.0) (filter p ds) n h in
    subst (Has (numbers_of ds)) same (Has-map (λ (x : ℕ × Deletion). x.0) ds e (Has-filter p ds e m))

rise_kept : (p : ℕ × Deletion → Bool) (ds : List (ℕ × Deletion)) → Rise (numbers_of ds) → Rise (numbers_of (filter p ds))
rise_kept p [] r = tt
rise_kept p (d ∷ ds) r = elim (cases_Bool (p d)) [
  | inl kept ↦ rw kept ((λ n m. r.0 n (kept_in p ds n m)), rise_kept p ds r.1)
  | inr left ↦ rw left (rise_kept p ds r.1)
]

-- what is kept lies between
lies : (after before : ℕ) (ds : List (ℕ × Deletion)) → Within (numbers_of (between after before ds)) after before
lies after before [] n m = absurd m
lies after before (d ∷ ds) n m = elim (cases_Bool (lies_between after before d.0)) [
  | inl kept ↦
      let here : Has (d.0 ∷ numbers_of (between after before ds)) n = subst (λ (xs : List (ℕ × Deletion)). Has (numbers_of xs) n) (between_kept after before d ds kept) m in
      elim here [
        | inl e ↦ (subst (λ (k : ℕ). after < k) e (lies_after after before d.0 kept), subst (λ (k : ℕ). k < before) e (lies_before after before d.0 kept))
        | inr rest ↦ lies after before ds n rest
      ]
  | inr left ↦ lies after before ds n (subst (λ (xs : List (ℕ × Deletion)). Has (numbers_of xs) n) (between_left after before d ds left) m)
]

-- two lists whose numbers rise, the first below a number that is not above the second's
rise_both : (xs ys : List ℕ) (n : ℕ) → Rise xs → Rise ys → ((k : ℕ) → Has xs k → k < n) → ((k : ℕ) → Has ys k → n ≤ k) → Rise (xs ++ ys)
rise_both [] ys n a b below above = b
rise_both (x ∷ xs) ys n a b below above = (
  λ k m. elim (Has-either xs ys k m) [ inl h ↦ a.0 k h | inr h ↦ let lt = below x (inl refl) in let le = above k h in omega (arith, lt, le) ],
  rise_both xs ys n a.1 b (λ k m. below k (inr m)) above,
)

numbers-merged : (last : ℕ) (e : ℕ × Op) (es : List (ℕ × Op)) (ds : List (ℕ × Deletion)) (next : ℕ)
    → numbers_of (merged last (e ∷ es) ds next) ≡ numbers_of (between last e.0 ds) ++ e.0 ∷ numbers_of (merged e.0 es ds next)
numbers-merged last e es ds next =
    map-append (λ (x : ℕ × RecordWork). x.0) (map deletion_entry (between last e.0 ds)) (told e ∷ merged e.0 es ds next)
    ∙ ap (λ (ns : List ℕ). ns ++ e.0 ∷ numbers_of (merged e.0 es ds next)) (numbers-deletes (between last e.0 ds))

within_merged : (last : ℕ) (es : List (ℕ × Op)) (ds : List (ℕ × Deletion)) (next : ℕ) → Rise (numbers_of es) → Within (numbers_of es) last next → Within (numbers_of (merged last es ds next)) last next
within_merged last [] ds next r w n m = lies last next ds n (subst (λ (ns : List ℕ). Has ns n) (numbers-deletes (between last next ds)) m)
within_merged last (e ∷ es) ds next r w n m =
    let own = w e.0 (inl refl) in
    elim (Has-either (numbers_of (between last e.0 ds)) (e.0 ∷ numbers_of (merged e.0 es ds next)) n (subst (λ (ns : List ℕ). Has ns n) (numbers-merged last e es ds next) m)) [
      | inl h ↦ let at = lies last e.0 ds n h in (at.0, omega (arith, at.1, own.1))
      | inr h ↦ elim h [
        | inl same ↦ (subst (λ (k : ℕ). last < k) same own.0, subst (λ (k : ℕ). k < next) same own.1)
        | inr later ↦ let at = within_merged e.0 es ds next r.1 (λ k there. (r.0 k there, (w k (inr there)).1)) n later in (omega (arith, own.0, at.0), at.1)
      ]
    ]

rise_merged : (last : ℕ) (es : List (ℕ × Op)) (ds : List (ℕ × Deletion)) (next : ℕ) → Rise (numbers_of es) → Within (numbers_of es) last next → Rise (numbers_of ds) → Rise (numbers_of (merged last es ds next))
rise_merged last [] ds next r w d = subst Rise (sym (numbers-deletes (between last next ds))) (rise_kept (λ (x : ℕ × Deletion). lies_between last next x.0) ds d)
rise_merged last (e ∷ es) ds next r w d =
    let inner : Within (numbers_of es) e.0 next = λ k there. (r.0 k there, (w k (inr there)).1) in
    let rest : Rise (e.0 ∷ numbers_of (merged e.0 es ds next)) = ((λ n m. (within_merged e.0 es ds next r.1 inner n m).0), rise_merged e.0 es ds next r.1 inner d) in
    subst Rise (sym (numbers-merged last e es ds next))
    (rise_both (numbers_of (between last e.0 ds)) (e.0 ∷ numbers_of (merged e.0 es ds next)) e.0 (rise_kept (λ (x : ℕ × Deletion). lies_between last e.0 x.0) ds d) rest
    (λ k m. (lies last e.0 ds k m).1)
    (λ k m. elim m [ inl same ↦ omega (arith, same) | inr h ↦ let at = (within_merged e.0 es ds next r.1 inner k h).0 in omega (arith, at) ]))

-- ---- they are all ops and all deletes

widened : (after before : ℕ) (ds : List (ℕ × Deletion)) (x : ℕ × RecordWork) → Has (map deletion_entry (between after before ds)) x → Has (map deletion_entry ds) x
widened after before ds x m =
    let (d, there, same) = Has-mapped deletion_entry (between after before ds) x m in
    subst (Has (map deletion_entry ds)) same (Has-map deletion_entry ds d (Has-filter (λ (e : ℕ × Deletion). lies_between after before e.0) ds d there))

from_merged : (last : ℕ) (es : List (ℕ × Op)) (ds : List (ℕ × Deletion)) (next : ℕ) (x : ℕ × RecordWork) → Has (merged last es ds next) x → Has (map told es) x ⊎ Has (map deletion_entry ds) x
from_merged last [] ds next x m = inr (widened last next ds x m)
from_merged last (e ∷ es) ds next x m = elim (Has-either (map deletion_entry (between last e.0 ds)) (told e ∷ merged e.0 es ds next) x m) [
  | inl h ↦ inr (widened last e.0 ds x h)
  | inr h ↦ elim h [
    | inl same ↦ inl (inl same)
    | inr later ↦ elim (from_merged e.0 es ds next x later) [ inl a ↦ inl (inr a) | inr b ↦ inr b ]
  ]
]

op_merged : (last : ℕ) (es : List (ℕ × Op)) (ds : List (ℕ × Deletion)) (next : ℕ) (e : ℕ × Op) → Has es e → Has (merged last es ds next) (told e)
op_merged last [] ds next e m = absurd m
op_merged last (f ∷ es) ds next e (inl same) = Has-right (map deletion_entry (between last f.0 ds)) (told f ∷ merged f.0 es ds next) (told e) (inl (ap told same))
op_merged last (f ∷ es) ds next e (inr m) = Has-right (map deletion_entry (between last f.0 ds)) (told f ∷ merged f.0 es ds next) (told e) (inr (op_merged f.0 es ds next e m))

kept_there : (after before : ℕ) (ds : List (ℕ × Deletion)) (d : ℕ × Deletion) → Has ds d → after < d.0 → d.0 < before → Has (map deletion_entry (between after before ds)) (deletion_entry d)
kept_there after before [] d m a b = absurd m
kept_there after before (x ∷ ds) d (inl same) a b =
    let kept : lies_between after before x.0 ≡ true = ap (λ (y : ℕ × Deletion). lies_between after before y.0) same ∙ so_lies after before d.0 a b in
    rw kept (inl (ap deletion_entry same))
kept_there after before (x ∷ ds) d (inr m) a b = elim (cases_Bool (lies_between after before x.0)) [
  | inl kept ↦ rw kept (inr (kept_there after before ds d m a b))
  | inr left ↦ rw left (kept_there after before ds d m a b)
]

delete_merged : (last : ℕ) (es : List (ℕ × Op)) (ds : List (ℕ × Deletion)) (next : ℕ) (d : ℕ × Deletion) → Has ds d → last < d.0 → d.0 < next → (Has (numbers_of es) d.0 → ⊥) → Has (merged last es ds next) (deletion_entry d)
delete_merged last [] ds next d m a b apart = kept_there last next ds d m a b
delete_merged last (e ∷ es) ds next d m a b apart = elim (cases_lt d.0 e.0) [
  | inl less ↦ Has-left (map deletion_entry (between last e.0 ds)) (told e ∷ merged e.0 es ds next) (deletion_entry d) (kept_there last e.0 ds d m a less)
  | inr more ↦ elim (cases_lt e.0 d.0) [
    | inl above ↦ Has-right (map deletion_entry (between last e.0 ds)) (told e ∷ merged e.0 es ds next) (deletion_entry d) (inr (delete_merged e.0 es ds next d m above b (λ h. apart (inr h))))
    | inr under ↦ let same : e.0 ≡ d.0 = omega (arith, more, under) in absurd (apart (inl same))
  ]
]

-- ---- as a map

find-left : {A : Type 0} (q : ℕ) (xs ys : List (ℕ × A)) (v : A) → fin.find nat_cmp q xs ≡ Some v → fin.find nat_cmp q (xs ++ ys) ≡ Some v
find-left q [] ys v e = absurd (none-some v e)
find-left q (x ∷ xs) ys v e = elim (eqb_tells q x.0) [
  | inl t ↦ find-here q x (xs ++ ys) (sym t.1) ∙ sym (find-here q x xs (sym t.1)) ∙ e
  | inr t ↦ find-past q x (xs ++ ys) (λ s. t.1 (sym s)) ∙ find-left q xs ys v (sym (find-past q x xs (λ s. t.1 (sym s))) ∙ e)
]

find-right : {A : Type 0} (q : ℕ) (xs ys : List (ℕ × A)) → ((e : ℕ × A) → Has xs e → e.0 ≢ q) → fin.find nat_cmp q (xs ++ ys) ≡ fin.find nat_cmp q ys
find-right q [] ys h = refl
find-right q (x ∷ xs) ys h = find-past q x (xs ++ ys) (h x (inl refl)) ∙ find-right q xs ys (λ e m. h e (inr m))

numbers-told : (es : List (ℕ × Op)) → numbers_of (map told es) ≡ numbers_of es
numbers-told [] = refl
numbers-told (e ∷ es) = ap (λ (ns : List ℕ). e.0 ∷ ns) (numbers-told es)

module _ (es : List (ℕ × Op)) (ds : List (ℕ × Deletion)) (next : ℕ) (ops : AreNumbers (numbers_of es) next) (deletes : AreNumbers (numbers_of ds) next)
    (apart : (n : ℕ) → Has (numbers_of es) n → Has (numbers_of ds) n → ⊥) where
  all : List (ℕ × RecordWork)
  all = merged 0 es ds next

  inside : Within (numbers_of es) 0 next
  inside n m = let least = ops.least n m in (omega (arith, least), ops.below n m)

  rise_all : Rise (numbers_of all)
  unfolding all
  rise_all = rise_merged 0 es ds next ops.rise inside deletes.rise

  number_of_entry : {A : Type 0} (xs : List (ℕ × A)) (x : ℕ × A) → Has xs x → Has (numbers_of xs) x.0
  number_of_entry {A} xs x m = Has-map (λ (y : ℕ × A). y.0) xs x m

  -- what the two lists have, the merged one has
  found_there : (q : ℕ) (v : RecordWork) → Has all (q, v) → fin.find nat_cmp q (map told es ++ map deletion_entry ds) ≡ Some v
  unfolding all
  found_there q v m = elim (from_merged 0 es ds next (q, v) m) [
    | inl h ↦ find-left q (map told es) (map deletion_entry ds) v (found_member (map told es) (subst Rise (sym (numbers-told es)) ops.rise) (q, v) h)
    | inr h ↦
        let numbered : Has (numbers_of ds) q = subst (λ (ns : List ℕ). Has ns q) (numbers-deletes ds) (number_of_entry (map deletion_entry ds) (q, v) h) in
        find-right q (map told es) (map deletion_entry ds) (λ e there same. apart q (subst (λ (k : ℕ). Has (numbers_of es) k) same (subst (λ (ns : List ℕ). Has ns e.0) (numbers-told es) (number_of_entry (map told es) e there))) numbered)
        ∙ found_member (map deletion_entry ds) (subst Rise (sym (numbers-deletes ds)) deletes.rise) (q, v) h
  ]

  there_all : (x : ℕ × RecordWork) → Has (map told es ++ map deletion_entry ds) x → Has all x
  unfolding all
  there_all x m = elim (Has-either (map told es) (map deletion_entry ds) x m) [
    | inl h ↦ let (e, there, same) = Has-mapped told es x h in subst (Has (merged 0 es ds next)) same (op_merged 0 es ds next e there)
    | inr h ↦
        let (d, there, same) = Has-mapped deletion_entry ds x h in
        let number : Has (numbers_of ds) d.0 = number_of_entry ds d there in
        let least = deletes.least d.0 number in
        subst (Has (merged 0 es ds next)) same (delete_merged 0 es ds next d there (omega (arith, least)) (deletes.below d.0 number) (λ op. apart d.0 op number))
  ]

  find_same : (q : ℕ) → fin.find nat_cmp q all ≡ fin.find nat_cmp q (map told es ++ map deletion_entry ds)
  find_same q = go (fin.find nat_cmp q all) refl
    where
      go : (o : Option RecordWork) → fin.find nat_cmp q all ≡ o → fin.find nat_cmp q all ≡ fin.find nat_cmp q (map told es ++ map deletion_entry ds)
      go (Some v) e = e ∙ sym (found_there q v (find-member q all v e))
      go None e = e ∙ sym (find-none q (map told es ++ map deletion_entry ds) (λ x m same. none-some x.1 (sym e ∙ ap (λ (k : ℕ). fin.find nat_cmp k all) (sym same) ∙ found_member all rise_all x (there_all x m))))

  -- the record's ops are these
  pub all_told : merged 0 es ds next ≡ record_ops (fin.from_entries {R = nat_cmp} es) (fin.from_entries {R = nat_cmp} ds)
  unfolding all
  all_told =
      sym (entries_from all rise_all)
      ∙ ap fin.entries (same_maps (fin.from_entries {R = nat_cmp} all) (fin.from_entries {R = nat_cmp} (map told es ++ map deletion_entry ds)) (λ q. get_from all q ∙ find_same q ∙ sym (get_from (map told es ++ map deletion_entry ds) q)))
      ∙ (λ j. fin.entries (fin.from_entries {R = nat_cmp} (map told (sym (entries_from es ops.rise) j) ++ map deletion_entry (sym (entries_from ds deletes.rise) j))))

-- ---- the loop

-- so many ops were told, with the deletes before them
pub record AreTold (es : List (ℕ × Op)) (ds : List (ℕ × Deletion)) (next i last : ℕ) (os : List RecordOp) : Type 0 where
  pub rest : map op_of os ++ merged last (drop i es) ds next ≡ merged 0 es ds next
  pub above : last_op os ≤ last
  pub within : Within (numbers_of (drop i es)) last next
  pub rises : Rise (numbers_of (drop i es))

pub none_told : (es : List (ℕ × Op)) (ds : List (ℕ × Deletion)) (next : ℕ) → AreNumbers (numbers_of es) next → AreTold es ds next 0 0 []
none_told es ds next ops = record {
  rest = refl;
  above = omega arith;
  within = λ n m. let least = ops.least n m in (omega (arith, least), ops.below n m);
  rises = ops.rise;
}

pub number_most : (es : List (ℕ × Op)) (ds : List (ℕ × Deletion)) (next i last : ℕ) (os : List RecordOp) → AreTold es ds next i last os → (x : ℕ × Op) → i < length es → x ≡ get_or es i x → (n : ℕ) → n ≡ x.0
    → next ≤ 2 ^ 62 → n ≤ 2 ^ 62
number_most es ds next i last os t x lt is n n_is most =
    let under = (t.within x.0 (subst (λ (xs : List (ℕ × Op)). Has (numbers_of xs) x.0) (sym (from_place es i x lt is)) (inl refl))).1 in
    omega (arith, under, n_is, most)

module _ (es : List (ℕ × Op)) (ds : List (ℕ × Deletion)) (next i last : ℕ) (os mid : List RecordOp) (t : AreTold es ds next i last os) (x : ℕ × Op) (lt : i < length es) (is : x ≡ get_or es i x)
    (deletes : map op_of mid ≡ map op_of os ++ map deletion_entry (between last x.0 ds)) (low : last < x.0 → last_op mid < x.0) where
  front : drop i es ≡ x ∷ drop (i + 1) es
  front = from_place es i x lt is

  bounds : (last < x.0) × (x.0 < next)
  bounds = t.within x.0 (subst (λ (xs : List (ℕ × Op)). Has (numbers_of xs) x.0) (sym front) (inl refl))

  -- the op itself
  pub may_tell : (o : RecordOp) → next ≤ 2 ^ 62 → op_of o ≡ told x → IsWork o.work → IsOp (last_op mid) o
  may_tell o most o_is work =
      let number : o.op ≡ x.0 = ap (λ (e : ℕ × RecordWork). e.0) o_is in
      let under : last_op mid < x.0 = low bounds.0 in
      let below : x.0 < next = bounds.1 in
      record { above = omega (arith, number, under); most = omega (arith, number, below, most); work = work }

  pub tell_op : (o : RecordOp) (new : List RecordOp) → op_of o ≡ told x → new ≡ mid ++ o ∷ [] → AreTold es ds next (i + 1) x.0 new
  tell_op o new o_is new_is =
      let number : o.op ≡ x.0 = ap (λ (e : ℕ × RecordWork). e.0) o_is in
      let last_is : last_op new ≡ x.0 = ap last_op new_is ∙ last_pushed 0 mid o ∙ number in
      let rises : Rise (numbers_of (x ∷ drop (i + 1) es)) = subst (λ (xs : List (ℕ × Op)). Rise (numbers_of xs)) front t.rises in
      let tail : List (ℕ × RecordWork) = merged x.0 (drop (i + 1) es) ds next in
      let piece : List (ℕ × RecordWork) = map deletion_entry (between last x.0 ds) in
      let new_told : map op_of new ≡ (map op_of os ++ piece) ++ told x ∷ [] = ap (map op_of) new_is ∙ map-append op_of mid (o ∷ []) ∙ (λ j. deletes j ++ o_is j ∷ []) in
      record {
        rest = ap (λ (xs : List (ℕ × RecordWork)). xs ++ tail) new_told ∙ append_assoc (map op_of os ++ piece) (told x ∷ []) tail ∙ append_assoc (map op_of os) piece (told x ∷ tail)
            ∙ ap (λ (xs : List (ℕ × Op)). map op_of os ++ merged last xs ds next) (sym front) ∙ t.rest;
        above = omega (arith, last_is);
        within = λ n m. (rises.0 n m, (t.within n (subst (λ (xs : List (ℕ × Op)). Has (numbers_of xs) n) (sym front) (inr m))).1);
        rises = rises.1;
      }

-- at the end
pub all_are : (es : List (ℕ × Op)) (ds : List (ℕ × Deletion)) (next i last : ℕ) (os new : List RecordOp) → AreTold es ds next i last os → length es ≤ i → map op_of new ≡ map op_of os ++ map deletion_entry (between last next ds)
    → map op_of new ≡ merged 0 es ds next
all_are es ds next i last os new t past new_is = new_is ∙ ap (λ (xs : List (ℕ × Op)). map op_of os ++ merged last xs ds next) (sym (drop_all i es past)) ∙ t.rest
