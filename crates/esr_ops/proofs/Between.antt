-- The deletes whose numbers lie between two others, appended to the ops of a record.
use Rattle.std.proofs.Common.{◌≡◌, ℕ, zero, suc, ◌+◌, ◌<◌, ◌≤◌, ◌^◌, Bool, true, false, List, [], ◌∷◌, ◌++◌, map, length, get_or, take, drop, refl, sym, ap, ◌∙◌, subst, inl, inr, arith}
use Rattle.std.proofs.lemmas.List.{append-nil, append_assoc, map-append, take_more}
use Rattle.std.proofs.lemmas.List.Elements.{filter-append}
use Rattle.esr_model.specs.Values.{Has, RecordWork}
use Rattle.esr_record.specs.declared.op.RecordOp.{RecordOp}
use Rattle.esr_record.specs.Op.{IsWork, IsOp, last_op}
use Rattle.esr_core.specs.World.{Deletion}
use Rattle.esr_formats.specs.Clusters.{op_of}
use Rattle.esr_ops.specs.Deletes.{deletion_entry, lies_between, between}
use Rattle.esr_ops.specs.Inside.{numbers_of, Rise}
use Rattle.esr_ops.specs.Between.{from_place, lies_after, lies_before, last_pushed, between_kept, between_left}

to_place : {A : Type 0} (xs : List A) (i : ℕ) (x : A) → i < length xs → x ≡ get_or xs i x → take (i + 1) xs ≡ take i xs ++ x ∷ []
to_place {A} xs i x lt is = take_more xs i x lt ∙ ap (λ (z : A). take i xs ++ z ∷ []) (sym is)

-- the numbers from a place on rise
rise_from : (ds : List (ℕ × Deletion)) (i : ℕ) → Rise (numbers_of ds) → Rise (numbers_of (drop i ds))
rise_from ds zero r = r
rise_from [] (suc i) r = tt
rise_from (d ∷ ds) (suc i) r = rise_from ds i r.1

-- so many of the deletes were looked at
pub record ArePushed (os : List RecordOp) (ds : List (ℕ × Deletion)) (after before i : ℕ) (now : List RecordOp) : Type 0 where
  pub told : map op_of now ≡ map op_of os ++ map deletion_entry (between after before (take i ds))
  pub next : (n : ℕ) → Has (numbers_of (drop i ds)) n → after < n → last_op now < n
  pub low : after < before → last_op now < before

pub none_pushed : (os : List RecordOp) (ds : List (ℕ × Deletion)) (after before : ℕ) → last_op os ≤ after → ArePushed os ds after before 0 os
none_pushed os ds after before le = record {
  told = sym (append-nil (map op_of os));
  next = λ n m lt. omega (arith, le, lt);
  low = λ lt. omega (arith, le, lt);
}

module _ (os : List RecordOp) (ds : List (ℕ × Deletion)) (after before i : ℕ) (now : List RecordOp) (p : ArePushed os ds after before i now) (x : ℕ × Deletion) (lt : i < length ds) (is : x ≡ get_or ds i x) where
  here : drop i ds ≡ x ∷ drop (i + 1) ds
  here = from_place ds i x lt is

  later : (n : ℕ) → Has (numbers_of (drop (i + 1) ds)) n → Has (numbers_of (drop i ds)) n
  later n m = subst (λ (xs : List (ℕ × Deletion)). Has (numbers_of xs) n) (sym here) (inr m)

  own : Has (numbers_of (drop i ds)) x.0
  own = subst (λ (xs : List (ℕ × Deletion)). Has (numbers_of xs) x.0) (sym here) (inl refl)

  test : ℕ × Deletion → Bool
  test e = lies_between after before e.0

  split : between after before (take (i + 1) ds) ≡ between after before (take i ds) ++ between after before (x ∷ [])
  unfolding test
  split = ap (between after before) (to_place ds i x lt is) ∙ filter-append test (take i ds) (x ∷ [])

  -- the next one can be told
  pub may_push : (o : RecordOp) → lies_between after before x.0 ≡ true → before ≤ 2 ^ 62 → op_of o ≡ deletion_entry x → IsWork o.work → IsOp (last_op now) o
  may_push o lies most o_is work =
      let number : o.op ≡ x.0 = ap (λ (e : ℕ × RecordWork). e.0) o_is in
      let above : last_op now < x.0 = p.next x.0 own (lies_after after before x.0 lies) in
      let under : x.0 < before = lies_before after before x.0 lies in
      record { above = omega (arith, number, above); most = omega (arith, number, under, most); work = work }

  -- and is told
  pub pushed : (o : RecordOp) (new : List RecordOp) → lies_between after before x.0 ≡ true → op_of o ≡ deletion_entry x → new ≡ now ++ o ∷ [] → Rise (numbers_of ds) → ArePushed os ds after before (i + 1) new
  unfolding test
  pushed o new lies o_is new_is rise =
      let number : o.op ≡ x.0 = ap (λ (e : ℕ × RecordWork). e.0) o_is in
      let last : last_op new ≡ x.0 = ap last_op new_is ∙ last_pushed 0 now o ∙ number in
      let under : x.0 < before = lies_before after before x.0 lies in
      let rises : Rise (numbers_of (x ∷ drop (i + 1) ds)) = subst (λ (xs : List (ℕ × Deletion)). Rise (numbers_of xs)) here (rise_from ds i rise) in
      let one : between after before (x ∷ []) ≡ x ∷ [] = between_kept after before x [] lies in
      let front : List (ℕ × RecordWork) = map deletion_entry (between after before (take i ds)) in
      record {
        told = ap (map op_of) new_is ∙ map-append op_of now (o ∷ []) ∙ (λ j. p.told j ++ o_is j ∷ [])
            ∙ append_assoc (map op_of os) front (deletion_entry x ∷ [])
            ∙ ap (λ (xs : List (ℕ × RecordWork)). map op_of os ++ xs)
            (ap (λ (xs : List (ℕ × Deletion)). front ++ map deletion_entry xs) (sym one) ∙ sym (map-append deletion_entry (between after before (take i ds)) (between after before (x ∷ []))) ∙ ap (map deletion_entry) (sym split));
        next = λ n m lt. let above : x.0 < n = rises.0 n m in omega (arith, last, above);
        low = λ lt. omega (arith, last, under);
      }

  -- one whose number lies elsewhere is passed over
  pub passed : lies_between after before x.0 ≡ false → ArePushed os ds after before (i + 1) now
  unfolding test
  passed lies =
      let none : between after before (x ∷ []) ≡ [] = between_left after before x [] lies in
      let same : between after before (take (i + 1) ds) ≡ between after before (take i ds) =
      split ∙ ap (λ (xs : List (ℕ × Deletion)). between after before (take i ds) ++ xs) none ∙ append-nil (between after before (take i ds)) in
      record {
        told = p.told ∙ ap (λ (xs : List (ℕ × Deletion)). map op_of os ++ map deletion_entry xs) (sym same);
        next = λ n m. p.next n (later n m);
        low = p.low;
      }
