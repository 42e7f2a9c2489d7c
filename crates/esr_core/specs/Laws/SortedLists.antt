-- Lists put in order, and what they have.
use Rattle.std.proofs.Common.{◌≡◌, ◌⊎◌, ℕ, zero, suc, ◌+◌, ◌<◌, Bool, List, [], ◌∷◌, map, sym, ap, subst, inl, inr, arith}
use Rattle.std.proofs.lemmas.Bool.{cases_Bool, cond-true, cond-false}
use Rattle.esr_model.specs.Values.{Has, IndexRef}
use Rattle.esr_model.specs.Places.{numbered, places, comes_first, put_by, sorted_by, shelf_places}
use Rattle.esr_core.specs.World.{Op, ShardWork}
use Rattle.esr_model.specs.Lists.{Has-either, Has-map}

pub Has-put_by : {A : Type 0} (first : A → A → Bool) (x y : A) (xs : List A) → Has (put_by first x xs) y → (x ≡ y) ⊎ Has xs y
Has-put_by first x y [] (inl e) = inl e
Has-put_by first x y [] (inr h) = absurd h
Has-put_by first x y (z ∷ zs) h = elim (cases_Bool (first x z)) [
  | inl t ↦ let g : Has (x ∷ z ∷ zs) y = subst (λ l. Has l y) (cond-true _ _ _ t) h in g
  | inr t ↦
      let g : Has (z ∷ put_by first x zs) y = subst (λ l. Has l y) (cond-false _ _ _ t) h in
      elim g [ inl e ↦ inr (inl e) | inr m ↦ elim (Has-put_by first x y zs m) [ inl e ↦ inl e | inr n ↦ inr (inr n) ] ]
]

pub put_by-Has : {A : Type 0} (first : A → A → Bool) (x y : A) (xs : List A) → (x ≡ y) ⊎ Has xs y → Has (put_by first x xs) y
put_by-Has first x y [] (inl e) = inl e
put_by-Has first x y [] (inr h) = absurd h
put_by-Has first x y (z ∷ zs) h = elim (cases_Bool (first x z)) [
  | inl t ↦ subst (λ l. Has l y) (sym (cond-true _ _ _ t)) h
  | inr t ↦ subst (λ l. Has l y) (sym (cond-false _ _ _ t)) (later h (put_by-Has first x y zs))
]
  where
    later : (x ≡ y) ⊎ Has (z ∷ zs) y → ((x ≡ y) ⊎ Has zs y → Has (put_by first x zs) y) → Has (z ∷ put_by first x zs) y
    later (inl e) rest = inr (rest (inl e))
    later (inr (inl e)) rest = inl e
    later (inr (inr m)) rest = inr (rest (inr m))

-- an ordered list has what the list has
pub Has-sorted : {A : Type 0} (first : A → A → Bool) (xs : List A) (y : A) → Has (sorted_by first xs) y → Has xs y
Has-sorted first [] y h = h
Has-sorted first (x ∷ xs) y h = elim (Has-put_by first x y (sorted_by first xs) h) [ inl e ↦ inl e | inr m ↦ inr (Has-sorted first xs y m) ]

pub sorted-Has : {A : Type 0} (first : A → A → Bool) (xs : List A) (y : A) → Has xs y → Has (sorted_by first xs) y
sorted-Has first [] y h = h
sorted-Has first (x ∷ xs) y (inl e) = put_by-Has first x y (sorted_by first xs) (inl e)
sorted-Has first (x ∷ xs) y (inr m) = put_by-Has first x y (sorted_by first xs) (inr (sorted-Has first xs y m))

in_numbered : (r : IndexRef) (k n : ℕ) (place : IndexRef × ℕ) → Has (numbered r k n) place → (place.0 ≡ r) × (place.1 < k + n)
in_numbered r k zero place h = absurd h
in_numbered r k (suc n) place (inl e) =
    let same : k ≡ place.1 = ap (λ (p : IndexRef × ℕ). p.1) e in
    (ap (λ (p : IndexRef × ℕ). p.0) (sym e), omega (arith, same))
in_numbered r k (suc n) place (inr m) = let h = in_numbered r (suc k) n place m in let below : place.1 < suc k + n = h.1 in (h.0, omega (arith, below))

-- a place is a shard of one of the indices
pub in_places : (refs : List IndexRef) (place : IndexRef × ℕ) → Has (places refs) place → Has refs place.0 × (place.1 < place.0.shards)
in_places [] place h = absurd h
in_places (r ∷ refs) place h = elim (Has-either (numbered r 0 r.shards) (places refs) place h) [
  | inl m ↦
      let x = in_numbered r 0 r.shards place m in
      let below : place.1 < 0 + r.shards = x.1 in
      let plain : place.1 < r.shards = omega (arith, below) in
      (inl (sym x.0), subst (λ (q : IndexRef). place.1 < q.shards) (sym x.0) plain)
  | inr m ↦ let x = in_places refs place m in (inr x.0, x.1)
]

pub to_shelf_places : (refs : List IndexRef) (place : IndexRef × ℕ) → Has (places refs) place → Has (shelf_places refs) place
to_shelf_places refs place h = sorted-Has comes_first (places refs) place h

-- a shard of an op is of one of its indices
pub shard_ref : (op : Op) (s : ShardWork) → Has op.shards s → map (λ (z : ShardWork). (z.ref, z.number)) op.shards ≡ places op.indices → Has op.indices s.ref
shard_ref op s m same = (in_places op.indices (s.ref, s.number) (subst (λ list. Has list (s.ref, s.number)) same (Has-map (λ (z : ShardWork). (z.ref, z.number)) op.shards s m))).0
