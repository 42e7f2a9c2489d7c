-- Which shards a delete or cleanup prunes, by what was read of them: each that is told is one, and each that is one is told.
use Rattle.std.proofs.Common.{◌≡◌, ℕ, zero, suc, ◌+◌, Bool, true, false, List, [], ◌∷◌, Option, Some, None, sym, ap, ◌∙◌, subst, inl, inr, arith}
use Rattle.std.specs.List.{list_any}
use Rattle.std.proofs.lemmas.Option.{same_Some, none-some}
use Rattle.std.proofs.lemmas.Bool.{cond-true, cond-false, cases_Bool}
use Rattle.esr_model.specs.Names.{BlobName}
use Rattle.esr_model.specs.Values.{Bytes, Has, ShardFiles, RootIndex, Formats}
use Rattle.esr_model.specs.Image.{at_shard}
use Rattle.esr_model.specs.Delete.{PrunedShard, left_uuids, files_read}
use Rattle.esr_core.specs.Pruning.{is_left, is_victim, has_none, is_touched, pruned_by, bare_shard, pruned_of_index, pruned_of_indices}

module _ (f : Formats) (read : List (BlobName × Bytes)) (clean : Bool) (uuids listed : List ℕ) where
  -- ---- and each that is one

  later_by : (leaves : Bool) (index number base : ℕ) (o : Option ShardFiles) (rest : List PrunedShard) (q : PrunedShard) → Has rest q → Has (pruned_by clean uuids listed leaves index number base o rest) q
  later_by leaves index number base None rest q m = m
  later_by true index number base (Some was) rest q m = inr m
  later_by false index number base (Some was) rest q m = elim (cases_Bool (list_any (is_victim clean uuids listed) was.snapshots)) [
    | inl victim ↦ subst (λ (l : List PrunedShard). Has l q) (sym (cond-true _ _ _ victim)) (inr m)
    | inr none ↦ subst (λ (l : List PrunedShard). Has l q) (sym (cond-false _ _ _ none)) m
  ]

  pub later_of_index : (leaves : Bool) (index number : ℕ) (gs : List (Option ℕ)) (rest : List PrunedShard) (q : PrunedShard) → Has rest q → Has (pruned_of_index f read clean uuids listed leaves index number gs rest) q
  later_of_index leaves index number [] rest q m = m
  later_of_index leaves index number (None ∷ gs) rest q m = later_of_index leaves index (suc number) gs rest q m
  later_of_index leaves index number (Some g ∷ gs) rest q m =
      later_by leaves index number g (files_read f read (bare_shard index number g)) (pruned_of_index f read clean uuids listed leaves index (suc number) gs rest) q (later_of_index leaves index (suc number) gs rest q m)

  first_by : (index number base : ℕ) (o : Option ShardFiles) (was : ShardFiles) (rest : List PrunedShard) → o ≡ Some was → list_any (is_victim clean uuids listed) was.snapshots ≡ true
      → Has (pruned_by clean uuids listed false index number base o rest) (record { index = index; number = number; base = base; kept = list_any (is_left (left_uuids uuids listed)) was.snapshots })
  first_by index number base None was rest e victim = absurd (none-some was e)
  first_by index number base (Some held) was rest e victim =
      let same : held ≡ was = same_Some held was e in
      let mine : list_any (is_victim clean uuids listed) held.snapshots ≡ true = ap (λ (x : ShardFiles). list_any (is_victim clean uuids listed) x.snapshots) same ∙ victim in
      subst (λ (l : List PrunedShard). Has l (record { index = index; number = number; base = base; kept = list_any (is_left (left_uuids uuids listed)) was.snapshots })) (sym (cond-true _ _ _ mine))
      (inl (λ j. record { index = index; number = number; base = base; kept = list_any (is_left (left_uuids uuids listed)) (same j).snapshots }))

  -- a shard of an index that stays, in which a victim is listed
  pub has_of_index : (index number place base : ℕ) (gs : List (Option ℕ)) (was : ShardFiles) (rest : List PrunedShard) → at_shard gs place ≡ Some base → files_read f read (bare_shard index (number + place) base) ≡ Some was
      → list_any (is_victim clean uuids listed) was.snapshots ≡ true
      → Has (pruned_of_index f read clean uuids listed false index number gs rest) (record { index = index; number = number + place; base = base; kept = list_any (is_left (left_uuids uuids listed)) was.snapshots })
  has_of_index index number place base [] was rest at reads victim = absurd (none-some base at)
  has_of_index index number zero base (None ∷ gs) was rest at reads victim = absurd (none-some base at)
  has_of_index index number zero base (Some g ∷ gs) was rest at reads victim =
      let same : g ≡ base = same_Some g base at in
      let n : number ≡ number + 0 = omega arith in
      let here : files_read f read (bare_shard index number g) ≡ Some was = (λ j. files_read f read (bare_shard index (n j) (same j))) ∙ reads in
      subst (λ (x : ℕ × ℕ). Has (pruned_of_index f read clean uuids listed false index number (Some g ∷ gs) rest) (record { index = index; number = x.0; base = x.1; kept = list_any (is_left (left_uuids uuids listed)) was.snapshots }))
      (λ j. (n j, same j))
      (first_by index number g (files_read f read (bare_shard index number g)) was (pruned_of_index f read clean uuids listed false index (suc number) gs rest) here victim)
  has_of_index index number (suc place) base (None ∷ gs) was rest at reads victim =
      let n : suc number + place ≡ number + suc place = omega arith in
      subst (λ (x : ℕ). Has (pruned_of_index f read clean uuids listed false index (suc number) gs rest) (record { index = index; number = x; base = base; kept = list_any (is_left (left_uuids uuids listed)) was.snapshots })) n
      (has_of_index index (suc number) place base gs was rest at (ap (λ (x : ℕ). files_read f read (bare_shard index x base)) n ∙ reads) victim)
  has_of_index index number (suc place) base (Some g ∷ gs) was rest at reads victim =
      let n : suc number + place ≡ number + suc place = omega arith in
      let q : PrunedShard = record { index = index; number = suc number + place; base = base; kept = list_any (is_left (left_uuids uuids listed)) was.snapshots } in
      subst (λ (x : ℕ). Has (pruned_of_index f read clean uuids listed false index number (Some g ∷ gs) rest) (record { index = index; number = x; base = base; kept = list_any (is_left (left_uuids uuids listed)) was.snapshots })) n
      (later_by false index number g (files_read f read (bare_shard index number g)) (pruned_of_index f read clean uuids listed false index (suc number) gs rest) q
      (has_of_index index (suc number) place base gs was rest at (ap (λ (x : ℕ). files_read f read (bare_shard index x base)) n ∙ reads) victim))

  -- ---- of all indices

  pub has_of_indices : (xs : List RootIndex) (x : RootIndex) → Has xs x → is_touched clean uuids x.snapshots ≡ true → has_none (left_uuids uuids x.snapshots) ≡ false → (place base : ℕ) (was : ShardFiles)
      → at_shard x.generations place ≡ Some base → files_read f read (bare_shard x.id place base) ≡ Some was → list_any (is_victim clean uuids listed) was.snapshots ≡ true
      → Has (pruned_of_indices f read clean uuids listed xs) (record { index = x.id; number = place; base = base; kept = list_any (is_left (left_uuids uuids listed)) was.snapshots })
  has_of_indices [] x m named stays place base was at reads victim = absurd m
  has_of_indices (z ∷ xs) x (inl same) named stays place base was at reads victim =
      let q : ℕ → PrunedShard = λ (id : ℕ). record { index = id; number = place; base = base; kept = list_any (is_left (left_uuids uuids listed)) was.snapshots } in
      let mine : is_touched clean uuids z.snapshots ≡ true = ap (λ (y : RootIndex). is_touched clean uuids y.snapshots) same ∙ named in
      let goes_on : has_none (left_uuids uuids z.snapshots) ≡ false = ap (λ (y : RootIndex). has_none (left_uuids uuids y.snapshots)) same ∙ stays in
      let n : 0 + place ≡ place = omega arith in
      let here : Has (pruned_of_index f read clean uuids listed false z.id 0 z.generations (pruned_of_indices f read clean uuids listed xs)) (q z.id) =
      subst
      (λ (k : ℕ). Has (pruned_of_index f read clean uuids listed false z.id 0 z.generations (pruned_of_indices f read clean uuids listed xs))
      (record { index = z.id; number = k; base = base; kept = list_any (is_left (left_uuids uuids listed)) was.snapshots }))
      n
      (has_of_index z.id 0 place base z.generations was (pruned_of_indices f read clean uuids listed xs) (ap (λ (y : RootIndex). at_shard y.generations place) same ∙ at)
      ((λ j. files_read f read (bare_shard (same j).id (n j) base)) ∙ reads) victim) in
      subst (λ (l : List PrunedShard). Has l (q x.id)) (sym (cond-true _ _ _ mine))
      (subst (λ (y : RootIndex). Has (pruned_of_index f read clean uuids listed (has_none (left_uuids uuids z.snapshots)) z.id 0 z.generations (pruned_of_indices f read clean uuids listed xs)) (q y.id)) same
      (subst (λ (b : Bool). Has (pruned_of_index f read clean uuids listed b z.id 0 z.generations (pruned_of_indices f read clean uuids listed xs)) (q z.id)) (sym goes_on) here))
  has_of_indices (z ∷ xs) x (inr m) named stays place base was at reads victim =
      let q : PrunedShard = record { index = x.id; number = place; base = base; kept = list_any (is_left (left_uuids uuids listed)) was.snapshots } in
      let rest = has_of_indices xs x m named stays place base was at reads victim in
      elim (cases_Bool (is_touched clean uuids z.snapshots)) [
        | inl here ↦ subst (λ (l : List PrunedShard). Has l q) (sym (cond-true _ _ _ here)) (later_of_index (has_none (left_uuids uuids z.snapshots)) z.id 0 z.generations (pruned_of_indices f read clean uuids listed xs) q rest)
        | inr other ↦ subst (λ (l : List PrunedShard). Has l q) (sym (cond-false _ _ _ other)) rest
      ]
