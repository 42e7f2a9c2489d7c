-- Which shards a delete or cleanup prunes, by what was read of them.
use Rattle.std.proofs.Common.{◌≡◌, ◌⊎◌, ℕ, suc, ◌+◌, Bool, true, false, List, [], ◌∷◌, Option, Some, None, refl, sym, ap, ◌∙◌, subst, inl, inr, arith}
use Rattle.std.specs.List.{list_any}
use Rattle.std.proofs.lemmas.Bool.{cond-true, cond-false, cases_Bool}
use Rattle.esr_model.specs.Names.{BlobName}
use Rattle.esr_model.specs.Values.{Bytes, Has, ShardFiles, RootIndex, Formats}
use Rattle.esr_model.specs.Image.{at_shard}
use Rattle.esr_model.specs.Delete.{PrunedShard, left_uuids, files_read}
use Rattle.esr_core.specs.Pruning.{is_left, is_victim, has_none, is_touched, pruned_by, bare_shard, pruned_of_index, pruned_of_indices}

-- it is pruned where its index leaves, and nothing of it is left, or where a victim is listed, and something where a left one is
abbrev pub IsPrunedAs : Bool → List ℕ → List ℕ → Bool → ShardFiles → Bool → Type 0
IsPrunedAs clean uuids listed leaves was kept =
    ((leaves ≡ true) × (kept ≡ false))
    ⊎ ((leaves ≡ false) × (list_any (is_victim clean uuids listed) was.snapshots ≡ true) × (kept ≡ list_any (is_left (left_uuids uuids listed)) was.snapshots))

-- ---- of one index

module _ (f : Formats) (read : List (BlobName × Bytes)) (clean : Bool) (uuids listed : List ℕ) where
  -- it stands so many places from the first
  pub record IsOfIndex (leaves : Bool) (index number : ℕ) (gs : List (Option ℕ)) (q : PrunedShard) : Type 0 where
    pub place : ℕ
    pub index_is : q.index ≡ index
    pub number_is : q.number ≡ number + place
    pub at : at_shard gs place ≡ Some q.base
    pub was : ShardFiles
    pub reads : files_read f read (bare_shard index (number + place) q.base) ≡ Some was
    pub pruned : IsPrunedAs clean uuids listed leaves was q.kept

  -- the first of them, where it is pruned
  at_first : (leaves : Bool) (index number base : ℕ) (gs : List (Option ℕ)) (was : ShardFiles) (kept : Bool) (q : PrunedShard) → files_read f read (bare_shard index (number + 0) base) ≡ Some was
      → ◌≡◌ {A = PrunedShard} (record { index = index; number = number; base = base; kept = kept }) q → IsPrunedAs clean uuids listed leaves was kept → IsOfIndex leaves index number (Some base ∷ gs) q
  at_first leaves index number base gs was kept q e same pruned = record {
    place = 0;
    index_is = sym (ap (λ (p : PrunedShard). p.index) same);
    number_is = sym (ap (λ (p : PrunedShard). p.number) same) ∙ omega arith;
    at = ap (λ (p : PrunedShard). Some p.base) same;
    was = was;
    reads = ap (λ (b : ℕ). files_read f read (bare_shard index (number + 0) b)) (sym (ap (λ (p : PrunedShard). p.base) same)) ∙ e;
    pruned = subst (IsPrunedAs clean uuids listed leaves was) (ap (λ (p : PrunedShard). p.kept) same) pruned;
  }

  by_one : (leaves : Bool) (index number base : ℕ) (gs : List (Option ℕ)) (o : Option ShardFiles) (rest : List PrunedShard) (q : PrunedShard) → files_read f read (bare_shard index (number + 0) base) ≡ o
      → Has (pruned_by clean uuids listed leaves index number base o rest) q → IsOfIndex leaves index number (Some base ∷ gs) q ⊎ Has rest q
  by_one leaves index number base gs None rest q e m = inr m
  by_one true index number base gs (Some was) rest q e (inl same) = inl (at_first true index number base gs was false q e same (inl (refl, refl)))
  by_one true index number base gs (Some was) rest q e (inr m) = inr m
  by_one false index number base gs (Some was) rest q e m = elim (cases_Bool (list_any (is_victim clean uuids listed) was.snapshots)) [
    | inl victim ↦ elim (subst (λ (l : List PrunedShard). Has l q) (cond-true _ _ _ victim) m) [
      | inl same ↦ inl (at_first false index number base gs was (list_any (is_left (left_uuids uuids listed)) was.snapshots) q e same (inr (refl, victim, refl)))
      | inr later ↦ inr later
    ]
    | inr none ↦ inr (subst (λ (l : List PrunedShard). Has l q) (cond-false _ _ _ none) m)
  ]

  one_on : (leaves : Bool) (index number : ℕ) (g : Option ℕ) (gs : List (Option ℕ)) (q : PrunedShard) → IsOfIndex leaves index (suc number) gs q → IsOfIndex leaves index number (g ∷ gs) q
  one_on leaves index number g gs q h = record {
    place = suc h.place;
    index_is = h.index_is;
    number_is = h.number_is ∙ omega arith;
    at = h.at;
    was = h.was;
    reads = ap (λ (n : ℕ). files_read f read (bare_shard index n q.base)) (shifted number h.place) ∙ h.reads;
    pruned = h.pruned;
  }
    where
      shifted : (a b : ℕ) → a + suc b ≡ suc a + b
      shifted a b = omega arith

  pub of_index : (leaves : Bool) (index number : ℕ) (gs : List (Option ℕ)) (rest : List PrunedShard) (q : PrunedShard) → Has (pruned_of_index f read clean uuids listed leaves index number gs rest) q
      → IsOfIndex leaves index number gs q ⊎ Has rest q
  of_index leaves index number [] rest q m = inr m
  of_index leaves index number (None ∷ gs) rest q m = elim (of_index leaves index (suc number) gs rest q m) [ inl h ↦ inl (one_on leaves index number None gs q h) | inr later ↦ inr later ]
  of_index leaves index number (Some g ∷ gs) rest q m =
      let same : files_read f read (bare_shard index (number + 0) g) ≡ files_read f read (bare_shard index number g) = ap (λ (n : ℕ). files_read f read (bare_shard index n g)) (no_more number) in
      elim (by_one leaves index number g gs (files_read f read (bare_shard index number g)) (pruned_of_index f read clean uuids listed leaves index (suc number) gs rest) q same m) [
        | inl h ↦ inl h
        | inr more ↦ elim (of_index leaves index (suc number) gs rest q more) [ inl h ↦ inl (one_on leaves index number (Some g) gs q h) | inr later ↦ inr later ]
      ]
    where
      no_more : (n : ℕ) → n + 0 ≡ n
      no_more n = omega arith

  pub record IsOfRoot (xs : List RootIndex) (q : PrunedShard) : Type 0 where
    pub x : RootIndex
    pub there : Has xs x
    pub victim : is_touched clean uuids x.snapshots ≡ true
    pub is : IsOfIndex (has_none (left_uuids uuids x.snapshots)) x.id 0 x.generations q

  pub of_indices : (xs : List RootIndex) (q : PrunedShard) → Has (pruned_of_indices f read clean uuids listed xs) q → IsOfRoot xs q
  of_indices [] q m = absurd m
  of_indices (x ∷ xs) q m = elim (cases_Bool (is_touched clean uuids x.snapshots)) [
    | inl named ↦ elim (of_index (has_none (left_uuids uuids x.snapshots)) x.id 0 x.generations (pruned_of_indices f read clean uuids listed xs) q (subst (λ (l : List PrunedShard). Has l q) (cond-true _ _ _ named) m)) [
      | inl h ↦ record { x = x; there = inl refl; victim = named; is = h }
      | inr later ↦ let r = of_indices xs q later in record { x = r.x; there = inr r.there; victim = r.victim; is = r.is }
    ]
    | inr other ↦ let r = of_indices xs q (subst (λ (l : List PrunedShard). Has l q) (cond-false _ _ _ other) m) in record { x = r.x; there = inr r.there; victim = r.victim; is = r.is }
  ]
