-- The generations of an index, with those of some results.
use Rattle.std.proofs.Common.{◌≡◌, ◌≢◌, ℕ, zero, suc, pred, ◌+◌, ◌-◌, ◌<◌, true, false, ◌&&◌, ◌==◌, List, [], ◌∷◌, ◌++◌, length, set, replicate, Option, Some, None, refl, sym, ap, ◌∙◌, subst, arith, inl, inr}
use Rattle.std.proofs.lemmas.Bool.{cases_Bool, eqb-true, eq-eqb, true≢false, and_parts, false_from_ne_true}
use Rattle.esr_model.specs.Values.{ShardResult}
use Rattle.esr_model.specs.Image.{at_shard}
use Rattle.esr_model.specs.Finalize.{larger, done_at, merged}
use Rattle.esr_core.specs.Laws.NewRoots.{larger_none}
use Rattle.esr_newroot.proofs.Choices.{chosen, passed}

-- ---- a result more

pub done_there : (r : ShardResult) (rs : List ShardResult) (id k : ℕ) → r.index ≡ id → r.shard ≡ k → done_at (r ∷ rs) id k ≡ Some r.generation
done_there r rs id k index shard = chosen (Some r.generation) (done_at rs id k) (rw (eq-eqb r.index id index) (eq-eqb r.shard k shard))

pub done_elsewhere : (r : ShardResult) (rs : List ShardResult) (id k : ℕ) → (r.index ≡ id → r.shard ≡ k → ⊥) → done_at (r ∷ rs) id k ≡ done_at rs id k
done_elsewhere r rs id k apart =
    passed (Some r.generation) (done_at rs id k)
    (false_from_ne_true ((r.index == id) && (r.shard == k)) (λ e. let h = and_parts (r.index == id) (r.shard == k) e in apart (eqb-true r.index id h.0) (eqb-true r.shard k h.1)))

-- ---- the lists

pub length-merged : (rs : List ShardResult) (id k : ℕ) (gs : List (Option ℕ)) → length (merged rs id k gs 0) ≡ length gs
length-merged rs id k [] = refl
length-merged rs id k (g ∷ gs) = ap suc (length-merged rs id (suc k) gs)

pub merged-no_results : (id k : ℕ) (gs : List (Option ℕ)) → merged [] id k gs 0 ≡ gs
merged-no_results id k [] = refl
merged-no_results id k (g ∷ gs) = rw (larger_none g, merged-no_results id (suc k) gs) refl

-- a result of another index
pub merged-other : (r : ShardResult) (rs : List ShardResult) (id k : ℕ) (gs : List (Option ℕ)) → r.index ≢ id → merged (r ∷ rs) id k gs 0 ≡ merged rs id k gs 0
merged-other r rs id k [] other = refl
merged-other r rs id k (g ∷ gs) other = rw (done_elsewhere r rs id k (λ e s. other e), merged-other r rs id (suc k) gs other) refl

-- a result of a shard that has no other: it can come first
pub merged-then : (r : ShardResult) (rs : List ShardResult) (id k : ℕ) (gs : List (Option ℕ)) → r.index ≡ id → done_at rs id r.shard ≡ None
    → merged (r ∷ rs) id k gs 0 ≡ merged rs id k (merged (r ∷ []) id k gs 0) 0
merged-then r rs id k [] own only = refl
merged-then r rs id k (g ∷ gs) own only =
    ap (λ (h : Option ℕ). h ∷ merged (r ∷ rs) id (suc k) gs 0) here ∙ ap (λ (hs : List (Option ℕ)). larger (larger g (done_at (r ∷ []) id k)) (done_at rs id k) ∷ hs) (merged-then r rs id (suc k) gs own only)
  where
    here : larger g (done_at (r ∷ rs) id k) ≡ larger (larger g (done_at (r ∷ []) id k)) (done_at rs id k)
    here = elim (cases_Bool (r.shard == k)) [
      | inl same ↦
          let shard : r.shard ≡ k = eqb-true r.shard k same in
          let none : done_at rs id k ≡ None = subst (λ (j : ℕ). done_at rs id j ≡ None) shard only in
          ap (larger g) (done_there r rs id k own shard) ∙ sym (ap (λ (d : Option ℕ). larger (larger g (done_at (r ∷ []) id k)) d) none ∙ larger_none (larger g (done_at (r ∷ []) id k)) ∙ ap (larger g) (done_there r [] id k own shard))
      | inr differs ↦
          let apart : r.index ≡ id → r.shard ≡ k → ⊥ = (λ i s. true≢false (sym (eq-eqb r.shard k s) ∙ differs)) in
          ap (larger g) (done_elsewhere r rs id k apart) ∙ sym (ap (λ (d : Option ℕ). larger d (done_at rs id k)) (ap (larger g) (done_elsewhere r [] id k apart) ∙ larger_none g))
    ]

-- ---- one result

past : (r : ShardResult) (id k : ℕ) (gs : List (Option ℕ)) → r.shard < k → merged (r ∷ []) id k gs 0 ≡ gs
past r id k [] low = refl
past r id k (g ∷ gs) low =
    let apart : r.index ≡ id → r.shard ≡ k → ⊥ = (λ i s. omega arith) in
    rw (done_elsewhere r [] id k apart, larger_none g, past r id (suc k) gs (omega arith)) refl

merged_from : (r : ShardResult) (id k m : ℕ) (gs : List (Option ℕ)) → r.index ≡ id → r.shard ≡ k + m → m < length gs → merged (r ∷ []) id k gs 0 ≡ set gs m (larger (at_shard gs m) (Some r.generation))
merged_from r id k m [] own at low = absurd (omega arith)
merged_from r id k zero (g ∷ gs) own at low =
    let shard : r.shard ≡ k = omega arith in
    rw (done_there r [] id k own shard, past r id (suc k) gs (omega arith)) refl
merged_from r id k (suc m) (g ∷ gs) own at low =
    let apart : r.index ≡ id → r.shard ≡ k → ⊥ = (λ i s. omega arith) in
    rw (done_elsewhere r [] id k apart, larger_none g) (ap (λ (hs : List (Option ℕ)). g ∷ hs) (merged_from r id (suc k) m gs own (omega arith) (omega arith)))

pub merged-one : (r : ShardResult) (gs : List (Option ℕ)) → r.shard < length gs → merged (r ∷ []) r.index 0 gs 0 ≡ set gs r.shard (larger (at_shard gs r.shard) (Some r.generation))
merged-one r gs low = merged_from r r.index 0 r.shard gs refl (omega arith) low

-- ---- places for each of so many shards

pub merged-missing : (rs : List ShardResult) (id k n : ℕ) → merged rs id k (replicate n None) 0 ≡ merged rs id k [] n
merged-missing rs id k zero = refl
merged-missing rs id k (suc n) = ap (λ (gs : List (Option ℕ)). done_at rs id k ∷ gs) (merged-missing rs id (suc k) n)

less_one : (n m : ℕ) → n - suc m ≡ pred n - m
less_one zero m = omega arith
less_one (suc n) m = omega arith

pub merged-padded : (rs : List ShardResult) (id k n : ℕ) (gs : List (Option ℕ)) → merged rs id k (gs ++ replicate (n - length gs) None) 0 ≡ merged rs id k gs n
merged-padded rs id k n [] = ap (λ (c : ℕ). merged rs id k (replicate c None) 0) (omega arith) ∙ merged-missing rs id k n
merged-padded rs id k n (g ∷ gs) =
    ap (λ (c : ℕ). larger g (done_at rs id k) ∷ merged rs id (suc k) (gs ++ replicate c None) 0) (less_one n (length gs))
    ∙ ap (λ (hs : List (Option ℕ)). larger g (done_at rs id k) ∷ hs) (merged-padded rs id (suc k) (pred n) gs)
