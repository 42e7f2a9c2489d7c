-- The results of an op that is done, looked up by shard.
use Rattle.std.proofs.Common.{◌≡◌, ◌⊎◌, ℕ, List, [], ◌∷◌, Bool, true, false, true≢false, ◌&&◌, ◌==◌, Some, refl, sym, ap, ◌∙◌, subst, inl, inr}
use Rattle.std.proofs.lemmas.Bool.{eq-eqb, eqb-true, and_parts, cond-true, cond-false}
use Rattle.std.proofs.lemmas.Option.{same_Some}
use Rattle.esr_model.specs.Values.{ShardResult}
use Rattle.esr_model.specs.Image.{Has}
use Rattle.esr_model.specs.Finalize.{done_at}
use Rattle.esr_core.specs.World.{ShardWork, Done, AllDone}

-- each shard of an op that is done has its result
pub done_of : (shards : List ShardWork) (results : List ShardResult) → AllDone shards results → (s : ShardWork) → Has shards s → (r : ShardResult) × (s.state ≡ Done r) × Has results r
done_of [] results d s h = absurd h
done_of (x ∷ xs) [] d s h = absurd d
done_of (x ∷ xs) (r ∷ rs) d s (inl e) = (r, subst (λ (y : ShardWork). y.state ≡ Done r) e d.0, inl refl)
done_of (x ∷ xs) (r ∷ rs) d s (inr h) = let (q, state, there) = done_of xs rs d.1 s h in (q, state, inr there)

pub done_same : (a b : ShardResult) → Done a ≡ Done b → a ≡ b
done_same a b e = cc

-- the test of `done_at`
tested : (r : ShardResult) (index shard : ℕ)
    → ((r.index ≡ index) × (r.shard ≡ shard) × (((r.index == index) && (r.shard == shard)) ≡ true)) ⊎ ((((r.index == index) && (r.shard == shard)) ≡ false) × ((r.index ≡ index) → (r.shard ≡ shard) → ⊥))
tested r index shard = go ((r.index == index) && (r.shard == shard)) refl
  where
    go : (b : Bool) → ((r.index == index) && (r.shard == shard)) ≡ b
        → ((r.index ≡ index) × (r.shard ≡ shard) × (((r.index == index) && (r.shard == shard)) ≡ true)) ⊎ ((((r.index == index) && (r.shard == shard)) ≡ false) × ((r.index ≡ index) → (r.shard ≡ shard) → ⊥))
    go true e = let h = and_parts _ _ e in inl (eqb-true _ _ h.0, eqb-true _ _ h.1, e)
    go false e = inr (e, λ p q. true≢false (sym (ap (λ b. b && (r.shard == shard)) (eq-eqb _ _ p) ∙ eq-eqb _ _ q) ∙ e))

-- the generation that is found is that of a done shard
pub found_done : (shards : List ShardWork) (results : List ShardResult) → AllDone shards results
    → ((s : ShardWork) (r : ShardResult) → Has shards s → s.state ≡ Done r → (r.index ≡ s.ref.id) × (r.shard ≡ s.number))
    → (index shard g : ℕ) → done_at results index shard ≡ Some g
    → (s : ShardWork) × Has shards s × ((r : ShardResult) × (s.state ≡ Done r) × (s.ref.id ≡ index) × (s.number ≡ shard) × (r.generation ≡ g))
found_done [] [] d ids index shard g e = absurd (cc)
found_done (x ∷ xs) (r ∷ rs) d ids index shard g e = elim (tested r index shard) [
  | inl h ↦
      let same : r.generation ≡ g = same_Some _ _ (sym (cond-true _ _ _ h.2) ∙ e) in
      let i = ids x r (inl refl) d.0 in
      (x, inl refl, (r, d.0, sym i.0 ∙ h.0, sym i.1 ∙ h.1, same))
  | inr h ↦
      let rest = found_done xs rs d.1 (λ s q m. ids s q (inr m)) index shard g (sym (cond-false _ _ _ h.0) ∙ e) in
      (rest.0, inr rest.1, rest.2)
]
found_done shards results d ids index shard g e = absurd d

-- the generation of a done shard is found, where no two are of one place
pub done_found : (shards : List ShardWork) (results : List ShardResult) → AllDone shards results
    → ((s : ShardWork) (r : ShardResult) → Has shards s → s.state ≡ Done r → (r.index ≡ s.ref.id) × (r.shard ≡ s.number))
    → ((s z : ShardWork) → Has shards s → Has shards z → s.ref.id ≡ z.ref.id → s.number ≡ z.number → s ≡ z)
    → (s : ShardWork) (r : ShardResult) → Has shards s → s.state ≡ Done r → done_at results s.ref.id s.number ≡ Some r.generation
done_found [] results d ids one s r m state = absurd m
done_found (x ∷ xs) [] d ids one s r m state = absurd d
done_found (x ∷ xs) (q ∷ qs) d ids one s r m state =
    let i = ids s r m state in
    let j = ids x q (inl refl) d.0 in
    elim (tested q s.ref.id s.number) [
      | inl h ↦
          let same : x ≡ s = one x s (inl refl) m (sym j.0 ∙ h.0) (sym j.1 ∙ h.1) in
          let one_result : q ≡ r = done_same q r (sym d.0 ∙ ap (λ (y : ShardWork). y.state) same ∙ state) in
          cond-true _ _ _ h.2 ∙ ap (λ (y : ShardResult). Some y.generation) one_result
      | inr h ↦ elim m [
        | inl same ↦
            let one_result : q ≡ r = done_same q r (sym d.0 ∙ ap (λ (y : ShardWork). y.state) same ∙ state) in
            absurd (h.1 (ap (λ (y : ShardResult). y.index) one_result ∙ i.0) (ap (λ (y : ShardResult). y.shard) one_result ∙ i.1))
        | inr rest ↦ cond-false _ _ _ h.0 ∙ done_found xs qs d.1 (λ a b c. ids a b (inr c)) (λ a b c e. one a b (inr c) (inr e)) s r rest state
      ]
    ]
