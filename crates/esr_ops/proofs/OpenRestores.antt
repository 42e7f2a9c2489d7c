-- What a change of a restore's shards is, as the definitions see it.
use Rattle.std.proofs.Common.{◌≡◌, ℕ, Bool, true, false, cond, ◌||◌, ◌&&◌, eqb, List, [], ◌∷◌, map, refl, sym, ap, ◌∙◌, subst, ◌<◌}
use Rattle.std.specs.Prelude.{◌==◌}
use Rattle.std.specs.List.{list_any}
use Rattle.esr_model.specs.Lists.{Has-mapped}
use Rattle.esr_names.specs.declared.blob.ShardId.{ShardId}
use Rattle.esr_names.specs.declared.index_ref.IndexRef.{IndexRef as CodeRef}
use Rattle.esr_model.specs.Values.{Bytes}
use Rattle.esr_core.specs.World.{Out, ShardWork, marked, marked_by}
use Rattle.esr_core.specs.Steps.{given}
use Rattle.esr_ops.specs.declared.shard.ShardState.{ShardState as CodeState}
use Rattle.esr_ops.specs.declared.shard.ShardState.TheVariants as states
use Rattle.esr_ops.specs.declared.shard.OpenShard.{OpenShard}
use Rattle.esr_ops.specs.Shards.{state_of, waits, waits_on, is_open_waiting, given_open, marked_open, marked_state, AreShards}
use Rattle.esr_ops.specs.Restores.{work_of_read, LiesIn, IsOpenRestore, is_waiting}
use Rattle.esr_ops.specs.Lists.{all_member}
use Rattle.esr_ops.proofs.Lists.{all_mapped}
use Rattle.esr_ops.proofs.Alike.{alike_by}

module _ (refs : List CodeRef) (place : Bytes) where
  pub any_waits-reads : (xs : List OpenShard) → list_any is_waiting (map (work_of_read refs place) xs) ≡ list_any (λ s. waits (state_of s.state)) xs
  any_waits-reads [] = refl
  any_waits-reads (x ∷ xs) = ap (λ b. waits (state_of x.state) || b) (any_waits-reads xs)

  pub waits_on-reads : (shard : ShardId) (xs : List OpenShard) → list_any (waits_on shard) (map (work_of_read refs place) xs) ≡ list_any (is_open_waiting shard) xs
  waits_on-reads shard [] = refl
  waits_on-reads shard (x ∷ xs) = λ i. is_open_waiting shard x || waits_on-reads shard xs i

  given_read : (k : ℕ) (x : OpenShard) (b : Bool)
      → ◌≡◌ {A = ShardWork} (record (work_of_read refs place x) { state = state_of (cond b (states.Out k) x.state) }) (cond b (record (work_of_read refs place x) { state = Out k }) (work_of_read refs place x))
  given_read k x true = refl
  given_read k x false = refl

  pub reads-given : (k : ℕ) (shard : ShardId) (xs : List OpenShard) → map (work_of_read refs place) (map (given_open k shard) xs) ≡ map (given k shard.index.number shard.number) (map (work_of_read refs place) xs)
  reads-given k shard [] = refl
  reads-given k shard (x ∷ xs) = λ i. given_read k x ((x.shard.index.number == shard.index.number) && (x.shard.number == shard.number)) i ∷ reads-given k shard xs i

  marked_read : (k : ℕ) (new : CodeState) (x : OpenShard) (st : CodeState)
      → ◌≡◌ {A = ShardWork} (record (work_of_read refs place x) { state = state_of (marked_state k new st) }) (marked_by k (state_of new) (record (work_of_read refs place x) { state = state_of st }) (state_of st))
  marked_read k new x (states.Out j) = elim (eqb j k) as (λ b. ◌≡◌ {A = ShardWork} (record (work_of_read refs place x) { state = state_of (cond b new (states.Out j)) })
      (cond b (record (work_of_read refs place x) { state = state_of new }) (record (work_of_read refs place x) { state = Out j }))) [ true ↦ refl | false ↦ refl ]
  marked_read k new x st = refl

  pub reads-marked : (k : ℕ) (new : CodeState) (xs : List OpenShard) → map (work_of_read refs place) (map (marked_open k new) xs) ≡ map (marked k (state_of new)) (map (work_of_read refs place) xs)
  reads-marked k new [] = refl
  reads-marked k new (x ∷ xs) = λ i. marked_read k new x x.state i ∷ reads-marked k new xs i

  -- what holds of the shards of an open restore
  pub reads_rule : (xs : List OpenShard) → IsOpenRestore refs xs → AreShards (map (work_of_read refs place) xs)
  reads_rule xs h = record {
    few = λ s has.
        let (x, hx, e) = Has-mapped (work_of_read refs place) xs s has in
        subst (λ (z : ShardWork). z.number < 1024) e (all_member (LiesIn refs) xs h.within x hx).1;
    alike = λ a b ha hb i n.
        let (x, hx, ex) = Has-mapped (work_of_read refs place) xs a ha in
        let (y, hy, ey) = Has-mapped (work_of_read refs place) xs b hb in
        let id : x.shard.index.number ≡ y.shard.index.number = ap (λ (s : ShardWork). s.ref.id) ex ∙ i ∙ sym (ap (λ (s : ShardWork). s.ref.id) ey) in
        let number : x.shard.number ≡ y.shard.number = ap (λ (s : ShardWork). s.number) ex ∙ n ∙ sym (ap (λ (s : ShardWork). s.number) ey) in
        sym (ap (λ (s : ShardWork). s.state) ex) ∙ ap state_of (h.alike x y hx hy id number) ∙ ap (λ (s : ShardWork). s.state) ey;
  }

-- ---- what every restore keeps

module _ (refs : List CodeRef) (xs : List OpenShard) (h : IsOpenRestore refs xs) where
  -- a change of states alone that goes by state
  kept_by : (g : OpenShard → CodeState) → ((a b : OpenShard) → a.shard.index.number ≡ b.shard.index.number → a.shard.number ≡ b.shard.number → a.state ≡ b.state → g a ≡ g b)
      → IsOpenRestore refs (map {A = OpenShard} (λ s. record s { state = g s }) xs)
  kept_by g same = record {
    within = all_mapped (LiesIn refs) (λ s. record s { state = g s }) (λ s w. w) xs h.within;
    alike = alike_by g same xs h.alike;
  }

  pub kept-given : (k : ℕ) (shard : ShardId) → IsOpenRestore refs (map (given_open k shard) xs)
  kept-given k shard = kept_by (λ s. cond ((s.shard.index.number == shard.index.number) && (s.shard.number == shard.number)) (states.Out k) s.state)
      (λ a b i n e j. cond ((i j == shard.index.number) && (n j == shard.number)) (states.Out k) (e j))

  pub kept-marked : (k : ℕ) (new : CodeState) → IsOpenRestore refs (map (marked_open k new) xs)
  kept-marked k new = kept_by (λ s. marked_state k new s.state) (λ a b i n e. ap (marked_state k new) e)
