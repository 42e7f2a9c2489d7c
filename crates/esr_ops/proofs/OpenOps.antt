-- An open op: its shards after a change, what holds of them, and what it makes.
use Rattle.std.proofs.Common.{◌≡◌, ℕ, Bool, true, false, cond, ◌&&◌, ◌||◌, ◌==◌, eqb, List, [], ◌∷◌, Option, Some, None, option_map, map, refl, sym, ap, ◌∙◌, subst, inl, inr, arith, ◌+◌, ◌<◌, length, take, get_or}
use Rattle.std.specs.List.{list_any, list_all}
use Rattle.esr_names.specs.declared.ids.Id.{Id}
use Rattle.esr_names.specs.declared.blob.ShardId.{ShardId}
use Rattle.esr_names.specs.declared.index_ref.IndexRef.{IndexRef as CodeRef}
use Rattle.esr_record.specs.declared.op.Making.{Making}
use Rattle.esr_model.specs.Values.{Bytes, ShardResult}
use Rattle.esr_core.specs.World.{Out, Done, GivenUp, ShardWork, marked, marked_by, Op, work_of}
use Rattle.esr_core.specs.Steps.{given, all_done}
use Rattle.esr_core.specs.Turns.{fails, fails_by}
use Rattle.esr_ops.specs.declared.shard.ShardState.{ShardState as CodeState}
use Rattle.esr_ops.specs.declared.shard.ShardState.TheVariants as states
use Rattle.esr_ops.specs.declared.shard.OpenShard.{OpenShard}
use Rattle.esr_ops.specs.Shards.{work_of_shard, state_of, given_open, marked_open, marked_state, failed_open, failed_state, is_done, is_done_with, is_open_waiting, waits_on, generation_by, generation_open, AreShards}
use Rattle.esr_ops.specs.Ops.{IsOpenOp, Within, IsDoneAt, IsMost, Among, later_of, op_with, AreParts, making_told, work_by_source, IsShardWork}
use Rattle.esr_formats.specs.Ids.{number_of}
use Rattle.esr_results.specs.Results.{result_of}
use Rattle.std.proofs.lemmas.Bool.Decides.{eqb_tells}
use Rattle.std.specs.Prelude.{IfSome}
use Rattle.esr_model.specs.Lists.{Has-mapped, Has-map}
use Rattle.esr_core.specs.Laws.DoneShards.{done_same}
use Rattle.esr_ops.specs.Lists.{all_member}
use Rattle.esr_ops.specs.Most.{most_like, most_more}
use Rattle.esr_ops.proofs.Lists.{all_mapped}
use Rattle.esr_ops.proofs.Alike.{alike_by}

-- ---- tests

module _ (refs : List CodeRef) (places : List Bytes) where
  pub all_done-works : (xs : List OpenShard) → all_done (map (work_of_shard refs places) xs) ≡ list_all (λ s. is_done (state_of s.state)) xs
  all_done-works [] = refl
  all_done-works (x ∷ xs) = ap (λ b. is_done (state_of x.state) && b) (all_done-works xs)

  done_with : (k : ℕ) (r : ShardResult) (x : OpenShard) (st : CodeState) → is_done (marked_by k (Done r) (record (work_of_shard refs places x) { state = state_of st }) (state_of st)).state ≡ is_done_with k st
  done_with k r x (states.Out j) = elim (eqb j k) as (λ b. is_done (cond b (record (work_of_shard refs places x) { state = Done r }) (record (work_of_shard refs places x) { state = Out j })).state ≡ b) [ true ↦ refl | false ↦ refl ]
  done_with k r x st = refl

  pub all_done-marked : (k : ℕ) (r : ShardResult) (xs : List OpenShard) → all_done (map (marked k (Done r)) (map (work_of_shard refs places) xs)) ≡ list_all (λ s. is_done_with k s.state) xs
  all_done-marked k r [] = refl
  all_done-marked k r (x ∷ xs) = λ i. done_with k r x x.state i && all_done-marked k r xs i

  pub any_waits-works : (shard : ShardId) (xs : List OpenShard) → list_any (waits_on shard) (map (work_of_shard refs places) xs) ≡ list_any (is_open_waiting shard) xs
  any_waits-works shard [] = refl
  any_waits-works shard (x ∷ xs) = λ i. is_open_waiting shard x || any_waits-works shard xs i

  -- ---- changes

  given_work : (k : ℕ) (x : OpenShard) (b : Bool)
      → ◌≡◌ {A = ShardWork} (record (work_of_shard refs places x) { state = state_of (cond b (states.Out k) x.state) }) (cond b (record (work_of_shard refs places x) { state = Out k }) (work_of_shard refs places x))
  given_work k x true = refl
  given_work k x false = refl

  pub works-given : (k : ℕ) (shard : ShardId) (xs : List OpenShard) → map (work_of_shard refs places) (map (given_open k shard) xs) ≡ map (given k shard.index.number shard.number) (map (work_of_shard refs places) xs)
  works-given k shard [] = refl
  works-given k shard (x ∷ xs) = λ i. given_work k x ((x.shard.index.number == shard.index.number) && (x.shard.number == shard.number)) i ∷ works-given k shard xs i

  marked_work : (k : ℕ) (new : CodeState) (x : OpenShard) (st : CodeState)
      → ◌≡◌ {A = ShardWork} (record (work_of_shard refs places x) { state = state_of (marked_state k new st) }) (marked_by k (state_of new) (record (work_of_shard refs places x) { state = state_of st }) (state_of st))
  marked_work k new x (states.Out j) = elim (eqb j k) as (λ b. ◌≡◌ {A = ShardWork} (record (work_of_shard refs places x) { state = state_of (cond b new (states.Out j)) })
      (cond b (record (work_of_shard refs places x) { state = state_of new }) (record (work_of_shard refs places x) { state = Out j }))) [ true ↦ refl | false ↦ refl ]
  marked_work k new x st = refl

  pub works-marked : (k : ℕ) (new : CodeState) (xs : List OpenShard) → map (work_of_shard refs places) (map (marked_open k new) xs) ≡ map (marked k (state_of new)) (map (work_of_shard refs places) xs)
  works-marked k new [] = refl
  works-marked k new (x ∷ xs) = λ i. marked_work k new x x.state i ∷ works-marked k new xs i

  failed_work : (k : ℕ) (x : OpenShard) (st : CodeState)
      → ◌≡◌ {A = ShardWork} (record (work_of_shard refs places x) { state = state_of (failed_state k st) }) (fails_by k (record (work_of_shard refs places x) { state = state_of st }) (state_of st))
  failed_work k x (states.Out j) = elim (eqb j k) as (λ b. ◌≡◌ {A = ShardWork} (record (work_of_shard refs places x) { state = state_of (cond b states.GivenUp (states.Out j)) })
      (cond b (record (work_of_shard refs places x) { state = GivenUp }) (record (work_of_shard refs places x) { state = Out j }))) [ true ↦ refl | false ↦ refl ]
  failed_work k x st = refl

  pub works-failed : (k : ℕ) (xs : List OpenShard) → map (work_of_shard refs places) (map (failed_open k) xs) ≡ map (fails k) (map (work_of_shard refs places) xs)
  works-failed k [] = refl
  works-failed k (x ∷ xs) = λ i. failed_work k x x.state i ∷ works-failed k xs i

-- ---- what every op keeps

module _ (m : Making) (places : List Bytes) (xs : List OpenShard) (h : IsOpenOp m places xs) where
  -- a change of states alone that goes by state
  kept_by : (g : OpenShard → CodeState) → ((a b : OpenShard) → a.shard.index.number ≡ b.shard.index.number → a.shard.number ≡ b.shard.number → a.state ≡ b.state → g a ≡ g b)
      → IsOpenOp m places (map {A = OpenShard} (λ s. record s { state = g s }) xs)
  kept_by g same = record {
    making = h.making;
    placed = h.placed;
    within = all_mapped (Within places) (λ s. record s { state = g s }) (λ s w. w) xs h.within;
    alike = alike_by g same xs h.alike;
  }

  pub kept-given : (k : ℕ) (shard : ShardId) → IsOpenOp m places (map (given_open k shard) xs)
  kept-given k shard = kept_by (λ s. cond ((s.shard.index.number == shard.index.number) && (s.shard.number == shard.number)) (states.Out k) s.state)
      (λ a b i n e j. cond ((i j == shard.index.number) && (n j == shard.number)) (states.Out k) (e j))

  pub kept-marked : (k : ℕ) (new : CodeState) → IsOpenOp m places (map (marked_open k new) xs)
  kept-marked k new = kept_by (λ s. marked_state k new s.state) (λ a b i n e. ap (marked_state k new) e)

  pub kept-failed : (k : ℕ) → IsOpenOp m places (map (failed_open k) xs)
  kept-failed k = kept_by (λ s. failed_state k s.state) (λ a b i n e. ap (failed_state k) e)

-- ---- the generation of a shard

-- the shard of the code is of this id and number, and done at the generation
abbrev pub IsDoneOpen : ShardId → OpenShard → ℕ → Type 0
IsDoneOpen shard s generation = IsDoneAt shard.index.number shard.number (work_of_shard [] [] s) generation

apart_states : (st : CodeState) (x : OpenShard) (shard : ShardId) → x.state ≡ st → ((r : ShardResult) → state_of st ≡ Done r → ⊥) → (g : ℕ) → IsDoneOpen shard x g → ⊥
apart_states st x shard is never g h = never h.r (sym (ap state_of is) ∙ h.state)

-- what the code finds at one shard is the largest there
most_by : (shard : ShardId) (x : OpenShard) (st : CodeState) → x.state ≡ st → IsMost (IsDoneOpen shard x) (option_map number_of (generation_by ((x.shard.index.number == shard.index.number) && (x.shard.number == shard.number)) st))
most_by shard x states.Pending is = apart_states states.Pending x shard is (λ r e. cc)
most_by shard x (states.Out j) is = apart_states (states.Out j) x shard is (λ r e. cc)
most_by shard x states.GivenUp is = apart_states states.GivenUp x shard is (λ r e. cc)
most_by shard x (states.Done r) is = elim (eqb_tells x.shard.index.number shard.index.number) [
  | inl t ↦ elim (eqb_tells x.shard.number shard.number) [
    | inl u ↦
        let same : ((x.shard.index.number == shard.index.number) && (x.shard.number == shard.number)) ≡ true = λ i. t.0 i && u.0 i in
        subst (λ b. IsMost (IsDoneOpen shard x) (option_map number_of (cond b (Some r.generation) None))) (sym same) (
          record { r = result_of r; state = ap state_of is; index_is = t.1; number_is = u.1; generation_is = refl },
          λ g h. omega (arith, ap (λ (z : ShardResult). z.generation) (done_same (result_of r) h.r (sym (ap state_of is) ∙ h.state)), h.generation_is),
        )
    | inr u ↦
        let other : ((x.shard.index.number == shard.index.number) && (x.shard.number == shard.number)) ≡ false = (λ i. t.0 i && u.0 i) in
        subst (λ b. IsMost (IsDoneOpen shard x) (option_map number_of (cond b (Some r.generation) None))) (sym other) (λ g h. u.1 h.number_is)
  ]
  | inr t ↦
      let other : ((x.shard.index.number == shard.index.number) && (x.shard.number == shard.number)) ≡ false = ap (λ b. b && (x.shard.number == shard.number)) t.0 in
      subst (λ b. IsMost (IsDoneOpen shard x) (option_map number_of (cond b (Some r.generation) None))) (sym other) (λ g h. t.1 h.index_is)
]

pub most_open : (shard : ShardId) (x : OpenShard) → IsMost (IsDoneOpen shard x) (option_map number_of (generation_open shard x))
most_open shard x = most_by shard x x.state refl

-- of the definitions' shards too
pub most_works : (refs : List CodeRef) (places : List Bytes) (xs : List OpenShard) (shard : ShardId) (a : Option ℕ) → IsMost (Among xs (IsDoneOpen shard)) a
    → IsMost (Among (map (work_of_shard refs places) xs) (IsDoneAt shard.index.number shard.number)) a
most_works refs places xs shard a h = most_like _ _ a
    (λ g d. (work_of_shard refs places d.0, Has-map (work_of_shard refs places) xs d.0 d.1, record { r = d.2.r; state = d.2.state; index_is = d.2.index_is; number_is = d.2.number_is; generation_is = d.2.generation_is }))
    (λ g d. let (x, m, is) = Has-mapped (work_of_shard refs places) xs d.0 d.1 in (
      x,
      m,
      record {
        r = d.2.r;
        state = ap (λ (s : ShardWork). s.state) is ∙ d.2.state;
        index_is = ap (λ (s : ShardWork). s.ref.id) is ∙ d.2.index_is;
        number_is = ap (λ (s : ShardWork). s.number) is ∙ d.2.number_is;
        generation_is = d.2.generation_is;
      },
    ))
    h

-- one shard more
pub generation_step : (shard : ShardId) (xs : List OpenShard) (i : ℕ) (d : OpenShard) (a found most : Option Id) → i < length xs → IsMost (Among (take i xs) (IsDoneOpen shard)) (option_map number_of a)
    → found ≡ generation_open shard (get_or xs i d) → option_map number_of most ≡ later_of (option_map number_of a) (option_map number_of found)
    → IsMost (Among (take (i + 1) xs) (IsDoneOpen shard)) (option_map number_of most)
generation_step shard xs i d a found most lt before is now =
    let here : IsMost (IsDoneOpen shard (get_or xs i d)) (option_map number_of found) = subst (λ (o : Option Id). IsMost (IsDoneOpen shard (get_or xs i d)) (option_map number_of o)) (sym is) (most_open shard (get_or xs i d)) in
    subst (IsMost (Among (take (i + 1) xs) (IsDoneOpen shard))) (sym now) (most_more (IsDoneOpen shard) xs i d (option_map number_of a) (option_map number_of found) lt before here)

-- ---- by the source of an op

-- what the record tells of an op
pub told_is : (m : Making) (places : List Bytes) (shards : List OpenShard) (failed : Bool) (source : Option Id) (aborted : Option ℕ) → making_told m (option_map number_of source) ≡ work_of (op_with m places shards failed source aborted)
told_is m places shards failed None aborted = refl
told_is m places shards failed (Some source) aborted = refl

-- the unit of a shard
module _ (op : Op) (uuid : Id) (shard : ShardId) (name place : Bytes) where
  work_of_one : (source : Option Id) → op.source ≡ option_map number_of source → uuid.number ≡ op.uuid → (s : ShardWork) → AreParts s shard name place → IsShardWork op s (work_by_source source uuid shard name place)
  work_of_one None source_is uuid_is s h = (source_is, uuid_is, h.0, h.1, h.2, h.3)
  work_of_one (Some source) source_is uuid_is s h = (source_is, uuid_is, h.0, h.1, h.2)

  pub parts_given : (source : Option Id) → op.source ≡ option_map number_of source → uuid.number ≡ op.uuid → (o : Option ShardWork) → IfSome o (λ s. AreParts s shard name place)
      → IfSome o (λ s. IsShardWork op s (work_by_source source uuid shard name place))
  parts_given source source_is uuid_is None h = tt
  parts_given source source_is uuid_is (Some s) h = work_of_one source source_is uuid_is s h

-- what holds of the shards of an open op
pub works_rule : (m : Making) (places : List Bytes) (xs : List OpenShard) → IsOpenOp m places xs → AreShards (map (work_of_shard m.indices places) xs)
works_rule m places xs h = record {
  few = λ s has.
      let (x, hx, e) = Has-mapped (work_of_shard m.indices places) xs s has in
      subst (λ (z : ShardWork). z.number < 1024) e (all_member (Within places) xs h.within x hx).1;
  alike = λ a b ha hb i n.
      let (x, hx, ex) = Has-mapped (work_of_shard m.indices places) xs a ha in
      let (y, hy, ey) = Has-mapped (work_of_shard m.indices places) xs b hb in
      let id : x.shard.index.number ≡ y.shard.index.number = ap (λ (s : ShardWork). s.ref.id) ex ∙ i ∙ sym (ap (λ (s : ShardWork). s.ref.id) ey) in
      let number : x.shard.number ≡ y.shard.number = ap (λ (s : ShardWork). s.number) ex ∙ n ∙ sym (ap (λ (s : ShardWork). s.number) ey) in
      sym (ap (λ (s : ShardWork). s.state) ex) ∙ ap state_of (h.alike x y hx hy id number) ∙ ap (λ (s : ShardWork). s.state) ey;
}
