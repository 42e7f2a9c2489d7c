-- What the steps of restores make of a plan.
use Rattle.std.proofs.Common.{◌≡◌, ℕ, Bool, true, false, cond, eqb, List, [], ◌∷◌, Option, Some, None, option_map, map, refl, sym, ap, ◌∙◌, subst, true≢false, nat_cmp}
use Rattle.std.specs.Prelude.{◌&&◌, ◌==◌, is_some}
use Rattle.std.specs.List.{list_any}
use Rattle.std.specs.FinMap as fin
use Rattle.esr_model.specs.Values.{Bytes}
use Rattle.esr_core.specs.World.{World, Out, GivenUp, ShardWork, ReadState, BeingRead, Restored, NotRestored, RestoreShard, Restoring, Reader, marked, marked_by}
use Rattle.esr_core.specs.Restores.{waits, any_waits, handed, ended, ended_by}
use Rattle.esr_core.specs.Steps.{given}
use Rattle.esr_core.specs.After.{shard_over, read_over}
use Rattle.esr_ops.specs.Plan.{Plan, RestorePlan, read_state, read_work, restore_plan, reader_seat, IsPlanOf}
use Rattle.esr_ops.specs.Restores.{is_waiting}
use Rattle.esr_progress.specs.Changes.{restore_over, read_by, read_in}
use Rattle.esr_progress.specs.Plans.{restores_put, restores_put_count, restores_left, restores_left_count, any_waits-works}
use Rattle.esr_progress.proofs.Plans.{readers_left, of_reader}

module _ (place : Bytes) where
  handed_one : (k : ℕ) (s : RestoreShard) (b : Bool)
      → ◌≡◌ {A = ShardWork} (read_work place (cond b (record s { state = BeingRead k }) s)) (cond b (record (read_work place s) { state = Out k }) (read_work place s))
  handed_one k s true = refl
  handed_one k s false = refl

  pub works-handed : (k index number : ℕ) (xs : List RestoreShard) → map (read_work place) (map (handed k index number) xs) ≡ map (given k index number) (map (read_work place) xs)
  works-handed k index number [] = refl
  works-handed k index number (s ∷ xs) = λ j. handed_one k s ((s.ref.id == index) && (s.number == number)) j ∷ works-handed k index number xs j

  over_state : (state : ReadState) → waits state ≡ false → read_state state ≡ GivenUp
  over_state (Restored files bytes) e = refl
  over_state (NotRestored why) e = refl
  over_state state e = absurd (true≢false e)

  module _ (k : ℕ) (new : ReadState) (over : waits new ≡ false) where
    ended_one : (s : RestoreShard) (state : ReadState)
        → ◌≡◌ {A = ShardWork} (read_work place (ended_by k new (record s { state = state }) state)) (marked_by k GivenUp (record (read_work place s) { state = read_state state }) (read_state state))
    ended_one s (BeingRead j) = go (eqb j k)
      where
        go : (b : Bool) → ◌≡◌ {A = ShardWork} (read_work place (cond b (record s { state = new }) (record s { state = BeingRead j }))) (cond b (record (read_work place s) { state = GivenUp }) (record (read_work place s) { state = Out j }))
        go true = λ i. record (read_work place s) { state = over_state new over i }
        go false = refl
    ended_one s state = refl

    pub works-ended : (xs : List RestoreShard) → map (read_work place) (map (ended k new) xs) ≡ map (marked k GivenUp) (map (read_work place) xs)
    works-ended [] = refl
    works-ended (s ∷ xs) = λ j. ended_one s s.state j ∷ works-ended xs j

module _ (w : World) (p : Plan) (is : IsPlanOf w p) (k : ℕ) (state : ReadState) (over : waits state ≡ false) where
  -- its shard is over
  pub plan_over : (r : Restoring) → restore_plan (record r { shards = map (ended k state) r.shards }) ≡ restore_over k (restore_plan r)
  plan_over r = λ j. record { uuid = r.uuid; shards = works-ended r.place k state over r.shards j }

  ended_in : (restores : fin.FinMap nat_cmp Restoring) (plans : fin.FinMap nat_cmp RestorePlan) (q : Reader) → ((o : ℕ) → fin.get plans o ≡ option_map restore_plan (fin.get restores o)) → fin.len plans ≡ fin.len restores
      → IsPlanOf (record w { restores = restores; readers = fin.insert w.readers k (record q { out = false }) }) (record p { restores = plans; readers = fin.remove p.readers k })
  ended_in restores plans q are count =
      record {
        ops = is.ops;
        deletes = is.deletes;
        completed = is.completed;
        seats = is.seats;
        next_op = is.next_op;
        next_ticket = is.next_ticket;
        restores = are;
        restore_count = count;
        readers = readers_left w p is k (record q { out = false }) refl;
      }

  ended_with : (q : Reader) (r : Restoring) (b c : Bool) → b ≡ c
      → IsPlanOf (record w { restores = cond b (fin.insert w.restores q.op (record r { shards = map (ended k state) r.shards })) (fin.remove w.restores q.op); readers = fin.insert w.readers k (record q { out = false }) })
      (record p { restores = cond c (fin.insert p.restores q.op (restore_over k (restore_plan r))) (fin.remove p.restores q.op); readers = fin.remove p.readers k })
  ended_with q r true true e =
      ended_in (fin.insert w.restores q.op (record r { shards = map (ended k state) r.shards })) (fin.insert p.restores q.op (restore_over k (restore_plan r))) q
      (restores_put w p is q.op (record r { shards = map (ended k state) r.shards }) (restore_over k (restore_plan r)) (plan_over r))
      (restores_put_count w p is q.op (record r { shards = map (ended k state) r.shards }) (restore_over k (restore_plan r)))
  ended_with q r false false e = ended_in (fin.remove w.restores q.op) (fin.remove p.restores q.op) q (restores_left w p is q.op) (restores_left_count w p is q.op)
  ended_with q r true false e = absurd (true≢false e)
  ended_with q r false true e = absurd (true≢false (sym e))

  same_waits : (r : Restoring) → any_waits (map (ended k state) r.shards) ≡ list_any is_waiting (restore_over k (restore_plan r)).shards
  same_waits r = any_waits-works r.place (map (ended k state) r.shards) ∙ ap (list_any is_waiting) (works-ended r.place k state over r.shards)

  pub read_there : is_some (fin.get p.readers k) ≡ true → IsPlanOf (read_over w k state (fin.get w.readers k)) (read_in p k (fin.get p.readers k))
  read_there = of_reader w p is k (λ o s. IsPlanOf (read_over w k state o) (read_in p k s))
      (λ q out. subst (λ o. IsPlanOf (shard_over w k state q (fin.get w.restores q.op)) (read_by p k (reader_seat q) o)) (sym (is.restores q.op)) (inner q (fin.get w.restores q.op)))
    where
      inner : (q : Reader) (o : Option Restoring) → IsPlanOf (shard_over w k state q o) (read_by p k (reader_seat q) (option_map restore_plan o))
      inner q None = is
      inner q (Some r) = ended_with q r _ _ (same_waits r)

pub read_is : (p q new : Plan) (k : ℕ) → q ≡ p → is_some (fin.get p.readers k) ≡ true → new ≡ read_in q k (fin.get q.readers k)
    → (w : World) (state : ReadState) → waits state ≡ false → IsPlanOf w p → IsPlanOf (read_over w k state (fin.get w.readers k)) new
read_is p q new k copied there e w state over is = subst (IsPlanOf (read_over w k state (fin.get w.readers k))) (sym (e ∙ ap (λ (z : Plan). read_in z k (fin.get z.readers k)) copied)) (read_there w p is k state over there)
