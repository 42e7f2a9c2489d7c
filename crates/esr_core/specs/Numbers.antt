-- How many ids a step asks for, and what an asked command draws.
use Rattle.std.specs.Prelude.{◌≡◌, ℕ, suc, ◌+◌, ◌≤◌, length}
use Rattle.esr_model.specs.Delete.{kept_count}
use Rattle.esr_core.specs.World.{World}
use Rattle.esr_core.specs.Entry.{Snapshot, Clone, DrawTest, PlanShards, Step, AskStep, DrawStep, ReadStep, PruneStep}

-- how many ids it asks for at most: a snapshot asks for its own, and for one for each index
abbrev pub ids_by : Step → ℕ
ids_by (AskStep (Snapshot name indices moment)) = suc (length indices)
ids_by (AskStep (Clone source name indices moment taken)) = 1
ids_by (DrawStep count) = count
ids_by (ReadStep DrawTest) = 1
ids_by (PruneStep (PlanShards shards)) = kept_count shards
ids_by step = 0

-- neither the term nor the next generation goes on, and no more ids are drawn than the step asks for
pub record DrawsFew (w : World) (step : Step) (new : World) : Type 0 where
  pub term : new.term ≡ w.term
  pub pending : new.pending ≡ w.pending
  pub count : ℕ
  pub next : new.next_id ≡ w.next_id + count
  pub few : count ≤ ids_by step
