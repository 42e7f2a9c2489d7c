-- Which shards are asked, and which tickets an op has in a term.
use Rattle.std.specs.Prelude.{◌≡◌, ℕ, suc, ◌+◌, List, [], ◌∷◌, length, map, Option, Some, None}
use Rattle.std.specs.Ordering.{nat_cmp}
use Rattle.std.specs.FinMap.{FinMap}
use Rattle.std.specs.FinMap as fin
use Rattle.esr_model.specs.Values.{IndexRef}
use Rattle.esr_model.specs.Places.{places}
use Rattle.esr_core.specs.World.{World, ShardWork, Work, Shard, Finalize, Deleting, Drop, Ticket}
use Rattle.esr_core.specs.Entry.{AskedIndex, Snapshot, Clone, Step, AskStep, Moment}
use Rattle.esr_bounds.specs.Work.{count_of_shards}
use Rattle.esr_core.specs.After.{refs_from, all_pending, copied_shard}

-- the indices and the shards of the op for which the step asks
abbrev pub asked_indices : World → Step → List IndexRef
asked_indices w (AskStep (Snapshot name indices moment)) = refs_from w (suc w.next_id) indices
asked_indices w (AskStep (Clone source name names moment (Some taken))) = taken.indices
asked_indices w step = []

-- the snapshot that it copies
abbrev pub asked_source : Step → Option ℕ
asked_source (AskStep (Clone source name names moment (Some taken))) = Some taken.source
asked_source step = None

abbrev pub asked_shards : World → Step → List ShardWork
asked_shards w (AskStep (Snapshot name indices moment)) = all_pending indices (refs_from w (suc w.next_id) indices)
asked_shards w (AskStep (Clone source name names moment (Some taken))) = map copied_shard (places taken.indices)
asked_shards w step = []

-- the number of its op, and how many indices this has
abbrev pub asked_counts : World → Step → List (ℕ × ℕ)
asked_counts w (AskStep (Snapshot name indices moment)) = (w.next_op, length (refs_from w (suc w.next_id) indices)) ∷ []
asked_counts w (AskStep (Clone source name names moment (Some taken))) = (w.next_op, length taken.indices) ∷ []
asked_counts w step = []

-- how many shards the step asks for
abbrev pub count_asked : List AskedIndex → ℕ
count_asked [] = 0
count_asked (a ∷ indices) = a.shards + count_asked indices

abbrev pub shards_by : Step → ℕ
shards_by (AskStep (Snapshot name indices moment)) = count_asked indices
shards_by (AskStep (Clone source name names moment (Some taken))) = count_of_shards taken.indices
shards_by step = 0

abbrev pub shards_in : List Moment → ℕ
shards_in [] = 0
shards_in (m ∷ log) = shards_by m.entry.step + shards_in log

-- ---- one ticket for an op in a term

abbrev pub IsFinalize : Work → Type 0
IsFinalize (Shard index number) = ⊥
IsFinalize (Finalize info results made) = Unit {0}
IsFinalize (Deleting uuids plan) = ⊥
IsFinalize Drop = ⊥

abbrev pub IsDropped : Work → Type 0
IsDropped (Shard index number) = ⊥
IsDropped (Finalize info results made) = ⊥
IsDropped (Deleting uuids plan) = ⊥
IsDropped Drop = Unit {0}

-- of a kind there is one ticket for an op in a term
abbrev pub OneOf : (Work → Type 0) → FinMap nat_cmp Ticket → Type 0
OneOf P tickets = (j k : ℕ) (t u : Ticket) → fin.get tickets j ≡ Some t → fin.get tickets k ≡ Some u → P t.work → P u.work → t.op ≡ u.op → t.term ≡ u.term → j ≡ k
