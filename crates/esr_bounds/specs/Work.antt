-- How many steps the units of what a history asks for make at most.
use Rattle.std.specs.Prelude.{ℕ, zero, suc, ◌+◌, ◌*◌, List, [], ◌∷◌, length, Option, Some, None}
use Rattle.std.specs.FinMap as fin
use Rattle.esr_model.specs.Values.{IndexRef, Formats}
use Rattle.esr_core.specs.World.{Work, Shard, Finalize, Deleting, Drop, Ticket, World}
use Rattle.esr_core.specs.Entry.{AskedIndex, Snapshot, Clone, Step, AskStep, ElectStep, Reply, Gave, AcceptedRestore, Moment}
use Rattle.esr_core.specs.History.{world_from}
use Rattle.esr_bounds.specs.Keys.{made_by}
use Rattle.esr_bounds.specs.Most.{most_of_shard, most_of_final, most_of_drop}

-- of so many shards of an index, numbered from the first on; the take that gives a unit counts with it
abbrev pub work_of_shards : Formats → ℕ → AskedIndex → ℕ → ℕ → ℕ
work_of_shards f size a first zero = 0
work_of_shards f size a first (suc n) = suc (most_of_shard f size a.place a.name first None) + work_of_shards f size a (suc first) n

-- of all shards of these indices
abbrev pub work_of_indices : Formats → ℕ → List AskedIndex → ℕ
work_of_indices f size [] = 0
work_of_indices f size (a ∷ indices) = work_of_shards f size a 0 a.shards + work_of_indices f size indices

abbrev pub count_of_shards : List IndexRef → ℕ
count_of_shards [] = 0
count_of_shards (r ∷ refs) = r.shards + count_of_shards refs

-- the shards of a restore that is accepted
abbrev pub restores_by : Reply → ℕ
restores_by (AcceptedRestore o uuid indices) = count_of_shards indices
restores_by reply = 0

abbrev pub restores_in : List Moment → ℕ
restores_in [] = 0
restores_in (m ∷ log) = restores_by m.entry.reply + restores_in log

-- of one shard of a clone: it draws one id, and writes two blobs
abbrev pub most_of_copy : ℕ
most_of_copy = 21

-- of the shards for which the step asks, each once
abbrev pub shards_work : Formats → ℕ → Step → ℕ
shards_work f size (AskStep (Snapshot name indices moment)) = work_of_indices f size indices
shards_work f size (AskStep (Clone source name names moment (Some taken))) = count_of_shards taken.indices * most_of_copy
shards_work f size step = 0

-- of its op in one term: a finalization, if it is that of a snapshot or a clone, and a drop
abbrev pub op_work : Step → ℕ
op_work (AskStep (Snapshot name indices moment)) = suc (most_of_final (length indices)) + suc most_of_drop
op_work (AskStep (Clone source name names moment (Some taken))) = suc (most_of_final (length taken.indices)) + suc most_of_drop
op_work (AskStep command) = suc most_of_drop
op_work step = 0

-- of what the step asks for in so many terms
abbrev pub work_of_step : Formats → ℕ → ℕ → Step → ℕ
work_of_step f size terms step = shards_work f size step + terms * op_work step

abbrev pub work_of : Formats → ℕ → ℕ → List Moment → ℕ
work_of f size terms [] = 0
work_of f size terms (m ∷ log) = work_of_step f size terms m.entry.step + work_of f size terms log

-- whether the step asks for an op
abbrev pub asks_by : Step → ℕ
asks_by (AskStep command) = 1
asks_by step = 0

abbrev pub asks_in : List Moment → ℕ
asks_in [] = 0
asks_in (m ∷ log) = asks_by m.entry.step + asks_in log

-- how many elections there were to be
abbrev pub elections_by : Step → ℕ
elections_by ElectStep = 1
elections_by step = 0

abbrev pub elections_in : List Moment → ℕ
elections_in [] = 0
elections_in (m ∷ log) = elections_by m.entry.step + elections_in log

-- ---- what isn't counted so

abbrev pub made_if_delete : List Moment → ℕ → Work → ℕ
made_if_delete log k (Shard index number) = 0
made_if_delete log k (Finalize info results made) = 0
made_if_delete log k (Deleting uuids plan) = suc (made_by log k)
made_if_delete log k Drop = 0

-- the steps of the ticket of this number, and its take, where it is that of a delete or cleanup, or of a restore
abbrev pub made_besides : List Moment → ℕ → Option Ticket → ℕ
made_besides log k None = suc (made_by log k)
made_besides log k (Some t) = made_if_delete log k t.work

-- and those of all tickets up to a number, as they are in a world
abbrev pub made_of_others : List Moment → World → ℕ → ℕ
made_of_others log w zero = 0
made_of_others log w (suc k) = made_besides log (suc k) (fin.get w.tickets (suc k)) + made_of_others log w k

-- ---- who 0

-- a step of who 0 that gives no unit: 1, or 0
abbrev pub idle_by : ℕ → Reply → ℕ
idle_by zero (Gave ticket op unit) = 0
idle_by zero reply = 1
idle_by (suc k) reply = 0

abbrev pub idle_in : List Moment → ℕ
idle_in [] = 0
idle_in (m ∷ log) = idle_by m.entry.who m.entry.reply + idle_in log

-- How many steps the history has at most: those of who 0, the takes that give units aside; those of shards, finalizations and drops, by what
-- was asked and by the numbers of ops that the world had given; and those of the other tickets.
abbrev pub most_steps : Formats → ℕ → World → List Moment → ℕ
most_steps f size w log =
    idle_in log
    + ((work_of f size (suc (elections_in log)) log + w.next_op * (suc (elections_in log) * suc most_of_drop)) + made_of_others log (world_from f w log) (world_from f w log).next_ticket)
