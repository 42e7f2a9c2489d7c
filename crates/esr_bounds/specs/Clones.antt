-- What a history asks for at most, as lines ask for it: by the shards and indices of its snapshots, since a clone has no more than there are.
use Rattle.std.specs.Prelude.{ℕ, suc, ◌+◌, ◌*◌, List, [], ◌∷◌, length, None}
use Rattle.esr_model.specs.Values.{Formats}
use Rattle.esr_core.specs.World.{World}
use Rattle.esr_core.specs.Entry.{Snapshot, Clone, Step, AskStep, Moment}
use Rattle.esr_bounds.specs.Most.{most_of_final}
use Rattle.esr_bounds.specs.Units.{shards_by}
use Rattle.esr_bounds.specs.Work.{most_of_copy, work_of_step}
use Rattle.esr_bounds.specs.Others.{generation_names}

-- the step without what a clone takes
abbrev pub bare_step : Step → Step
bare_step (AskStep (Clone source name names moment taken)) = AskStep (Clone source name names moment None)
bare_step step = step

abbrev pub bare_steps : List Moment → List Step
bare_steps [] = []
bare_steps (m ∷ log) = bare_step m.entry.step ∷ bare_steps log

-- how many indices a snapshot is to have
abbrev pub indices_by : Step → ℕ
indices_by (AskStep (Snapshot name indices moment)) = length indices
indices_by step = 0

abbrev pub sum_of : (Step → ℕ) → List Step → ℕ
sum_of weight [] = 0
sum_of weight (step ∷ steps) = weight step + sum_of weight steps

-- the shards that a clone has at most, where these steps are asked for: those of the first root, and those of the snapshots
abbrev pub clone_shards : World → List Step → ℕ
clone_shards w steps = length (generation_names w.root.indices) + sum_of shards_by steps

abbrev pub clone_indices : World → List Step → ℕ
clone_indices w steps = length w.root.indices + sum_of indices_by steps

-- what its shards make, and its finalizations in so many terms
abbrev pub clone_work : ℕ → World → List Step → ℕ
clone_work terms w steps = clone_shards w steps * most_of_copy + terms * suc (most_of_final (clone_indices w steps))

-- all shards, where each of so many commands may be a clone
abbrev pub most_asked_shards : ℕ → World → List Step → ℕ
most_asked_shards commands w steps = sum_of shards_by steps + commands * clone_shards w steps

-- what all units make in so many terms
abbrev pub most_asked_work : Formats → ℕ → ℕ → ℕ → World → List Step → ℕ
most_asked_work f size terms commands w steps = sum_of (work_of_step f size terms) steps + commands * clone_work terms w steps
