-- The objects that failed and the targets of restores, as a desk keeps them.
use Rattle.std.specs.Prelude.{ℕ, List, [], ◌∷◌, Some, Result, Ok, Err}
use Rattle.esr_desk.specs.declared.refusal.StepRefusal.{StepRefusal}
use Rattle.esr_desk.specs.declared.fault.Fault.{Fault}
use Rattle.esr_desk.specs.declared.fault.By.{By}
use Rattle.esr_desk.specs.declared.fault.By.TheVariants as by
use Rattle.esr_desk.specs.declared.target.RestoredTarget.{RestoredTarget}

-- the object that shows a failure, with the place of its entry
abbrev pub listed_at : {S F H T : Type 0} → ℕ → By S F H T → List (Fault S F H T)
listed_at place (by.Object object) = record { entry = Some place; object = object } ∷ []
listed_at place by.Entry = []
listed_at place by.Nothing = []

-- by the answer: only where the failure was taken
abbrev pub kept_by : {X S F H T : Type 0} → ℕ → By S F H T → Result X StepRefusal → List (Fault S F H T)
kept_by place b (Ok x) = listed_at place b
kept_by place b (Err e) = []

-- a target is listed only where its shard was restored
abbrev pub targets_by : {X T : Type 0} → RestoredTarget T → Result X StepRefusal → List (RestoredTarget T)
targets_by target (Ok x) = target ∷ []
targets_by target (Err e) = []
