-- The targets that a run leaves.
use Rattle.std.specs.Prelude.{◌≡◌, ◌⊎◌, ℕ, List, []}
use Rattle.esr_core.specs.Entry.{Entry}
use Rattle.esr_depot.specs.Look.{Look}
use Rattle.esr_script.specs.declared.item.ScriptLine.{ScriptLine}
use Rattle.esr_desk.specs.declared.fault.Fault.{Fault}
use Rattle.esr_repo.specs.Log.{log_of}
use Rattle.esr_targets.specs.declared.target.Restored.{Restored}
use Rattle.esr_targets.specs.Targets.{AreTargetsOfLines}
use Rattle.esr_desk.specs.Evidence.{Evidence}
use Rattle.esr_run.specs.Start.{Telling, start_of}
use Rattle.esr_run.specs.Causes.{Given, IsOpenedRun, IsCarried}

-- nothing was carried out
abbrev pub NoneRestored : {T : Type 0} → List Entry → List (Restored T) → Type 0
NoneRestored history targets = (history ≡ []) × (targets ≡ [])

-- from the opening on: memory was wanting, or nothing was carried out, or the targets are those of the lines that restored shards
abbrev pub OpensRestored : {S F H T : Type 0} → Evidence S F H T → Telling → ℕ → ℕ → ℕ → List ScriptLine → Look → Look → List Entry → List (Fault S F H T) → List (Restored T) → ℕ → Type 0
OpensRestored evidence files size workers moment lines before after history faults targets status =
    (status ≡ 8) ⊎ (NoneRestored history targets ⊎ ((r : IsOpenedRun evidence files size workers moment lines before after history faults)
    × AreTargetsOfLines evidence (start_of files size r.quiet before r.world) moment lines (log_of after r.clock history) targets))

-- a whole run: memory was wanting, or nothing was carried out, or the targets are those of the lines that restored shards
abbrev pub HasRestored : {S F H T : Type 0} → Evidence S F H T → Given → Telling → Look → Look → List Entry → List (Fault S F H T) → List (Restored T) → ℕ → Type 0
HasRestored evidence given files before after history faults targets status =
    (status ≡ 8) ⊎ (NoneRestored history targets ⊎ ((c : IsCarried evidence given files before after history faults)
    × AreTargetsOfLines evidence (start_of files c.size c.run.quiet before c.run.world) given.moment c.lines (log_of after c.run.clock history) targets))
