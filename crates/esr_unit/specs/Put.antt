-- Why a blob wasn't put.
use Rattle.std.specs.Prelude.{◌⊎◌, ℕ, List, Option, Some, None}
use Rattle.esr_model.specs.Names.{BlobName}
use Rattle.esr_core.specs.Entry.{Step, BeginStep, CommitStep, Refusal, Refused, Moment}
use Rattle.esr_desk.specs.Refusals.{told_refusal}
use Rattle.esr_desk.specs.Start.{Start}
use Rattle.esr_desk.specs.Outcome.{Stepped, Grounds}
use Rattle.esr_desk.specs.Evidence.{Faulty}
use Rattle.esr_unit.specs.declared.trouble.Trouble.{Trouble}
use Rattle.esr_unit.specs.declared.trouble.Trouble.TheVariants as troubles

-- after others made steps, the last one was this, and it was refused so, if the history tells it
abbrev pub WasRefused : Start → List Moment → ℕ → Step → Option Refusal → Type 0
WasRefused s new who step None = Unit {0}
WasRefused s new who step (Some refusal) = (mid : List Moment) × Stepped s mid new who step (Refused refusal)

-- its begin or its commit was refused so, or a write to the stage has failed
abbrev pub PutErr : {S F : Type 0} → (S → ℕ) → Start → List Moment → ℕ → BlobName → Trouble S F → Type 0
PutErr faults s new who name (troubles.Step refusal) =
    (WasRefused s new who (BeginStep name) (told_refusal refusal) ⊎ WasRefused s new who (CommitStep name) (told_refusal refusal)) × Grounds s new who refusal
PutErr faults s new who name (troubles.Stage stage) = Faulty s (faults stage)
PutErr faults s new who name trouble = ⊥
