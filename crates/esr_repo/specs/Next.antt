-- What a step does to the history.
use Rattle.std.specs.Prelude.{◌≡◌, ℕ, false, List, [], ◌∷◌, ◌++◌, Option, Result, Ok, Err}
use Rattle.esr_model.specs.Image.{Image}
use Rattle.esr_core.specs.Entry.{Step, Reply, Refused, Moment}
use Rattle.esr_core.specs.After.{caller_after}
use Rattle.esr_core.specs.Allowed.{IsAborted}
use Rattle.esr_desk.specs.Start.{Start, formats_of, world_of, Legal}
use Rattle.esr_desk.specs.Own.{caller_of}
use Rattle.esr_desk.specs.Once.{IsFresh}
use Rattle.esr_desk.specs.Refusals.{refusal_of}
use Rattle.esr_desk.specs.declared.refusal.StepRefusal.{StepRefusal}
use Rattle.esr_desk.specs.declared.refusal.StepRefusal.TheVariants as steps
use Rattle.esr_repo.specs.Client.{ReadsOwn}

-- one entry was added to the history, and nothing else
pub record Added (s : Start) (old new : List Moment) (who : ℕ) (step : Step) (reply : Reply) : Type 0 where
  pub image : Option Image
  pub is : new ≡ old ++ record { entry = record { who = who; step = step; reply = reply }; image = image } ∷ []
  pub legal : Legal s new

-- what who 0 has done after an added entry is told by the entry and its image
abbrev pub CallersTold : Type 0
CallersTold = (s : Start) (old new : List Moment) (who : ℕ) (step : Step) (reply : Reply) (a : Added s old new who step reply)
    → caller_of s new ≡ caller_after (formats_of s) (caller_of s old) who step reply a.image

-- the refusal was added, or nothing where memory was wanting; a repository counts no turns
abbrev pub AddedOr : Start → List Moment → List Moment → ℕ → Step → StepRefusal → Type 0
AddedOr s old new who step steps.Memory = new ≡ old
AddedOr s old new who step steps.TurnsSpent = ⊥
AddedOr s old new who step (steps.Refused refusal) = Added s old new who step (Refused (refusal_of refusal))

-- what a step does to the history, by its answer
abbrev pub Did : {X : Type 0} → Start → List Moment → List Moment → ℕ → Step → (X → Reply) → Result X StepRefusal → Type 0
Did s old new who step ok (Ok x) = Added s old new who step (ok x)
Did s old new who step ok (Err e) = AddedOr s old new who step e

-- no record swap has failed
abbrev pub IsLive : Start → List Moment → Type 0
IsLive s log = (world_of s log).deposed ≡ false

-- no delete has aborted the op of the ticket, unless the step tells that the unit failed; the step repeats none that was made, and is no
-- fetch of a test blob that is not its own
pub record GoesOn (s : Start) (log : List Moment) (who : ℕ) (step : Step) : Type 0 where
  pub unaborted : (by : ℕ) → IsAborted (world_of s log) who step by → ⊥
  pub fresh : IsFresh s log who step
  pub own : ReadsOwn (caller_of s log) who step

-- The step may go on: it added nothing. Or it was refused, since a record swap failed before, or since a delete has aborted the op of its ticket.
abbrev pub Checked : Start → List Moment → List Moment → ℕ → Step → Result Unit StepRefusal → Type 0
Checked s old new who step (Ok x) = (new ≡ old) × IsLive s new
Checked s old new who step (Err e) = AddedOr s old new who step e
