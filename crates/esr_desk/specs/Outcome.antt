-- What a desk learns by a step.
use Rattle.std.specs.Prelude.{◌≡◌, ◌≢◌, ℕ, ◌+◌, ◌^◌, ◌≤◌, true, false, List, [], ◌∷◌, ◌++◌, length, Option, Some, None, Result, Ok, Err}
use Rattle.esr_core.specs.World.{Deleting, Drop, Swap}
use Rattle.esr_core.specs.Entry.{Step, Reply, Refusal, Refused, NothingReady, Gave, WasDone, WasThere, WasFetched, WasAbsent, Moment}
use Rattle.esr_model.specs.Image.{Image}
use Rattle.esr_depot.specs.declared.depot.Commit.{Commit}
use Rattle.esr_depot.specs.declared.depot.Commit.TheVariants as commits
use Rattle.esr_ops.specs.Units.{given_of}
use Rattle.esr_desk.specs.declared.unit.Unit.{Unit as Given}
use Rattle.esr_desk.specs.declared.refusal.EntryRefusal.TheVariants as refusals
use Rattle.esr_desk.specs.declared.refusal.StepRefusal.{StepRefusal}
use Rattle.esr_desk.specs.declared.refusal.StepRefusal.TheVariants as steps
use Rattle.esr_desk.specs.Refusals.{told_refusal}
use Rattle.esr_desk.specs.Start.{Start, Legal, ticket_of}
use Rattle.esr_desk.specs.Own.{own_of, reader_of}
use Rattle.esr_desk.specs.Once.{HasMadeNone}

-- the history may have gone on by steps of others, which leave all that this one has done
pub record Waited (s : Start) (old new : List Moment) (who : ℕ) : Type 0 where
  pub others : List Moment
  pub grew : new ≡ old ++ others
  -- a ticket makes its steps itself; as who 0 others may take a unit or elect meanwhile
  pub alone : 1 ≤ who → own_of s new who ≡ own_of s old who
  pub besides : 1 ≤ who → HasMadeNone others who
  -- where nobody else makes a step, it is as it was
  pub nobody : s.alone ≡ true → others ≡ []
  pub legal : Legal s new

-- then there is one entry more, of who made it
pub record Stepped (s : Start) (old new : List Moment) (who : ℕ) (step : Step) (reply : Reply) : Type 0 where
  pub front : List Moment
  pub waited : Waited s old front who
  pub image : Option Image
  pub is : new ≡ front ++ record { entry = record { who = who; step = step; reply = reply }; image = image } ∷ []
  pub legal : Legal s new

abbrev pub Refusing : Start → List Moment → List Moment → ℕ → Step → Option Refusal → Type 0
Refusing s old new who step None = Waited s old new who
Refusing s old new who step (Some refusal) = Stepped s old new who step (Refused refusal)

-- the ticket is that of a shard or a finalization of a snapshot or a clone, and hasn't settled
pub record IsOfOp (s : Start) (log : List Moment) (who : ℕ) : Type 0 where
  pub ticket : 1 ≤ who
  pub out : (ticket_of s log who).out ≡ true
  pub unsettled : (ticket_of s log who).settled ≡ false
  pub no_drop : (ticket_of s log who).work ≢ Drop
  pub no_delete : (uuids : List ℕ) (plan : Option Swap) → (ticket_of s log who).work ≡ Deleting uuids plan → ⊥
  pub no_reader : (reader_of s log who).out ≡ false

-- Turns are spent only where 2 ^ 33 were taken, each by an entry or before the history began; the container fails only where it isn't quiet; and a delete aborts no other unit.
abbrev pub Grounds : Start → List Moment → ℕ → StepRefusal → Type 0
Grounds s log who steps.Memory = Unit {0}
Grounds s log who steps.TurnsSpent = 2 ^ 33 ≤ s.earlier_turns + length log
Grounds s log who (steps.Refused refusals.DepotFault) = s.quiet ≡ false
Grounds s log who (steps.Refused (refusals.Aborted by)) = IsOfOp s log who
Grounds s log who (steps.Refused refusal) = Unit {0}

-- what a step adds to the history, by its answer
abbrev pub Outcome : {X : Type 0} → Start → List Moment → List Moment → ℕ → Step → (X → Reply) → Result X StepRefusal → Type 0
Outcome s old new who step ok (Ok x) = Stepped s old new who step (ok x)
Outcome s old new who step ok (Err e) = Refusing s old new who step (told_refusal e) × Grounds s new who e

-- ---- what some answers say in the history

abbrev pub take_reply : Option Given → Reply
take_reply None = NothingReady
take_reply (Some u) = Gave u.ready.ticket u.ready.op (given_of u.ready)

abbrev pub commit_reply : Commit → Reply
commit_reply commits.Done = WasDone
commit_reply commits.Exists = WasThere

abbrev pub fetch_reply : {F : Type 0} → Option F → Reply
fetch_reply None = WasAbsent
fetch_reply (Some f) = WasFetched
