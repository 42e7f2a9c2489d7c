-- What the ticket of a delete or cleanup has named in its removals, and what it may remove.
use Rattle.std.specs.Prelude.{◌≡◌, false, ◌⊎◌, ◌↔◌, ℕ, Bool, true, List, ◌++◌, map, Some, Result, Ok, Err}
use Rattle.esr_names.specs.declared.blob.BlobName.{BlobName as CodeName}
use Rattle.esr_model.specs.Names.{BlobName}
use Rattle.esr_model.specs.Values.{Has}
use Rattle.esr_core.specs.World.{Ticket, Deleting, Swap}
use Rattle.esr_core.specs.Pruning.{dooms}
use Rattle.esr_core.specs.Past.{removal_names}
use Rattle.esr_core.specs.Allowed.{HasPutLatest}
use Rattle.esr_core.specs.Entry.{RemoveDoomed, DroppedStep, PruneStep, Reply, WasRemoved, Entry, Moment}
use Rattle.esr_formats.specs.Names.{name_of}
use Rattle.esr_desk.specs.declared.refusal.StepRefusal.{StepRefusal}
use Rattle.esr_desk.specs.declared.refusal.StepRefusal.TheVariants as steps
use Rattle.esr_desk.specs.declared.refusal.EntryRefusal.TheVariants.{DepotFault}
use Rattle.esr_desk.specs.Start.{Start, formats_of, ticket_of, world_of}
use Rattle.esr_desk.specs.Own.{made_of}
use Rattle.esr_desk.specs.Outcome.{Stepped}
use Rattle.esr_desk.specs.Once.{IsFresh}
use Rattle.esr_desk.specs.Delete.Named.{AreNamed}
use Rattle.esr_desk.specs.Delete.Cleaned.{AreGone, NoneFailed}
use Rattle.esr_delete.specs.Ticket.{HasDone}

-- the ticket has made no removal
abbrev pub NoneRemoved : Start → List Moment → ℕ → Type 0
NoneRemoved s log who = (e : Entry) → Has (made_of s log who) e → (was : List BlobName) → e.step ≡ PruneStep (RemoveDoomed was) → ⊥

-- it has named none of these in a removal
abbrev pub AreUnnamed : Start → List Moment → ℕ → List BlobName → Type 0
AreUnnamed s log who names = (e : Entry) → Has (made_of s log who) e → (was : List BlobName) → e.step ≡ PruneStep (RemoveDoomed was) → (name : BlobName) → Has names name → Has was name → ⊥

-- the ticket is out, and has settled its plan
pub record IsSettledPlan (t : Ticket) : Type 0 where
  pub out : t.out ≡ true
  pub settled : t.settled ≡ true
  pub uuids : List ℕ
  pub plan : Swap
  pub work : t.work ≡ Deleting uuids (Some plan)

-- it may remove these names, which it dooms where the container tells
pub record MayRemove (s : Start) (t : Ticket) (names : List BlobName) : Type 0 where
  pub over : IsSettledPlan t
  pub doomed : s.tells ≡ true → (name : BlobName) → Has names name → Has (dooms (formats_of s) t) name

-- these names were named in one removal, whether or not the container failed in it, which it hasn't of a cleanup; and what was named
-- before it still is
pub record Removed (clean : Bool) (s : Start) (old new : List Moment) (who : ℕ) (names : List BlobName) : Type 0 where
  pub reply : Reply
  pub step : Stepped s old new who (PruneStep (RemoveDoomed names)) reply
  pub more : AreNamed s new who (names ++ removal_names (made_of s old who))
  pub well : clean ≡ true → reply ≡ WasRemoved

-- these names were named in removals; those of a cleanup were answered Ok, and took them away
pub record HasRemoved (clean : Bool) (s : Start) (old new : List Moment) (who : ℕ) (names : List BlobName) : Type 0 where
  pub named : AreNamed s new who names
  pub gone : clean ≡ true → AreGone s new who names
  pub well : clean ≡ true → NoneFailed s old who → NoneFailed s new who
  pub put : HasPutLatest (world_of s old) who → HasPutLatest (world_of s new) who
  pub undropped : IsFresh s old who DroppedStep → IsFresh s new who DroppedStep

-- the ticket has ended, and all that it dooms was removed before
pub record IsCleared (clean : Bool) (s : Start) (old new : List Moment) (who : ℕ) : Type 0 where
  pub own : ticket_of s new who ≡ record (ticket_of s old who) { out = false }
  pub done : HasDone clean s new who

-- a removal in which the container failed counts as made
abbrev pub borne_by : Result (Unit {0}) StepRefusal → Result (Unit {0}) StepRefusal
borne_by (Ok x) = Ok x
borne_by (Err (steps.Refused DepotFault)) = Ok tt
borne_by (Err e) = Err e

-- of a delete, not of a cleanup
abbrev pub passed_by : Bool → Result (Unit {0}) StepRefusal → Result (Unit {0}) StepRefusal
passed_by true r = r
passed_by false r = borne_by r

-- the set has just these names
abbrev pub IsSetOf : (CodeName → Bool) → List CodeName → Type 0
IsSetOf has names = (name : CodeName) → (has name ≡ true) ↔ Has (map name_of names) (name_of name)

-- they are the old names, and this one
abbrev pub IsWith : List CodeName → CodeName → List CodeName → Type 0
IsWith old x new = (name : CodeName) → Has new name ↔ (Has old name ⊎ (x ≡ name))
