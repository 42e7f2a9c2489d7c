-- What shows why a delete or cleanup failed.
use Rattle.std.specs.Prelude.{◌≡◌, ℕ, false, List, Option}
use Rattle.esr_model.specs.Names.{BlobName, ShardIndex}
use Rattle.esr_core.specs.World.{Ticket, Deleting, Swap}
use Rattle.esr_core.specs.Pruning.{IsToRead}
use Rattle.esr_core.specs.Entry.{Why, OfDepot, OfAbsence, OfUnreadable, OfTaken, OfIdsSpent, OfGenerationsSpent, WasAbsent, Step, Refused, DepotFault, NameTaken, IdsSpent, GenerationsSpent, Moment}
use Rattle.esr_desk.specs.declared.hand.Hand.TheVariants as hands
use Rattle.esr_desk.specs.declared.fault.By.{By}
use Rattle.esr_desk.specs.Start.{Start, ticket_of}
use Rattle.esr_desk.specs.Own.{MadeLast}
use Rattle.esr_desk.specs.Evidence.{Evidence, HadReply, HadRefusal, HadFetch, WasUnreadable, DepotShown, ReadShown, StepShown}
use Rattle.esr_desk.specs.Unit.Shown.{is_of_latest}

-- a failure in a step on `index.latest` is no reason for a delete to fail, but for a cleanup
abbrev pub MattersTo : Ticket → Step → Type 0
MattersTo t step = t.clean ≡ false → is_of_latest step ≡ false

-- the ticket's last step, one that matters, was refused, since the container failed in it
abbrev pub HadDeleteFault : Start → List Moment → ℕ → Type 0
HadDeleteFault s log who = (step : Step) × HadReply log who step (Refused DepotFault) × MadeLast s log who step (Refused DepotFault) × MattersTo (ticket_of s log who) step

-- the name is that of the index of a shard that is to be read, before the settle
pub record IsOfDelete (t : Ticket) (name : BlobName) : Type 0 where
  pub uuids : List ℕ
  pub plan : Option Swap
  pub work : t.work ≡ Deleting uuids plan
  pub unsettled : t.settled ≡ false
  pub index : ℕ
  pub number : ℕ
  pub base : ℕ
  pub to_read : IsToRead t.clean t.root uuids index number base
  pub name_is : name ≡ ShardIndex index number base

-- By its cause: a stage or a fetch that failed, or a step; or an index is absent, or doesn't read for this reason; or a step was refused,
-- since a name was taken or numbers were spent.
abbrev pub IsDeleteShown : {S F H T : Type 0} → Evidence S F H T → Start → List Moment → ℕ → Why → By S F H T → Type 0
IsDeleteShown e s log who OfDepot b = DepotShown e s (HadDeleteFault s log who) b
IsDeleteShown e s log who (OfAbsence name) b = ReadShown b (IsOfDelete (ticket_of s log who) name × HadFetch hands.Delete log who name WasAbsent)
IsDeleteShown e s log who (OfUnreadable name reason) b = ReadShown b (IsOfDelete (ticket_of s log who) name × WasUnreadable hands.Delete s log who name reason)
IsDeleteShown e s log who (OfTaken name) b = StepShown b (HadRefusal log who (NameTaken name))
IsDeleteShown e s log who (OfIdsSpent next) b = StepShown b (HadRefusal log who (IdsSpent next))
IsDeleteShown e s log who (OfGenerationsSpent pending) b = StepShown b (HadRefusal log who (GenerationsSpent pending))
-- the others are of snapshots, restores and checks
IsDeleteShown e s log who why b = ⊥
