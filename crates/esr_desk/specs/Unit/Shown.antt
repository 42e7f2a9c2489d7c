-- What shows why a unit of a snapshot or a clone failed.
use Rattle.std.specs.Prelude.{◌≡◌, ◌⊎◌, ◌<◌, ◌≤◌, ℕ, Bool, true, false, List, Some, None}
use Rattle.esr_model.specs.Names.{BlobName, ShardIndex}
use Rattle.esr_model.specs.Values.{Bytes, Has, FileEntry, SnapList, ShardFiles}
use Rattle.esr_core.specs.World.{Ticket, Work, Shard}
use Rattle.esr_core.specs.Entry.{Why, OfDepot, OfSource, OfChange, OfAbsence, OfUnreadable, OfAhead, OfTaken, OfAbort, OfIdsSpent, OfGenerationsSpent, Step, BeginStep, LatestStep, WasAbsent, Refused, AbortedBy, DepotFault, NameTaken, IdsSpent, GenerationsSpent, Moment}
use Rattle.esr_core.specs.After.{is_latest}
use Rattle.esr_core.specs.Steps.{IsToFetch}
use Rattle.esr_formats.specs.Shards.{shard_index_kind}
use Rattle.esr_source.specs.declared.address.Address.{Address}
use Rattle.esr_desk.specs.declared.hand.Hand.TheVariants as hands
use Rattle.esr_desk.specs.declared.fault.FailedObject.TheVariants as objects
use Rattle.esr_desk.specs.declared.fault.By.{By}
use Rattle.esr_desk.specs.declared.fault.By.TheVariants as by
use Rattle.esr_desk.specs.Start.{Start, ticket_of}
use Rattle.esr_desk.specs.Own.{MadeLast}
use Rattle.esr_desk.specs.Evidence.{Evidence, HadReply, HadRefusal, HadFetch, HasRead, WasUnreadable, DepotShown, ReadShown, StepShown}

-- ---- the container

-- a step on `index.latest`
abbrev pub is_of_latest : Step → Bool
is_of_latest LatestStep = true
is_of_latest (BeginStep name) = is_latest name
is_of_latest step = false

-- a failure in a step on `index.latest` is no reason for a master's unit to fail; a shard's has no such step
abbrev pub Matters : Work → Step → Type 0
Matters (Shard index number) step = Unit {0}
Matters work step = is_of_latest step ≡ false

-- the ticket's last step, one that matters, was refused, since the container failed in it
abbrev pub HadFault : Start → List Moment → ℕ → Type 0
HadFault s log who = (step : Step) × HadReply log who step (Refused DepotFault) × MadeLast s log who step (Refused DepotFault) × Matters (ticket_of s log who).work step

-- ---- the source of a shard

-- the ticket is that of the shard of this address, and copies nothing
pub record IsOf (t : Ticket) (address : Address) : Type 0 where
  pub index : ℕ
  pub work : t.work ≡ Shard index address.number
  pub source : t.source ≡ None
  pub place : t.place ≡ address.place
  pub name : t.name ≡ address.index

-- the ticket is that of a shard whose files the sources don't tell
abbrev pub IsUntold : Start → Ticket → Type 0
IsUntold s t = (index : ℕ) × (number : ℕ) × (t.work ≡ Shard index number) × (s.known t.place t.name number ≡ false)

-- the shard of this address has failed so often, which it can't where its sources are quiet
abbrev pub FaultyShard : Start → ℕ → Address → Type 0
FaultyShard s count address = (0 < count) × (s.steady address.place address.index address.number ≡ false)

-- the shard of the unit has failed
abbrev pub SourceShown : {S F H T : Type 0} → Evidence S F H T → Start → Ticket → By S F H T → Type 0
SourceShown e s t (by.Object (objects.Shard shard)) = FaultyShard s (e.shard_faults shard) (e.shard shard).address × IsOf t (e.shard shard).address
SourceShown e s t b = ⊥

-- two prints of a file, which the sources don't tell, differ
pub record IsChange (s : Start) (t : Ticket) (first_len : ℕ) (first_digest : Bytes) (second_len : ℕ) (second_digest : Bytes) : Type 0 where
  pub differ : first_len ≡ second_len → first_digest ≡ second_digest → ⊥
  pub untold : IsUntold s t

-- ---- the base of a shard

-- the ticket is of a shard that builds on the index of this name
pub record IsBase (t : Ticket) (name : BlobName) : Type 0 where
  pub index : ℕ
  pub number : ℕ
  pub base : ℕ
  pub work : t.work ≡ Shard index number
  pub base_is : t.base ≡ Some base
  pub name_is : name ≡ ShardIndex index number base

-- an index has this id, which is that of the ticket's snapshot
abbrev pub HasSnapshot : Ticket → ShardFiles → ℕ → Type 0
HasSnapshot t v id = (l : SnapList) × Has v.snapshots l × (l.uuid ≡ id) × (id ≡ t.uuid)

-- or one that the ticket drew or a later one, once it has drawn
abbrev pub HasDrawn : Ticket → ShardFiles → ℕ → Type 0
HasDrawn t v id = (e : FileEntry) × Has v.files e × (e.name ≡ id) × (1 ≤ t.drawn) × (t.first ≤ id)

-- the base was there, and is an index that has the id, which it can't have yet
pub record WasAhead (s : Start) (log : List Moment) (who : ℕ) (name : BlobName) (id : ℕ) : Type 0 where
  pub base : IsBase (ticket_of s log who) name
  pub bytes : Bytes
  pub read : HasRead hands.Unit s log who name bytes
  pub v : ShardFiles
  pub reads : shard_index_kind.read bytes ≡ Some v
  pub ahead : HasSnapshot (ticket_of s log who) v id ⊎ HasDrawn (ticket_of s log who) v id

-- ---- by its cause

-- An object that failed, or a step; or two prints of a file differ; or what it was to fetch was absent, or doesn't read for this reason; or
-- the base is ahead; or a step was refused, since a name was taken, a delete aborted its op, or numbers were spent.
abbrev pub IsUnitShown : {S F H T : Type 0} → Evidence S F H T → Start → List Moment → ℕ → Why → By S F H T → Type 0
IsUnitShown e s log who OfDepot b = DepotShown e s (HadFault s log who) b
IsUnitShown e s log who OfSource b = SourceShown e s (ticket_of s log who) b
IsUnitShown e s log who (OfChange first_len first_digest second_len second_digest) b = ReadShown b (IsChange s (ticket_of s log who) first_len first_digest second_len second_digest)
IsUnitShown e s log who (OfAbsence name) b = ReadShown b (IsToFetch (ticket_of s log who) name × HadFetch hands.Unit log who name WasAbsent)
IsUnitShown e s log who (OfUnreadable name reason) b = ReadShown b (IsToFetch (ticket_of s log who) name × WasUnreadable hands.Unit s log who name reason)
IsUnitShown e s log who (OfAhead name id) b = ReadShown b (WasAhead s log who name id)
IsUnitShown e s log who (OfTaken name) b = StepShown b (HadRefusal log who (NameTaken name))
IsUnitShown e s log who (OfAbort op) b = StepShown b (HadRefusal log who (AbortedBy op))
IsUnitShown e s log who (OfIdsSpent next) b = StepShown b (HadRefusal log who (IdsSpent next))
IsUnitShown e s log who (OfGenerationsSpent pending) b = StepShown b (HadRefusal log who (GenerationsSpent pending))
-- the others are of restores and checks
IsUnitShown e s log who why b = ⊥
