-- The ticket of a unit as it was taken, and what its steps make of it.
use Rattle.std.specs.Prelude.{◌≡◌, ◌<◌, ℕ, true, false, List, [], ◌∷◌, map, ◌⊎◌, Option, Some, None, option_map, Result, Ok, Err, if◌then◌else◌}
use Rattle.esr_model.specs.Names.{BlobName}
use Rattle.esr_model.specs.Values.{Bytes, RootData}
use Rattle.esr_model.specs.Shelf.{Command}
use Rattle.esr_model.specs.Finalize.{finalized_root}
use Rattle.esr_core.specs.World.{Ticket, Work, Shard, Finalize, Deleting, Drop}
use Rattle.esr_core.specs.Entry.{Moment}
use Rattle.esr_core.specs.After.{committing, fetching, is_latest}
use Rattle.esr_core.specs.Steps.{noting}
use Rattle.esr_root.specs.Root.{Root}
use Rattle.esr_depot.specs.declared.depot.Commit.{Commit}
use Rattle.esr_depot.specs.declared.depot.Commit.TheVariants as commits
use Rattle.esr_formats.specs.Ids.{number_of}
use Rattle.esr_formats.specs.Roots.{root_of}
use Rattle.esr_formats.specs.Infos.{info_of_code}
use Rattle.esr_formats.specs.Clusters.{count_of}
use Rattle.esr_results.specs.Results.{result_of}
use Rattle.esr_ops.specs.declared.unit.Work.{Work as CodeWork}
use Rattle.esr_ops.specs.declared.unit.Work.TheVariants as works
use Rattle.esr_ops.specs.declared.unit.Copied.{Copied}
use Rattle.esr_desk.specs.declared.unit.Unit.{Unit as Given}
use Rattle.esr_desk.specs.declared.refusal.StepRefusal.{StepRefusal}
use Rattle.esr_desk.specs.declared.refusal.StepRefusal.TheVariants as steps
use Rattle.esr_desk.specs.declared.refusal.EntryRefusal.TheVariants.{DepotFault}
use Rattle.esr_desk.specs.Start.{Start, no_ticket, ticket_of, told_bytes}

-- a ticket that has done nothing yet
abbrev pub fresh : Work → ℕ → ℕ → Bytes → Bytes → ℕ → Copied → Ticket
fresh work op uuid place name term copy =
    record no_ticket {
      work = work;
      op = op;
      uuid = uuid;
      place = place;
      name = name;
      term = term;
      safe = count_of copy.safe;
      root = root_of copy.root;
      base = option_map number_of copy.base;
      out = true;
    }

-- the root that a finalization is to write
abbrev pub NewRoot : Option Root → RootData → Type 0
NewRoot None new = ⊥
NewRoot (Some root) new = root_of root ≡ new

-- of a clone's shard the place is told by nothing, and nothing reads it
abbrev pub TookWork : CodeWork → Option Root → ℕ → Copied → Ticket → Type 0
TookWork (works.Shard uuid shard index place) new op copy t =
    (term : ℕ) × (t ≡ fresh (Shard shard.index.number shard.number) op uuid.number place index term copy) × (shard.number < 1024)
TookWork (works.Finalize info shards) new op copy t =
    (term : ℕ) × (made : Command) × (t ≡ fresh (Finalize (info_of_code info) (map result_of shards) made) op info.uuid.number [] [] term copy)
    × NewRoot new (finalized_root (root_of copy.root) (info_of_code info) (map result_of shards))
TookWork (works.CloneShard source uuid shard index) new op copy t =
    (term : ℕ) × (place : Bytes) × (t ≡ record (fresh (Shard shard.index.number shard.number) op uuid.number place index term copy) { source = Some source.number }) × (shard.number < 1024)
TookWork works.Drop new op copy t = (term : ℕ) × (t ≡ fresh Drop op 0 [] [] term copy)
TookWork (works.Delete uuids) new op copy t = (term : ℕ) × (t ≡ fresh (Deleting (map number_of uuids) None) op 0 [] [] term copy)
TookWork works.Cleanup new op copy t = (term : ℕ) × (t ≡ record (fresh (Deleting [] None) op 0 [] [] term copy) { clean = true })
-- a restore's ticket is none of these
TookWork work new op copy t = ⊥

-- the unit's ticket is out, and has done nothing yet
abbrev pub Took : Start → List Moment → Given → Type 0
Took s log u = TookWork u.ready.work u.new_root u.ready.op u.ready.copy (ticket_of s log u.ready.ticket)

-- ---- what a step makes of the ticket

-- a blob was added, or was there
abbrev pub committed_by : BlobName → Option Bytes → Commit → Ticket → Ticket
committed_by name contents commits.Done t = committing name contents t
committed_by name contents commits.Exists t = noting t name

abbrev pub tried : Ticket → Ticket
tried t = record t { tried_latest = true }

-- a step on `index.latest`, which counts as tried also where the container failed
abbrev pub tried_by : {X : Type 0} → Result X StepRefusal → Ticket → Ticket
tried_by (Ok x) t = tried t
tried_by (Err (steps.Refused DepotFault)) t = tried t
tried_by (Err e) t = t

-- these blobs were committed, one after another
abbrev pub after_writes : Start → List (BlobName × Bytes) → Ticket → Ticket
after_writes s [] t = t
after_writes s (w ∷ ws) t = after_writes s ws (committing w.0 (told_bytes s w.1) t)

-- a begin, which tries `index.latest` where the container failed in it
abbrev pub begun_by : {X : Type 0} → BlobName → Result X StepRefusal → Ticket → Ticket
begun_by name (Ok x) t = t
begun_by name (Err (steps.Refused DepotFault)) t = if is_latest name then tried t else t
begun_by name (Err e) t = t

-- a fetch: what is told of the blob is noted
abbrev pub fetched_by : {F : Type 0} → (F → Option Bytes) → BlobName → Option F → Ticket → Ticket
fetched_by left name None t = t
fetched_by left name (Some f) t = fetching name (left f) t

-- A record swap that wasn't made leaves the ticket. Where the container failed in it the new record may stand, and the ticket
-- has gone on as where it was made.
abbrev pub LeftBy : {X : Type 0} → (Ticket → Type 0) → Result X StepRefusal → Ticket → Ticket → Type 0
LeftBy gone (Ok x) old new = Unit {0}
LeftBy gone (Err (steps.Refused DepotFault)) old new = (new ≡ old) ⊎ gone new
LeftBy gone (Err e) old new = new ≡ old

abbrev pub HasRaised : Ticket → Ticket → Type 0
HasRaised old new = (n : ℕ) × (new ≡ record old { raised = Some n })

abbrev pub IsSettled : Ticket → Ticket → Type 0
IsSettled old new = new ≡ record old { settled = true }

abbrev pub HasEndedAs : Ticket → Ticket → Type 0
HasEndedAs old new = new ≡ record old { out = false }
