-- The list of open ops and their tickets: that part of a world which tells of no blob and no id.
use Rattle.std.specs.Prelude.{◌≡◌, ℕ, Bool, List, [], Option, Some, None, option_map, map, if◌then◌else◌}
use Rattle.std.specs.Ordering.{nat_cmp}
use Rattle.std.specs.FinMap.{FinMap}
use Rattle.std.specs.FinMap as fin
use Rattle.esr_model.specs.Values.{Bytes, RootData}
use Rattle.esr_core.specs.World.{World, Op, Deletion, ShardState, Pending, Out, GivenUp, ShardWork, ReadState, Unread, BeingRead, Restored, NotRestored, RestoreShard, Restoring, Reader, Work, Shard, Finalize, Deleting, Drop, Ticket}
use Rattle.esr_ops.specs.declared.unit.SeatKind.{SeatKind}
use Rattle.esr_ops.specs.declared.unit.SeatKind.TheVariants as kinds
use Rattle.esr_ops.specs.declared.unit.Seat.{Seat as CodeSeat}
use Rattle.esr_ops.specs.declared.unit.ReaderSeat.{ReaderSeat as CodeReader}

-- the kind of a ticket's unit
pub data UnitKind : Type 0 where
  OfShard : (index number : ℕ) → UnitKind
  OfFinalize : UnitKind
  OfDelete : UnitKind
  OfDrop : UnitKind

-- what the list of ops keeps of a ticket that is out; a cleanup's is that of a delete, in its mode
pub record Seat : Type 0 where
  pub kind : UnitKind
  pub clean : Bool
  pub op : ℕ
  pub term : ℕ
  pub raised : Option ℕ
  pub settled : Bool

-- the seat that a seat of the code is
abbrev pub kind_of_code : SeatKind → UnitKind
kind_of_code (kinds.Shard shard) = OfShard shard.index.number shard.number
kind_of_code kinds.Finalize = OfFinalize
kind_of_code kinds.Delete = OfDelete
kind_of_code kinds.Drop = OfDrop

abbrev pub seat_of_code : CodeSeat → Seat
seat_of_code s = record { kind = kind_of_code s.kind; clean = s.clean; op = s.op; term = s.term; raised = s.raised; settled = s.settled }

-- what it keeps of a restore's ticket
pub record ReaderSeat : Type 0 where
  pub op : ℕ
  pub index : ℕ
  pub number : ℕ

abbrev pub reader_of_code : CodeReader → ReaderSeat
reader_of_code q = record { op = q.op; index = q.shard.index.number; number = q.shard.number }

-- what it keeps of an open restore: a shard is pending, out, or given up once its ticket has ended
pub record RestorePlan : Type 0 where
  pub uuid : ℕ
  pub shards : List ShardWork

-- the tickets that are out, those of restores apart, and the number of the next one
pub record TicketMaps : Type 0 where
  pub seats : FinMap nat_cmp Seat
  pub readers : FinMap nat_cmp ReaderSeat
  pub next : ℕ

pub record Plan : Type 0 where
  -- open snapshots and open deletes, by number
  pub ops : FinMap nat_cmp Op
  pub deletes : FinMap nat_cmp Deletion
  -- the numbers of snapshots in the order in which they completed
  pub completed : List ℕ
  -- the tickets that are out
  pub seats : FinMap nat_cmp Seat
  -- open restores, under the numbering of ops, and their tickets that are out, under that of tickets
  pub restores : FinMap nat_cmp RestorePlan
  pub readers : FinMap nat_cmp ReaderSeat
  pub next_op : ℕ
  pub next_ticket : ℕ

-- no op and no ticket
abbrev pub no_plan : Plan
no_plan = record { ops = fin.empty; deletes = fin.empty; completed = []; seats = fin.empty; restores = fin.empty; readers = fin.empty; next_op = 1; next_ticket = 1 }

abbrev pub kind_of : Work → UnitKind
kind_of (Shard index number) = OfShard index number
kind_of (Finalize info results made) = OfFinalize
kind_of (Deleting uuids swap) = OfDelete
kind_of Drop = OfDrop

abbrev pub seat_of : Ticket → Seat
seat_of t = record { kind = kind_of t.work; clean = t.clean; op = t.op; term = t.term; raised = t.raised; settled = t.settled }

-- it is kept while the ticket is out
abbrev pub seat_out : Option Ticket → Option Seat
seat_out None = None
seat_out (Some t) = if t.out then Some (seat_of t) else None

abbrev pub read_state : ReadState → ShardState
read_state Unread = Pending
read_state (BeingRead k) = Out k
read_state (Restored files bytes) = GivenUp
read_state (NotRestored why) = GivenUp

abbrev pub read_work : Bytes → RestoreShard → ShardWork
read_work place s = record { ref = s.ref; number = s.number; place = place; state = read_state s.state }

abbrev pub restore_plan : Restoring → RestorePlan
restore_plan r = record { uuid = r.uuid; shards = map (read_work r.place) r.shards }

abbrev pub reader_seat : Reader → ReaderSeat
reader_seat q = record { op = q.op; index = q.index; number = q.number }

abbrev pub reader_out : Option Reader → Option ReaderSeat
reader_out None = None
reader_out (Some q) = if q.out then Some (reader_seat q) else None

-- the plan is that of the world
pub record IsPlanOf (w : World) (p : Plan) : Type 0 where
  pub ops : p.ops ≡ w.ops
  pub deletes : p.deletes ≡ w.deletes
  pub completed : p.completed ≡ w.completed
  pub seats : (k : ℕ) → fin.get p.seats k ≡ seat_out (fin.get w.tickets k)
  pub next_op : p.next_op ≡ w.next_op
  pub next_ticket : p.next_ticket ≡ w.next_ticket
  pub restores : (o : ℕ) → fin.get p.restores o ≡ option_map restore_plan (fin.get w.restores o)
  pub restore_count : fin.len p.restores ≡ fin.len w.restores
  pub readers : (k : ℕ) → fin.get p.readers k ≡ reader_out (fin.get w.readers k)

-- a world with this plan, this root and the next id, in this term
pub record IsAskedIn (p : Plan) (root : RootData) (term next : ℕ) (w : World) : Type 0 where
  pub plan : IsPlanOf w p
  pub root_is : w.root ≡ root
  pub term_is : w.term ≡ term
  pub next_is : w.next_id ≡ next

-- a world with this plan, so many roots up to the safe one, and that root, in this term
pub record IsGivenIn (p : Plan) (root : RootData) (safe term : ℕ) (w : World) : Type 0 where
  pub plan : IsPlanOf w p
  pub root_is : w.root ≡ root
  pub safe_is : w.safe ≡ safe
  pub term_is : w.term ≡ term
