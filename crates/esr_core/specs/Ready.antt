-- Which units are ready, over the list of open ops: snapshots and deletes under one numbering.
use Rattle.std.specs.Prelude.{◌≡◌, ◌≢◌, ℕ, ◌<◌, ◌⊎◌, true, false, List, [], ◌∷◌, Some, None}
use Rattle.std.specs.Ordering.{nat_cmp}
use Rattle.std.specs.FinMap.{FinMap}
use Rattle.std.specs.FinMap as fin
use Rattle.esr_model.specs.Values.{ShardResult}
use Rattle.esr_model.specs.Image.{Has}
use Rattle.esr_core.specs.World.{World, Op, Deletion, ShardWork, ShardState, Pending, Out, Done, GivenUp, Unread, RestoreShard, Restoring, Reader, Work, Shard, Finalize, Deleting, Drop, Ticket, AllDone}
use Rattle.esr_core.specs.Entry.{Step, ElectStep, LookStep, ReadStep}
use Rattle.esr_core.specs.Restores.{waits}

-- an open delete stands before the op
pub record Barrier (deletes : FinMap nat_cmp Deletion) (o : ℕ) : Type 0 where
  pub number : ℕ
  pub deletion : Deletion
  pub there : fin.get deletes number ≡ Some deletion
  pub before : number < o

-- it has neither failed nor been aborted
pub record Goes (op : Op) : Type 0 where
  pub unfailed : op.failed ≡ false
  pub unaborted : op.aborted ≡ None

abbrev pub Stopped : Op → Type 0
Stopped op = (op.failed ≡ true) ⊎ ((by : ℕ) × (op.aborted ≡ Some by))

-- the shard is pending or out
abbrev pub Waits : ShardState → Type 0
Waits Pending = Unit {0}
Waits (Out k) = Unit {0}
Waits (Done r) = ⊥
Waits GivenUp = ⊥

-- the shard is pending or given up
abbrev pub Idle : ShardState → Type 0
Idle Pending = Unit {0}
Idle (Out k) = ⊥
Idle (Done r) = ⊥
Idle GivenUp = Unit {0}

-- a stands before the first b in the list
abbrev pub Before : List ℕ → ℕ → ℕ → Type 0
Before [] a b = ⊥
Before (x ∷ xs) a b = (x ≢ b) × (((x ≡ a) × Has xs b) ⊎ Before xs a b)

abbrev pub IsMaster : Work → Type 0
IsMaster (Shard index number) = ⊥
IsMaster (Finalize info results made) = Unit {0}
IsMaster (Deleting uuids plan) = Unit {0}
IsMaster Drop = ⊥

abbrev pub IsShard : Work → Type 0
IsShard (Shard index number) = Unit {0}
IsShard (Finalize info results made) = ⊥
IsShard (Deleting uuids plan) = ⊥
IsShard Drop = ⊥

-- a ticket of the present term has a swap that it hasn't settled
pub record SwapIsOut (tickets : FinMap nat_cmp Ticket) (term k : ℕ) : Type 0 where
  pub t : Ticket
  pub there : fin.get tickets k ≡ Some t
  pub out : t.out ≡ true
  pub unsettled : t.settled ≡ false
  pub present : t.term ≡ term
  pub swaps : IsMaster t.work

-- a unit of the op is out: a shard's at any term, another's at the present one
pub record UnitIsOut (tickets : FinMap nat_cmp Ticket) (term o k : ℕ) : Type 0 where
  pub t : Ticket
  pub there : fin.get tickets k ≡ Some t
  pub out : t.out ≡ true
  pub op_is : t.op ≡ o
  pub counts : IsShard t.work ⊎ (t.term ≡ term)

pub record ReadyShard (w : World) (o : ℕ) (op : Op) (s : ShardWork) : Type 0 where
  pub op_there : fin.get w.ops o ≡ Some op
  pub s_there : Has op.shards s
  pub pending : s.state ≡ Pending
  pub goes : Goes op
  pub no_barrier : Barrier w.deletes o → ⊥
  -- no earlier open op holds the same shard pending or out
  pub first : (p : ℕ) (q : Op) (z : ShardWork) → p < o → fin.get w.ops p ≡ Some q → Has q.shards z → z.ref.id ≡ s.ref.id → z.number ≡ s.number → Waits z.state → ⊥
  -- no earlier open restore has it unread or being read
  pub unread : (p : ℕ) (r : Restoring) (z : RestoreShard) → p < o → fin.get w.restores p ≡ Some r → Has r.shards z → z.ref.id ≡ s.ref.id → z.number ≡ s.number → waits z.state ≡ false

pub record ReadyFinalize (w : World) (o : ℕ) (op : Op) (results : List ShardResult) : Type 0 where
  pub op_there : fin.get w.ops o ≡ Some op
  pub done : AllDone op.shards results
  pub goes : Goes op
  pub no_barrier : Barrier w.deletes o → ⊥
  pub no_swap : (k : ℕ) → SwapIsOut w.tickets w.term k → ⊥
  -- no other that could be finalized completed earlier
  pub earliest : (p : ℕ) (q : Op) → fin.get w.ops p ≡ Some q → Goes q → (Barrier w.deletes p → ⊥) → Before w.completed p o → ⊥

pub record ReadyDrop (w : World) (o : ℕ) : Type 0 where
  pub stopped : ((op : Op) × (fin.get w.ops o ≡ Some op) × Stopped op) ⊎ ((x : Deletion) × (fin.get w.deletes o ≡ Some x) × (x.failed ≡ true))
  pub idle : (k : ℕ) → UnitIsOut w.tickets w.term o k → ⊥

pub record ReadyDelete (w : World) (d : ℕ) (x : Deletion) : Type 0 where
  pub there : fin.get w.deletes d ≡ Some x
  pub unfailed : x.failed ≡ false
  pub deletes : x.clean ≡ false
  -- no op stands before it
  pub first : (p : ℕ) (q : Op) → p < d → fin.get w.ops p ≡ Some q → ⊥
  pub first_delete : Barrier w.deletes d → ⊥
  pub no_swap : (k : ℕ) → SwapIsOut w.tickets w.term k → ⊥

-- of a cleanup: no other op is open and no ticket is out
pub record ReadyCleanup (w : World) (d : ℕ) (x : Deletion) : Type 0 where
  pub there : fin.get w.deletes d ≡ Some x
  pub unfailed : x.failed ≡ false
  pub cleans : x.clean ≡ true
  pub no_op : (o : ℕ) (op : Op) → fin.get w.ops o ≡ Some op → ⊥
  pub no_other : (e : ℕ) (y : Deletion) → fin.get w.deletes e ≡ Some y → e ≡ d
  pub no_ticket : (k : ℕ) (t : Ticket) → fin.get w.tickets k ≡ Some t → t.out ≡ true → ⊥

-- of a restore's shard: it is unread
pub record ReadyRestore (w : World) (o : ℕ) (r : Restoring) (s : RestoreShard) : Type 0 where
  pub there : fin.get w.restores o ≡ Some r
  pub s_there : Has r.shards s
  pub unread : s.state ≡ Unread

-- some unit is ready
pub data AnyReady (w : World) : Type 0 where
  AShard : (o : ℕ) (op : Op) (s : ShardWork) → ReadyShard w o op s → AnyReady w
  AFinalize : (o : ℕ) (op : Op) (results : List ShardResult) → ReadyFinalize w o op results → AnyReady w
  ADrop : (o : ℕ) → ReadyDrop w o → AnyReady w
  ADelete : (d : ℕ) (x : Deletion) → ReadyDelete w d x → AnyReady w
  ACleanup : (d : ℕ) (x : Deletion) → ReadyCleanup w d x → AnyReady w
  ARestore : (o : ℕ) (r : Restoring) (s : RestoreShard) → ReadyRestore w o r s → AnyReady w

-- an op of this number is open
abbrev pub IsOpen : World → ℕ → Type 0
IsOpen w o = ((op : Op) × (fin.get w.ops o ≡ Some op)) ⊎ ((x : Deletion) × (fin.get w.deletes o ≡ Some x))

-- a restore of this number is open
abbrev pub HasRestore : World → ℕ → Type 0
HasRestore w o = (r : Restoring) × (fin.get w.restores o ≡ Some r)

-- no ticket is out, a restore's neither
pub record NoTicketOut (w : World) : Type 0 where
  pub tickets : (k : ℕ) (t : Ticket) → fin.get w.tickets k ≡ Some t → t.out ≡ true → ⊥
  pub readers : (k : ℕ) (q : Reader) → fin.get w.readers k ≡ Some q → q.out ≡ true → ⊥

-- what readiness goes by, the tickets aside, is the same in both
pub record SameWork (w v : World) : Type 0 where
  pub ops : v.ops ≡ w.ops
  pub deletes : v.deletes ≡ w.deletes
  pub completed : v.completed ≡ w.completed
  pub restores : v.restores ≡ w.restores

-- of who 0: it neither asks nor takes
abbrev pub LeavesWork : Step → Type 0
LeavesWork ElectStep = Unit {0}
LeavesWork LookStep = Unit {0}
LeavesWork (ReadStep read) = Unit {0}
LeavesWork step = ⊥
