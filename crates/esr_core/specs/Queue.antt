-- What holds of the list of open ops and their master tickets: what readiness rests on.
use Rattle.std.specs.Prelude.{◌≡◌, ℕ, ◌<◌, ◌⊎◌, true, false, List, Option, Some}
use Rattle.std.specs.Ordering.{nat_cmp}
use Rattle.std.specs.FinMap.{FinMap}
use Rattle.std.specs.FinMap as fin
use Rattle.esr_model.specs.Values.{RootSnap, RootIndex, RootData, ShardResult, Formats}
use Rattle.esr_model.specs.Shelf.{Shelved, names_uuid}
use Rattle.esr_model.specs.Image.{Has}
use Rattle.esr_core.specs.World.{World, Op, Deletion, ShardWork, Pending, Out, GivenUp, Deleting, Drop, Ticket, Swap, AllDone}
use Rattle.esr_core.specs.Ready.{Barrier, Stopped, Idle, IsMaster, SwapIsOut, UnitIsOut}
use Rattle.esr_core.specs.Sound.{Sound}

-- the new root has nothing that the old one hasn't
pub record Shrinks (root new : RootData) : Type 0 where
  pub snapshots : (s : RootSnap) → Has new.snapshots s → Has root.snapshots s
  pub indices : (y : RootIndex) → Has new.indices y → (x : RootIndex) × Has root.indices x × (x.name ≡ y.name) × (x.id ≡ y.id) × ((u : ℕ) → Has y.snapshots u → Has x.snapshots u)

-- the root lists the uuid
abbrev pub Lists : RootData → ℕ → Type 0
Lists root u = (z : RootSnap) × Has root.snapshots z × (z.uuid ≡ u)

-- of the delete that is out: it is the first open op, and its root is the safe one without some snapshots
pub record DeleteLaw (root : RootData) (ops : FinMap nat_cmp Op) (deletes : FinMap nat_cmp Deletion) (t : Ticket) (plan : Option Swap) : Type 0 where
  pub deletion : Deletion
  pub there : fin.get deletes t.op ≡ Some deletion
  pub unfailed : deletion.failed ≡ false
  pub first : (p : ℕ) (q : Op) → p < t.op → fin.get ops p ≡ Some q → ⊥
  pub root_is : t.root ≡ root
  pub planned : (s : Swap) → plan ≡ Some s → Shrinks root s.root
  -- it copied what the op names, and keeps the rest
  pub named : t.clean ≡ false → (uuids : List ℕ) (p : Option Swap) → t.work ≡ Deleting uuids p → uuids ≡ deletion.uuids
  pub keeps : (s : Swap) → plan ≡ Some s → (z : RootSnap) → Has root.snapshots z → names_uuid deletion.uuids z.uuid ≡ false → Has s.root.snapshots z

-- of a drop that is out: its op failed or was aborted, and it is the op's one unit
pub record DropLaw (term : ℕ) (ops : FinMap nat_cmp Op) (deletes : FinMap nat_cmp Deletion) (tickets : FinMap nat_cmp Ticket) (k : ℕ) (t : Ticket) : Type 0 where
  pub stopped : ((op : Op) × (fin.get ops t.op ≡ Some op) × Stopped op) ⊎ ((x : Deletion) × (fin.get deletes t.op ≡ Some x) × (x.failed ≡ true))
  pub alone : (j : ℕ) → UnitIsOut tickets term t.op j → j ≡ k

-- while a ticket of a cleanup is out no other ticket is
abbrev pub Sole : ℕ → FinMap nat_cmp Deletion → FinMap nat_cmp Ticket → Type 0
Sole term deletes tickets = (k : ℕ) (t : Ticket) → fin.get tickets k ≡ Some t → t.out ≡ true → IsMaster t.work → t.term ≡ term → (x : Deletion) → fin.get deletes t.op ≡ Some x → x.clean ≡ true
    → (j : ℕ) (u : Ticket) → fin.get tickets j ≡ Some u → u.out ≡ true → j ≡ k

pub record Queue (term : ℕ) (root : RootData) (ops : FinMap nat_cmp Op) (deletes : FinMap nat_cmp Deletion) (completed : List ℕ) (next_op : ℕ) (tickets : FinMap nat_cmp Ticket) : Type 0 where
  pub numbers : (o : ℕ) (op : Op) → fin.get ops o ≡ Some op → o < next_op
  pub delete_numbers : (d : ℕ) (x : Deletion) → fin.get deletes d ≡ Some x → d < next_op
  pub apart : (o : ℕ) (op : Op) (x : Deletion) → fin.get ops o ≡ Some op → fin.get deletes o ≡ Some x → ⊥
  -- each shard of an op behind an open delete is pending or given up
  pub behind : (o : ℕ) (op : Op) (s : ShardWork) → fin.get ops o ≡ Some op → Barrier deletes o → Has op.shards s → Idle s.state
  -- where an earlier op has a shard pending, no later one has it out
  pub queued : (o p : ℕ) (a b : Op) (s z : ShardWork) → o < p → fin.get ops o ≡ Some a → fin.get ops p ≡ Some b → Has a.shards s → Has b.shards z
      → s.ref.id ≡ z.ref.id → s.number ≡ z.number → s.state ≡ Pending → (k : ℕ) → z.state ≡ Out k → ⊥
  -- a shard is given up where its op failed alone
  pub given_up : (o : ℕ) (op : Op) (s : ShardWork) → fin.get ops o ≡ Some op → Has op.shards s → s.state ≡ GivenUp → op.failed ≡ true
  -- an op whose shards are all done is among the completed ones
  pub completes : (o : ℕ) (op : Op) (results : List ShardResult) → fin.get ops o ≡ Some op → AllDone op.shards results → Has completed o
  -- and these alone
  pub completed_numbers : (o : ℕ) → Has completed o → o < next_op
  pub completed_done : (o : ℕ) (op : Op) → Has completed o → fin.get ops o ≡ Some op → (results : List ShardResult) × AllDone op.shards results
  -- while a cleanup is open no other op is
  pub lone : (d : ℕ) (x : Deletion) → fin.get deletes d ≡ Some x → x.clean ≡ true → ((o : ℕ) (op : Op) → fin.get ops o ≡ Some op → ⊥) × ((e : ℕ) (y : Deletion) → fin.get deletes e ≡ Some y → e ≡ d)
  -- the source of an open clone is listed, and no open delete names it
  pub sources : (o : ℕ) (op : Op) (u : ℕ) → fin.get ops o ≡ Some op → op.source ≡ Some u → Lists root u × ((d : ℕ) (x : Deletion) → fin.get deletes d ≡ Some x → names_uuid x.uuids u ≡ false)
  pub sole : Sole term deletes tickets
  pub deleting : (k : ℕ) (t : Ticket) → fin.get tickets k ≡ Some t → t.out ≡ true → t.settled ≡ false → t.term ≡ term
      → (uuids : List ℕ) (plan : Option Swap) → t.work ≡ Deleting uuids plan → DeleteLaw root ops deletes t plan
  pub drops : (k : ℕ) (t : Ticket) → fin.get tickets k ≡ Some t → t.out ≡ true → t.term ≡ term → t.work ≡ Drop → DropLaw term ops deletes tickets k t
  pub one_swap : (j k : ℕ) → SwapIsOut tickets term j → SwapIsOut tickets term k → j ≡ k

abbrev pub QueueIn : World → Type 0
QueueIn w = Queue w.term w.root w.ops w.deletes w.completed w.next_op w.tickets

-- the law, with the queue
pub record Lawful (f : Formats) (w : World) (shelf : List Shelved) : Type 0 where
  pub sound : Sound f w shelf
  pub queue : QueueIn w
