-- What holds of the open ops and their tickets over any container, also one that tells nothing: each unit that is out has
-- its op, and names and ids are apart.
use Rattle.std.specs.Prelude.{◌≡◌, ◌≢◌, ℕ, ◌+◌, ◌<◌, ◌≤◌, true, false, List, Option, Some, map}
use Rattle.std.specs.Ordering.{nat_cmp}
use Rattle.std.specs.FinMap.{FinMap}
use Rattle.std.specs.FinMap as fin
use Rattle.esr_model.specs.Values.{Bytes, Has, IndexRef, RootSnap, RootIndex, RootData, SnapInfo, ShardResult}
use Rattle.esr_model.specs.Shelf.{Command}
use Rattle.esr_model.specs.Kept.{RootIds}
use Rattle.esr_model.specs.Places.{places}
use Rattle.esr_core.specs.World.{World, Op, Deletion, ShardWork, Out, Done, Shard, Finalize, Deleting, Drop, Ticket, Swap, AllDone, info_of}
use Rattle.esr_core.specs.Generations.{IsHeldBy}
use Rattle.esr_core.specs.Ready.{Goes, Stopped, IsShard, SwapIsOut}
use Rattle.esr_core.specs.Queue.{Shrinks}
use Rattle.esr_core.specs.Ids.{OpIds, InTerm}

-- a shard's ticket that is out has its op, and in it the shard that it works on, with the place of its files
pub record ShardTracked (ops : FinMap nat_cmp Op) (k : ℕ) (t : Ticket) (index number : ℕ) : Type 0 where
  pub op : Op
  pub op_there : fin.get ops t.op ≡ Some op
  pub uuid_is : t.uuid ≡ op.uuid
  pub source_is : t.source ≡ op.source
  pub s : ShardWork
  pub s_there : Has op.shards s
  pub state : s.state ≡ Out k
  pub index_is : s.ref.id ≡ index
  pub number_is : s.number ≡ number
  pub place_is : s.place ≡ t.place
  pub name_is : s.ref.name ≡ t.name

-- a finalization of the present term that is out and hasn't settled has its op, whose shards are done, and a copy of the safe root
pub record FinalTracked (root : RootData) (ops : FinMap nat_cmp Op) (t : Ticket) (info : SnapInfo) (results : List ShardResult) : Type 0 where
  pub op : Op
  pub op_there : fin.get ops t.op ≡ Some op
  pub done : AllDone op.shards results
  pub goes : Goes op
  pub uuid_is : t.uuid ≡ op.uuid
  pub info_is : info ≡ info_of op results
  pub root_is : t.root ≡ root

-- a drop of the present term that is out: its op is stopped, and no ticket of its shards is out
pub record DropTracked (ops : FinMap nat_cmp Op) (deletes : FinMap nat_cmp Deletion) (tickets : FinMap nat_cmp Ticket) (t : Ticket) : Type 0 where
  pub stopped : (op : Op) → fin.get ops t.op ≡ Some op → Stopped op
  pub idle : (k : ℕ) (u : Ticket) → fin.get tickets k ≡ Some u → u.out ≡ true → IsShard u.work → u.op ≢ t.op
  -- where it is of a delete, that has failed
  pub failed : (x : Deletion) → fin.get deletes t.op ≡ Some x → x.failed ≡ true

-- the new root has nothing that the old one hasn't, its generations aside, and all its ids lie below the next one
pub record IsWithin (root new : RootData) (next : ℕ) : Type 0 where
  pub shrinks : Shrinks root new
  pub below : RootIds new next

-- the ticket of a delete or cleanup of the present term that is out and hasn't settled has its op, a copy of the safe root, and a root within it once it has its plan
pub record DeleteTracked (root : RootData) (deletes : FinMap nat_cmp Deletion) (next : ℕ) (t : Ticket) (plan : Option Swap) : Type 0 where
  pub x : Deletion
  pub there : fin.get deletes t.op ≡ Some x
  pub unfailed : x.failed ≡ false
  pub root_is : t.root ≡ root
  pub planned : (s : Swap) → plan ≡ Some s → IsWithin root s.root next

-- a cleanup's ticket of the present term that is out has its op, also once it has settled, and no other ticket has it
pub record CleanTracked (term : ℕ) (deletes : FinMap nat_cmp Deletion) (tickets : FinMap nat_cmp Ticket) (k : ℕ) (t : Ticket) : Type 0 where
  pub x : Deletion
  pub there : fin.get deletes t.op ≡ Some x
  pub cleans : x.clean ≡ true
  pub unfailed : x.failed ≡ false
  pub alone : (j : ℕ) (u : Ticket) (uuids : List ℕ) (plan : Option Swap) → fin.get tickets j ≡ Some u → u.out ≡ true → u.term ≡ term → u.work ≡ Deleting uuids plan → u.op ≡ t.op → j ≡ k

-- the op of a ticket is a cleanup exactly where the ticket is a cleanup's
pub record ModesTracked (term : ℕ) (deletes : FinMap nat_cmp Deletion) (tickets : FinMap nat_cmp Ticket) : Type 0 where
  pub modes : (k : ℕ) (t : Ticket) (uuids : List ℕ) (plan : Option Swap) → fin.get tickets k ≡ Some t → t.work ≡ Deleting uuids plan → (x : Deletion) → fin.get deletes t.op ≡ Some x → x.clean ≡ t.clean
  pub cleaning : (k : ℕ) (t : Ticket) → fin.get tickets k ≡ Some t → t.out ≡ true → t.term ≡ term → t.clean ≡ true → CleanTracked term deletes tickets k t

-- two references to indices have one id exactly where they have one name
pub record IsOneIndex (a : Bytes) (i : ℕ) (b : Bytes) (j : ℕ) : Type 0 where
  pub one_name : i ≡ j → a ≡ b
  pub one_id : a ≡ b → i ≡ j

-- the names and ids of a root and of the open ops
pub record Named (root : RootData) (ops : FinMap nat_cmp Op) (next : ℕ) : Type 0 where
  -- no open op has the name or uuid of a listed snapshot, or of another op
  pub unlisted : (o : ℕ) (op : Op) (s : RootSnap) → fin.get ops o ≡ Some op → Has root.snapshots s → (s.name ≢ op.name) × (s.uuid ≢ op.uuid)
  pub apart : (o p : ℕ) (a b : Op) → fin.get ops o ≡ Some a → fin.get ops p ≡ Some b → o ≢ p → (a.name ≢ b.name) × (a.uuid ≢ b.uuid)
  -- its uuid is in no index of the root
  pub unused : (o : ℕ) (op : Op) (x : RootIndex) → fin.get ops o ≡ Some op → Has root.indices x → Has x.snapshots op.uuid → ⊥
  -- one id to each index name, its own
  pub indices : (o p : ℕ) (a b : Op) (r q : IndexRef) → fin.get ops o ≡ Some a → fin.get ops p ≡ Some b → Has a.indices r → Has b.indices q → IsOneIndex r.name r.id q.name q.id
  pub once : (o : ℕ) (op : Op) (r q : IndexRef) → fin.get ops o ≡ Some op → Has op.indices r → Has op.indices q → r.id ≡ q.id → r ≡ q
  pub rooted : (o : ℕ) (op : Op) (r : IndexRef) (x : RootIndex) → fin.get ops o ≡ Some op → Has op.indices r → Has root.indices x → IsOneIndex r.name r.id x.name x.id
  -- also among the indices of the root
  pub root_indices : (x y : RootIndex) → Has root.indices x → Has root.indices y → IsOneIndex x.name x.id y.name y.id
  -- its shards are those of its indices
  pub shards : (o : ℕ) (op : Op) → fin.get ops o ≡ Some op → map (λ (s : ShardWork). (s.ref, s.number)) op.shards ≡ places op.indices
  -- each of them stands once, and one that is done has a result of its own
  pub distinct : (o : ℕ) (op : Op) (s z : ShardWork) → fin.get ops o ≡ Some op → Has op.shards s → Has op.shards z → s.ref.id ≡ z.ref.id → s.number ≡ z.number → s ≡ z
  pub results : (o : ℕ) (op : Op) (s : ShardWork) (r : ShardResult) → fin.get ops o ≡ Some op → Has op.shards s → s.state ≡ Done r → (r.index ≡ s.ref.id) × (r.shard ≡ s.number)
  -- all ids lie below the next one
  pub below : (o : ℕ) (op : Op) → fin.get ops o ≡ Some op → OpIds next op
  pub root_below : RootIds root next

pub record Tracked (w : World) : Type 0 where
  pub numbers : (o : ℕ) (op : Op) → fin.get w.ops o ≡ Some op → o < w.next_op
  pub delete_numbers : (d : ℕ) (x : Deletion) → fin.get w.deletes d ≡ Some x → d < w.next_op
  pub apart : (o : ℕ) (op : Op) (x : Deletion) → fin.get w.ops o ≡ Some op → fin.get w.deletes o ≡ Some x → ⊥
  pub tickets : (k : ℕ) (t : Ticket) → fin.get w.tickets k ≡ Some t → (k < w.next_ticket) × (t.term ≤ w.term) × (t.first + t.drawn ≤ w.next_id)
  -- its op is or was open
  pub begun : (k : ℕ) (t : Ticket) → fin.get w.tickets k ≡ Some t → t.op < w.next_op
  pub first_ticket : 1 ≤ w.next_ticket
  pub shards : (k : ℕ) (t : Ticket) (index number : ℕ) → fin.get w.tickets k ≡ Some t → t.out ≡ true → t.work ≡ Shard index number → ShardTracked w.ops k t index number
  -- and each shard that is out has its ticket
  pub held : (o : ℕ) (op : Op) (s : ShardWork) (k : ℕ) → fin.get w.ops o ≡ Some op → Has op.shards s → s.state ≡ Out k → IsHeldBy w.tickets o s k
  pub finals : (k : ℕ) (t : Ticket) (info : SnapInfo) (results : List ShardResult) (made : Command) → fin.get w.tickets k ≡ Some t → t.out ≡ true → t.settled ≡ false → t.term ≡ w.term
      → t.work ≡ Finalize info results made → FinalTracked w.root w.ops t info results
  pub drops : (k : ℕ) (t : Ticket) → fin.get w.tickets k ≡ Some t → t.out ≡ true → t.term ≡ w.term → t.work ≡ Drop → DropTracked w.ops w.deletes w.tickets t
  pub deleting : (k : ℕ) (t : Ticket) (uuids : List ℕ) (plan : Option Swap) → fin.get w.tickets k ≡ Some t → t.out ≡ true → t.settled ≡ false → t.term ≡ w.term → t.work ≡ Deleting uuids plan
      → DeleteTracked w.root w.deletes w.next_id t plan
  pub deletions : ModesTracked w.term w.deletes w.tickets
  pub one_swap : (j k : ℕ) → SwapIsOut w.tickets w.term j → SwapIsOut w.tickets w.term k → j ≡ k
  pub named : Named w.root w.ops w.next_id
  pub in_term : InTerm w
