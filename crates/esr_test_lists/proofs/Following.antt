-- How many tickets more each change of the list of open ops gives.
use Rattle.std.proofs.Common.{ℕ, suc, ◌+◌, ◌≤◌, Bool, true, false, cond, List, Option, Some, None, arith}
use Rattle.std.specs.FinMap as fin
use Rattle.esr_model.specs.Values.{Bytes, Formats, ShardResult}
use Rattle.esr_core.specs.World.{World, Op, Deletion, ShardWork, ReadState, RestoreShard, Restoring, Reader, Ticket, Swap}
use Rattle.esr_core.specs.Entry.{Given, GivenShard, GivenFinalize, GivenRestore, GivenClone}
use Rattle.esr_core.specs.After.{shard_of, taken_by, taken_shard, taken_restore_shard, taken_restore, with_given, is_stale, settled_by, done_of, done_by, failed_of, failed_by, dropped_of, delete_failed_by, delete_failed, delete_settled_by, read_over, shard_over}
use Rattle.esr_core.specs.Deletes.{delete_merged, delete_by}
use Rattle.esr_core.specs.Restores.{restore_shard}
use Rattle.esr_core.specs.Steps.{with_ticket}

-- at most n tickets more were given
abbrev pub Follows : ℕ → World → World → Type 0
Follows n w v = v.next_ticket ≤ w.next_ticket + n

stays : (n : ℕ) (w : World) → Follows n w w
stays n w = omega arith

-- ---- a ticket is given

taken_one : (w : World) (o : ℕ) (op : Op) (base : Option ℕ) (s : Option ShardWork) → Follows 1 w (taken_shard w o op base s)
taken_one w o op base None = stays 1 w
taken_one w o op base (Some s) = omega arith

read_one : (w : World) (o : ℕ) (r : Restoring) (s : Option RestoreShard) → Follows 1 w (taken_restore_shard w o r s)
read_one w o r None = stays 1 w
read_one w o r (Some s) = omega arith

read_of : (w : World) (o index number : ℕ) (r : Option Restoring) → Follows 1 w (taken_restore w o index number r)
read_of w o index number None = stays 1 w
read_of w o index number (Some r) = read_one w o r (restore_shard r.shards index number)

pub taken : (f : Formats) (w : World) (o : ℕ) (g : Given) (op : Option Op) → Follows 1 w (taken_by f w o g op)
taken f w o (GivenShard index number base) (Some op) = taken_one w o op base (shard_of op.shards index number)
taken f w o (GivenShard index number base) None = stays 1 w
taken f w o (GivenFinalize info results) None = stays 1 w
taken f w o (GivenRestore index number uuid) op = read_of w o index number (fin.get w.restores o)
taken f w o (GivenClone index number source base) (Some op) = taken_one w o op base (shard_of op.shards index number)
taken f w o (GivenClone index number source base) None = stays 1 w
taken f w o g op = omega arith

-- ---- what units report

done_one : (w : World) (k : ℕ) (r : ShardResult) (t : Ticket) (x : Option Op) → Follows 0 w (done_by w k r t x)
done_one w k r t None = stays 0 w
done_one w k r t (Some op) = omega arith

pub dones : (w : World) (k : ℕ) (r : ShardResult) (o : Option Ticket) → Follows 0 w (done_of w k r o)
dones w k r None = stays 0 w
dones w k r (Some t) = done_one w k r t (fin.get w.ops t.op)

pub fails : (w : World) (k : ℕ) (o : Option Ticket) → Follows 0 w (failed_of w k o)
fails w k None = stays 0 w
fails w k (Some t) = either (is_stale w t t.work) (fin.get w.ops t.op)
  where
    either : (b : Bool) (x : Option Op) → Follows 0 w (cond b (with_ticket w k (record t { out = false })) (failed_by w k t x))
    either true x = omega arith
    either false None = stays 0 w
    either false (Some op) = omega arith

pub delete_fails : (w : World) (k : ℕ) (o : Option Ticket) → Follows 0 w (delete_failed w k o)
delete_fails w k None = stays 0 w
delete_fails w k (Some t) = either (is_stale w t t.work) (fin.get w.deletes t.op)
  where
    either : (b : Bool) (x : Option Deletion) → Follows 0 w (cond b (with_ticket w k (record t { out = false })) (delete_failed_by w k t x))
    either true x = omega arith
    either false None = stays 0 w
    either false (Some x) = omega arith

pub changes : (w : World) (k : ℕ) (g : Ticket → Ticket) (o : Option Ticket) → Follows 0 w (with_given w k g o)
changes w k g None = stays 0 w
changes w k g (Some t) = omega arith

pub raises : (w : World) (k : ℕ) (g : Ticket → Ticket) (o : Option Ticket) → Follows 0 w (record (with_given w k g o) { pending = suc w.pending })
raises w k g None = omega arith
raises w k g (Some t) = omega arith

pub settles : (f : Formats) (w : World) (k : ℕ) (t : Ticket) (s : Option Swap) (n : Option ℕ) → Follows 0 w (settled_by f w k t s n)
settles f w k t (Some s) (Some n) = omega arith
settles f w k t s n = stays 0 w

pub delete_settles : (f : Formats) (w : World) (k : ℕ) (t : Ticket) (s : Option Swap) (n : Option ℕ) → Follows 0 w (delete_settled_by f w k t s n)
delete_settles f w k t (Some s) (Some n) = omega arith
delete_settles f w k t s n = stays 0 w

pub drops : (w : World) (k : ℕ) (o : Option Ticket) → Follows 0 w (dropped_of w k o)
drops w k None = stays 0 w
drops w k (Some t) = omega arith

read_end : (w : World) (k : ℕ) (state : ReadState) (q : Reader) (r : Option Restoring) → Follows 0 w (shard_over w k state q r)
read_end w k state q None = stays 0 w
read_end w k state q (Some r) = omega arith

pub reads : (w : World) (k : ℕ) (state : ReadState) (q : Option Reader) → Follows 0 w (read_over w k state q)
reads w k state None = stays 0 w
reads w k state (Some q) = read_end w k state q (fin.get w.restores q.op)

-- ---- a delete is asked for

grows : (w : World) (names : List Bytes) (d : ℕ) (o : Option Deletion) → Follows 0 w (delete_merged w names d o)
grows w names d None = stays 0 w
grows w names d (Some x) = omega arith

pub asks : (w : World) (names : List Bytes) (waiting running : Option ℕ) → Follows 0 w (delete_by w names waiting running)
asks w names (Some d) running = grows w names d (fin.get w.deletes d)
asks w names None (Some d) = stays 0 w
asks w names None None = omega arith
