-- What holds of open restores and their tickets over any container, also one that tells nothing.
use Rattle.std.specs.Prelude.{◌≡◌, ℕ, ◌<◌, ◌≤◌, true, Some}
use Rattle.std.specs.Ordering.{nat_cmp}
use Rattle.std.specs.FinMap.{FinMap}
use Rattle.std.specs.FinMap as fin
use Rattle.esr_model.specs.Names.{BlobName}
use Rattle.esr_model.specs.Values.{Has}
use Rattle.esr_core.specs.World.{World, Op, Deletion, BeingRead, RestoreShard, Restoring, Reader, Caller, Ticket}
use Rattle.esr_core.specs.Restores.{AreOnce, any_waits}

-- a ticket that is out has its restore, and in it the shard that it reads
pub record ReaderTracked (restores : FinMap nat_cmp Restoring) (k : ℕ) (q : Reader) : Type 0 where
  pub r : Restoring
  pub there : fin.get restores q.op ≡ Some r
  pub uuid_is : q.uuid ≡ r.uuid
  pub place_is : q.place ≡ r.place
  pub s : RestoreShard
  pub s_there : Has r.shards s
  pub state : s.state ≡ BeingRead k
  pub index_is : s.ref.id ≡ q.index
  pub number_is : s.number ≡ q.number
  pub name_is : s.ref.name ≡ q.name

-- the ticket reads the shard of the restore
pub record IsReadBy (readers : FinMap nat_cmp Reader) (o : ℕ) (s : RestoreShard) (k : ℕ) : Type 0 where
  pub q : Reader
  pub there : fin.get readers k ≡ Some q
  pub out : q.out ≡ true
  pub op_is : q.op ≡ o
  pub index_is : q.index ≡ s.ref.id
  pub number_is : q.number ≡ s.number

pub record RestoresTracked (next_op next_ticket : ℕ) (restores : FinMap nat_cmp Restoring) (all_readers : FinMap nat_cmp Reader) : Type 0 where
  pub first : 1 ≤ next_ticket
  pub numbers : (o : ℕ) (r : Restoring) → fin.get restores o ≡ Some r → o < next_op
  pub tickets : (k : ℕ) (q : Reader) → fin.get all_readers k ≡ Some q → (1 ≤ k) × (k < next_ticket)
  -- it ends with its last shard
  pub waiting : (o : ℕ) (r : Restoring) → fin.get restores o ≡ Some r → any_waits r.shards ≡ true
  pub readers : (k : ℕ) (q : Reader) → fin.get all_readers k ≡ Some q → q.out ≡ true → ReaderTracked restores k q
  -- and each shard that is being read has its ticket
  pub held : (o : ℕ) (r : Restoring) (s : RestoreShard) (k : ℕ) → fin.get restores o ≡ Some r → Has r.shards s → s.state ≡ BeingRead k → IsReadBy all_readers o s k
  -- a shard stands once
  pub distinct : (o : ℕ) (r : Restoring) (s z : RestoreShard) → fin.get restores o ≡ Some r → Has r.shards s → Has r.shards z → s.ref.id ≡ z.ref.id → s.number ≡ z.number → s ≡ z

-- a check or verification fetches each blob once, and so finds it once
pub record FetchesOnce (c : Caller) : Type 0 where
  pub fetched : AreOnce c.fetched
  pub found : AreOnce c.found
  pub from : (name : BlobName) → Has c.found name → Has c.fetched name

-- ops and tickets have numbers of their own
pub record RestoresApart (w : World) : Type 0 where
  pub ops : (o : ℕ) (r : Restoring) (op : Op) → fin.get w.restores o ≡ Some r → fin.get w.ops o ≡ Some op → ⊥
  pub deletes : (o : ℕ) (r : Restoring) (x : Deletion) → fin.get w.restores o ≡ Some r → fin.get w.deletes o ≡ Some x → ⊥
  pub tickets : (k : ℕ) (q : Reader) (t : Ticket) → fin.get w.readers k ≡ Some q → fin.get w.tickets k ≡ Some t → ⊥

pub record ReadTracked (w : World) : Type 0 where
  pub tracked : RestoresTracked w.next_op w.next_ticket w.restores w.readers
  pub apart : RestoresApart w
  pub once : FetchesOnce w.caller
  -- the id of a verification was drawn, and what it committed may be removed
  pub drawn : (v : ℕ) → w.caller.drawn ≡ Some v → v < w.next_id
  pub doomed : (name : BlobName) → Has w.caller.committed name → Has w.doomed name
