-- Ids lie below the next one, and no doomed name has one that an open op or a shard ticket out has.
use Rattle.std.specs.Prelude.{◌≡◌, ℕ, suc, ◌+◌, ◌<◌, ◌≤◌, true, List, Some}
use Rattle.std.specs.Ordering.{nat_cmp}
use Rattle.std.specs.FinMap.{FinMap}
use Rattle.std.specs.FinMap as fin
use Rattle.esr_model.specs.Names.{BlobName, Root, Latest, Snap, Meta, IndexMeta, ShardSnap, ShardIndex, File, Part, TestMaster, TestNode}
use Rattle.esr_model.specs.Values.{Bytes, IndexRef, RootData, ShardResult, Formats}
use Rattle.esr_model.specs.Shelf.{Shelved}
use Rattle.esr_model.specs.Kept.{first_id, IdsBelow, RootIds}
use Rattle.esr_model.specs.Cleanup.{names_listed}
use Rattle.esr_model.specs.Image.{Blobs, Has, Present}
use Rattle.esr_core.specs.World.{World, Op, Deletion, ShardWork, Done, Shard, Ticket, Swap, swap}
use Rattle.esr_core.specs.Ready.{IsShard}
use Rattle.esr_core.specs.Steps.{Drew}
use Rattle.esr_core.specs.Written.{Written}
use Rattle.esr_core.specs.Texts.{Texted}
use Rattle.esr_core.specs.Queue.{Lawful}
use Rattle.esr_core.specs.Pruning.{PruneLaws}

-- the name has this uuid of a snapshot
abbrev pub OfUuid : BlobName → ℕ → Type 0
OfUuid (Root n) id = ⊥
OfUuid Latest id = ⊥
OfUuid (Snap u) id = u ≡ id
OfUuid (Meta u) id = u ≡ id
OfUuid (IndexMeta i u) id = u ≡ id
OfUuid (ShardSnap i s u) id = u ≡ id
OfUuid (ShardIndex i s g) id = ⊥
OfUuid (File i s x) id = ⊥
OfUuid (Part i s x p) id = ⊥
OfUuid (TestMaster v) id = ⊥
OfUuid (TestNode v n) id = ⊥

-- the name has this id of a generation or a file
abbrev pub OfId : BlobName → ℕ → Type 0
OfId (Root n) id = ⊥
OfId Latest id = ⊥
OfId (Snap u) id = ⊥
OfId (Meta u) id = ⊥
OfId (IndexMeta i u) id = ⊥
OfId (ShardSnap i s u) id = ⊥
OfId (ShardIndex i s g) id = g ≡ id
OfId (File i s x) id = x ≡ id
OfId (Part i s x p) id = x ≡ id
OfId (TestMaster v) id = ⊥
OfId (TestNode v n) id = ⊥

pub record TicketIds (f : Formats) (c : ℕ) (t : Ticket) : Type 0 where
  pub drawn : t.first + t.drawn ≤ c
  pub uuid : IsShard t.work → t.uuid < c
  pub index : (i k : ℕ) → t.work ≡ Shard i k → i < c
  pub base : (b : ℕ) → t.base ≡ Some b → b < c
  pub copy : RootIds t.root c
  pub own : (s : Swap) → swap f t ≡ Some s → (name : BlobName) (b : Bytes) → Has s.own (name, b) → IdsBelow name c
  pub root : (s : Swap) → swap f t ≡ Some s → RootIds s.root c
  -- and of what it listed
  pub listed : (name : BlobName) → Has (names_listed f t.listed) name → IdsBelow name c

pub record OpIds (c : ℕ) (op : Op) : Type 0 where
  pub uuid : op.uuid < c
  pub indices : (r : IndexRef) → Has op.indices r → r.id < c
  pub done : (s : ShardWork) (r : ShardResult) → Has op.shards s → s.state ≡ Done r → r.generation < c

pub record DoomedIds (c : ℕ) (ops : FinMap nat_cmp Op) (tickets : FinMap nat_cmp Ticket) (name : BlobName) : Type 0 where
  pub below : IdsBelow name c
  pub uuids : (o : ℕ) (op : Op) → fin.get ops o ≡ Some op → OfUuid name op.uuid → ⊥
  pub ids : (k : ℕ) (t : Ticket) → fin.get tickets k ≡ Some t → t.out ≡ true → IsShard t.work → (id : ℕ) → Drew t id → OfId name id → ⊥

pub record Ids (f : Formats) (c : ℕ) (store : Blobs) (names : List BlobName) (safe_root : RootData) (open_ops : FinMap nat_cmp Op) (all_tickets : FinMap nat_cmp Ticket) : Type 0 where
  pub blobs : (name : BlobName) → Present f store name → IdsBelow name c
  pub doomed : (name : BlobName) → Has names name → DoomedIds c open_ops all_tickets name
  pub root : RootIds safe_root c
  pub ops : (o : ℕ) (op : Op) → fin.get open_ops o ≡ Some op → OpIds c op
  pub tickets : (k : ℕ) (t : Ticket) → fin.get all_tickets k ≡ Some t → TicketIds f c t

abbrev pub IdsIn : Formats → World → Type 0
IdsIn f w = Ids f w.next_id w.blobs w.doomed w.root w.ops w.tickets

-- the uuids that open deletes name lie below the next id
abbrev pub DeletionIds : ℕ → FinMap nat_cmp Deletion → Type 0
DeletionIds c deletes = (d : ℕ) (x : Deletion) → fin.get deletes d ≡ Some x → (u : ℕ) → Has x.uuids u → u < c

-- the next id is one of the present term
pub record InTerm (w : World) : Type 0 where
  pub from : first_id w.term ≤ w.next_id
  pub below : w.next_id < first_id (suc w.term)

-- the law whole
pub record Law (f : Formats) (w : World) (shelf : List Shelved) : Type 0 where
  pub lawful : Lawful f w shelf
  pub ids : IdsIn f w
  pub deletions : DeletionIds w.next_id w.deletes
  pub in_term : InTerm w
  pub written : Written f w.blobs w.tickets
  pub texts : Texted f w.blobs w.ops w.tickets
  pub pruned : PruneLaws f w.blobs w.doomed w.safe w.term w.tickets
