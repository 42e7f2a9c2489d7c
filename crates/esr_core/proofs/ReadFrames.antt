-- What a turn that reads nothing leaves of restores, and of what they need: the listed snapshots, the deletes and the blobs.
use Rattle.std.proofs.Common.{◌≡◌, ℕ, ◌≤◌, List, [], ◌++◌, Bool, true, false, Some, None, refl, sym, ap, ◌∙◌, subst, inl, inr, nat_cmp, le_refl}
use Rattle.std.specs.Prelude.{if◌then◌else◌}
use Rattle.std.specs.FinMap.{FinMap}
use Rattle.std.specs.FinMap as fin
use Rattle.std.proofs.lemmas.Option.{same_Some}
use Rattle.esr_core.specs.Laws.NumberMaps.{was_in, left_in}
use Rattle.esr_model.specs.Names.{BlobName}
use Rattle.esr_model.specs.Values.{Bytes, Formats}
use Rattle.esr_model.specs.Shelf.{Shelved, names_uuid}
use Rattle.esr_model.specs.Image.{Blobs, At, IsStored}
use Rattle.esr_core.specs.World.{World, Deletion, Restoring, Ticket, Swap}
use Rattle.esr_core.specs.Steps.{PutsLatest}
use Rattle.esr_core.specs.Queue.{Lists}
use Rattle.esr_core.specs.Ids.{Law}
use Rattle.esr_core.specs.Turns.{SettleDelete, Turn, Stays, Commits, CommitFails, Finds, Raises, Latests, Fetches, SettlesFinal, SettlesDelete, Elects, TakesShard, TakesFinal, TakesDrop, TakesDelete, TakesCleanup, AsksCleanup, CleanDrops, DrawsShard, DrawsPlan, Dones, Ending, Fails, FailsDelete, Drops, AsksCreate, AsksDelete, Merges, Removing, Pages, Deposes, Besides, Tests, TestTurn, DrawsTest, AddsTest, RemovesTests}
use Rattle.esr_core.specs.Laws.BlobFrames.{at_kept, at_back}
use Rattle.esr_core.specs.Laws.ChangeLaws.{one_more as up}
use Rattle.esr_core.proofs.DeletesHold.{none_both}
use Rattle.esr_core.proofs.Settling.{final_keeps, delete_keeps}

-- an open restore of w reads the snapshot
pub record IsRestored (w : World) (u : ℕ) : Type 0 where
  pub o : ℕ
  pub r : Restoring
  pub there : fin.get w.restores o ≡ Some r
  pub uuid_is : r.uuid ≡ u

abbrev pub Spares : FinMap nat_cmp Deletion → ℕ → Type 0
Spares deletes u = (d : ℕ) (x : Deletion) → fin.get deletes d ≡ Some x → names_uuid x.uuids u ≡ false

-- a blob that is there before and after has its bytes
abbrev pub OneContent : Formats → Blobs → Blobs → Type 0
OneContent f blobs now = (name : BlobName) (a b : Bytes) → At f blobs name a → At f now name b → a ≡ b

pub record Frame (f : Formats) (w new : World) : Type 0 where
  pub restores : new.restores ≡ w.restores
  pub readers : new.readers ≡ w.readers
  pub next_op : w.next_op ≤ new.next_op
  pub next_ticket : w.next_ticket ≤ new.next_ticket
  pub listed : (u : ℕ) → IsRestored w u → Spares w.deletes u → Lists w.root u → Lists new.root u
  pub spared : (u : ℕ) → IsRestored w u → Spares w.deletes u → Spares new.deletes u
  pub blobs : OneContent f w.blobs new.blobs

one : (f : Formats) (blobs : Blobs) → OneContent f blobs blobs
one f blobs name a b p q = same_Some a b (sym p.0 ∙ q.0)

-- the root stays
rooted : (f : Formats) (w new v : World) → new ≡ v → v.restores ≡ w.restores → v.readers ≡ w.readers → w.next_op ≤ v.next_op → w.next_ticket ≤ v.next_ticket → v.root ≡ w.root
    → ((u : ℕ) → IsRestored w u → Spares w.deletes u → Spares v.deletes u) → OneContent f w.blobs v.blobs → Frame f w new
rooted f w new v e restores readers ops tickets root deletes blobs =
    subst (Frame f w) (sym e) (record {
      restores = restores;
      readers = readers;
      next_op = ops;
      next_ticket = tickets;
      listed = λ u is spared has. subst (λ r. Lists r u) (sym root) has;
      spared = deletes;
      blobs = blobs;
    })

-- the root and the deletes stay
blobbed : (f : Formats) (w new v : World) → new ≡ v → v.restores ≡ w.restores → v.readers ≡ w.readers → w.next_op ≤ v.next_op → w.next_ticket ≤ v.next_ticket → v.root ≡ w.root → v.deletes ≡ w.deletes
    → OneContent f w.blobs v.blobs → Frame f w new
blobbed f w new v e restores readers ops tickets root deletes blobs = rooted f w new v e restores readers ops tickets root (λ u is spared. subst (λ x. Spares x u) (sym deletes) spared) blobs

-- and the blobs
still : (f : Formats) (w new v : World) → new ≡ v → v.restores ≡ w.restores → v.readers ≡ w.readers → w.next_op ≤ v.next_op → w.next_ticket ≤ v.next_ticket → v.root ≡ w.root → v.deletes ≡ w.deletes → v.blobs ≡ w.blobs
    → Frame f w new
still f w new v e restores readers ops tickets root deletes blobs = blobbed f w new v e restores readers ops tickets root deletes (subst (OneContent f w.blobs) (sym blobs) (one f w.blobs))

-- the root and the blobs stay
deleted : (f : Formats) (w new v : World) → new ≡ v → v.restores ≡ w.restores → v.readers ≡ w.readers → w.next_op ≤ v.next_op → w.next_ticket ≤ v.next_ticket → v.root ≡ w.root
    → ((u : ℕ) → IsRestored w u → Spares w.deletes u → Spares v.deletes u) → v.blobs ≡ w.blobs → Frame f w new
deleted f w new v e restores readers ops tickets root deletes blobs = rooted f w new v e restores readers ops tickets root deletes (subst (OneContent f w.blobs) (sym blobs) (one f w.blobs))

-- a blob more, under a name that was absent
added : (f : Formats) (blobs : Blobs) (name : BlobName) (bytes : Bytes) → IsStored f name → fin.get blobs (f.names.text name) ≡ None → OneContent f blobs (fin.insert blobs (f.names.text name) bytes)
added f blobs name bytes named absent m a b p q = same_Some a b (sym (at_kept f blobs name bytes named absent [] m a p).0 ∙ q.0)

put : (f : Formats) (blobs now : Blobs) → PutsLatest f blobs now → OneContent f blobs now
put f blobs now p m a b x y = same_Some a b (sym x.0 ∙ (at_back f blobs now p m b y).0)

fewer : (deletes : FinMap nat_cmp Deletion) (o u : ℕ) → Spares deletes u → Spares (fin.remove deletes o) u
fewer deletes o u spared d x e = spared d x (left_in deletes o d x e).1

with_one : (deletes : FinMap nat_cmp Deletion) (o u : ℕ) (v : Deletion) → names_uuid v.uuids u ≡ false → Spares deletes u → Spares (fin.insert deletes o v) u
with_one deletes o u v mine spared d x e = elim (was_in deletes o v d x e) [ inl h ↦ subst (λ (y : Deletion). names_uuid y.uuids u ≡ false) h.1 mine | inr h ↦ spared d x h.1 ]

-- it reads nothing
abbrev pub IsQuiet : (f : Formats) (w new : World) → Turn f w new → Type 0
IsQuiet f w new (Deposes m v h e) = ⊥
IsQuiet f w new (Besides m v h r) = ⊥
IsQuiet f w new turn = Unit {0}

settled_delete : (f : Formats) (w : World) (shelf : List Shelved) → Law f w shelf → (k n : ℕ) (t : Ticket) (s : Swap) (new : World) → SettleDelete f w k n t s new → Frame f w new
settled_delete f w shelf l k n t s new h =
    subst (Frame f w) (sym h.new_is) (record {
      restores = refl;
      readers = refl;
      next_op = le_refl w.next_op;
      next_ticket = le_refl w.next_ticket;
      listed = λ u is spared has. delete_keeps f w shelf l.lawful k n t s new h u spared has;
      spared = λ u is spared. either h.cleans u spared;
      blobs = one f w.blobs;
    })
  where
    either : (b : Bool) (u : ℕ) → Spares w.deletes u → Spares (if b then w.deletes else fin.remove w.deletes t.op) u
    either true u spared = spared
    either false u spared = fewer w.deletes t.op u spared

tested : (f : Formats) (w new : World) → TestTurn f w new → Frame f w new
tested f w new (DrawsTest m d) = still f w m _ d.new_is refl refl (le_refl w.next_op) (le_refl w.next_ticket) refl refl refl
tested f w new (AddsTest m name bytes a) = blobbed f w m _ a.new_is refl refl (le_refl w.next_op) (le_refl w.next_ticket) refl refl (added f w.blobs name bytes a.named a.absent)
tested f w new (RemovesTests m names r) = blobbed f w m _ r.new_is refl refl (le_refl w.next_op) (le_refl w.next_ticket) refl refl (λ name a b x y. same_Some a b (sym x.0 ∙ r.removes.left (f.names.text name) b y.0))

pub frame : (f : Formats) (w new : World) (shelf : List Shelved) → Law f w shelf → (turn : Turn f w new) → IsQuiet f w new turn → Frame f w new
frame f w new shelf l (Stays m e) q = still f w m w e refl refl (le_refl w.next_op) (le_refl w.next_ticket) refl refl refl
frame f w new shelf l (Commits m k name h) q = blobbed f w m _ h.new_is refl refl (le_refl w.next_op) (le_refl w.next_ticket) refl refl (added f w.blobs name h.bytes h.named h.absent)
frame f w new shelf l (CommitFails m k name h) q = elim h.leaves [
  | inl e ↦ still f w m w e refl refl (le_refl w.next_op) (le_refl w.next_ticket) refl refl refl
  | inr e ↦ blobbed f w m _ e.1 refl refl (le_refl w.next_op) (le_refl w.next_ticket) refl refl (added f w.blobs name h.bytes h.named e.0)
]
frame f w new shelf l (Finds m k name h) q = still f w m _ h.new_is refl refl (le_refl w.next_op) (le_refl w.next_ticket) refl refl refl
frame f w new shelf l (Raises m k h) q = still f w m _ h.new_is refl refl (le_refl w.next_op) (le_refl w.next_ticket) refl refl refl
frame f w new shelf l (Latests m k h) q = blobbed f w m _ h.tries.new_is refl refl (le_refl w.next_op) (le_refl w.next_ticket) refl refl (put f w.blobs h.now h.puts)
frame f w new shelf l (Fetches m k name h) q = still f w m _ h.new_is refl refl (le_refl w.next_op) (le_refl w.next_ticket) refl refl refl
frame f w new shelf l (SettlesFinal m k n t s h) q =
    subst (Frame f w) (sym h.new_is) (record {
      restores = refl;
      readers = refl;
      next_op = le_refl w.next_op;
      next_ticket = le_refl w.next_ticket;
      listed = λ u is spared has. let (z, there, uuid) = has in (z, final_keeps f w shelf l.lawful k n t s m h z there, uuid);
      spared = λ u is spared. fewer w.deletes t.op u spared;
      blobs = one f w.blobs;
    })
frame f w new shelf l (SettlesDelete m k n t s h) q = settled_delete f w shelf l k n t s m h
frame f w new shelf l (Elects m h) q = still f w m _ h.new_is refl refl (le_refl w.next_op) (le_refl w.next_ticket) refl refl refl
frame f w new shelf l (TakesShard m o op s base h) q = still f w m _ h.new_is refl refl (le_refl w.next_op) (up w.next_ticket) refl refl refl
frame f w new shelf l (TakesFinal m o op results h) q = still f w m _ h.new_is refl refl (le_refl w.next_op) (up w.next_ticket) refl refl refl
frame f w new shelf l (TakesDrop m o h) q = still f w m _ h.new_is refl refl (le_refl w.next_op) (up w.next_ticket) refl refl refl
frame f w new shelf l (TakesDelete m n x h) q = still f w m _ h.new_is refl refl (le_refl w.next_op) (up w.next_ticket) refl refl refl
frame f w new shelf l (TakesCleanup m n x h) q = still f w m _ h.new_is refl refl (le_refl w.next_op) (up w.next_ticket) refl refl refl
frame f w new shelf l (DrawsShard m k n h) q = still f w m _ h.new_is refl refl (le_refl w.next_op) (le_refl w.next_ticket) refl refl refl
frame f w new shelf l (DrawsPlan m k n h) q = still f w m _ h.new_is refl refl (le_refl w.next_op) (le_refl w.next_ticket) refl refl refl
frame f w new shelf l (Dones m k r h) q = still f w m _ h.new_is refl refl (le_refl w.next_op) (le_refl w.next_ticket) refl refl refl
frame f w new shelf l (Ending m k h) q = still f w m _ h.new_is refl refl (le_refl w.next_op) (le_refl w.next_ticket) refl refl refl
frame f w new shelf l (Fails m k h) q = still f w m _ h.new_is refl refl (le_refl w.next_op) (le_refl w.next_ticket) refl refl refl
frame f w new shelf l (FailsDelete m k h) q = deleted f w m _ h.new_is refl refl (le_refl w.next_op) (le_refl w.next_ticket) refl (λ u is spared. with_one w.deletes h.t.op u (record h.x { failed = true }) (spared h.t.op h.x h.there) spared) refl
frame f w new shelf l (Drops m k h) q = deleted f w m _ h.new_is refl refl (le_refl w.next_op) (le_refl w.next_ticket) refl (λ u is spared. fewer w.deletes h.t.op u spared) refl
frame f w new shelf l (AsksCleanup m h) q = deleted f w m _ h.new_is refl refl (up w.next_op) (le_refl w.next_ticket) refl (λ u is spared. with_one w.deletes w.next_op u (record { uuids = []; clean = true; failed = false }) refl spared) refl
frame f w new shelf l (CleanDrops m k h) q = deleted f w m _ h.new_is refl refl (le_refl w.next_op) (le_refl w.next_ticket) refl (λ u is spared. fewer w.deletes h.t.op u spared) refl
frame f w new shelf l (AsksCreate m op h) q = still f w m _ h.new_is refl refl (up w.next_op) (le_refl w.next_ticket) refl refl refl
frame f w new shelf l (AsksDelete m uuids h) q =
    deleted f w m _ h.new_is refl refl (up w.next_op) (le_refl w.next_ticket) refl
    (λ u is spared. with_one w.deletes w.next_op u (record { uuids = uuids; clean = false; failed = false }) (ap (names_uuid uuids) (sym is.uuid_is) ∙ h.spares_restores is.o is.r is.there) spared) refl
frame f w new shelf l (Merges m uuids n h) q =
    deleted f w m _ h.new_is refl refl (le_refl w.next_op) (le_refl w.next_ticket) refl
    (λ u is spared. with_one w.deletes n u (record h.x { uuids = h.x.uuids ++ h.more }) (none_both h.x.uuids h.more u (spared n h.x h.there) (ap (names_uuid h.more) (sym is.uuid_is) ∙ h.spares_restores is.o is.r is.there)) spared) refl
frame f w new shelf l (Pages m k page h) q = still f w m _ h.new_is refl refl (le_refl w.next_op) (le_refl w.next_ticket) refl refl refl
frame f w new shelf l (Removing m k names h) q = blobbed f w m _ h.new_is refl refl (le_refl w.next_op) (le_refl w.next_ticket) refl refl (λ name a b x y. same_Some a b (sym x.0 ∙ h.removes.left (f.names.text name) b y.0))
frame f w new shelf l (Tests m t) q = tested f w m t
frame f w new shelf l turn q = absurd q
