-- Where a step adds no blob but a test blob, what is free stays free.
use Rattle.std.proofs.Common.{◌≡◌, ◌≢◌, ◌⊎◌, ℕ, List, true, Some, None, refl, sym, ◌∙◌, subst, inl, inr}
use Rattle.std.specs.Ordering.{nat_cmp}
use Rattle.std.specs.FinMap.{FinMap}
use Rattle.std.specs.FinMap as fin
use Rattle.std.proofs.lemmas.Option.{none-some}
use Rattle.esr_model.specs.Names.{BlobName, Root, ShardSnap, ShardIndex}
use Rattle.esr_model.specs.Values.{Bytes, Has, SnapList, ShardFiles, Formats}
use Rattle.esr_model.specs.Image.{Blobs, At, Present, Reads}
use Rattle.esr_core.specs.World.{World, Op, ShardWork, Pending, Shard, Deleting, Ticket, Swap, Caller}
use Rattle.esr_core.specs.Generations.{IsLive}
use Rattle.esr_core.specs.Ready.{Waits}
use Rattle.esr_core.specs.Restores.{IsTestOf}
use Rattle.esr_core.specs.Steps.{Drew, ShardCommits}
use Rattle.esr_core.specs.Entry.{Entry, Moment}
use Rattle.esr_core.specs.After.{stepped, heard}
use Rattle.esr_quiet.specs.Free.{IsInUse, AreOwnTests, Free}
use Rattle.esr_quiet.proofs.FreeNames.{IsDrawnIndex, drawn_like, index_no_test, commits_no_test}

-- what the plan of a delete's ticket writes are indices of shards, under ids that the ticket drew
abbrev pub ArePlansDrawn : FinMap nat_cmp Ticket → Type 0
ArePlansDrawn tickets = (k : ℕ) (t : Ticket) (uuids : List ℕ) (s : Swap) (name : BlobName) (bytes : Bytes) → fin.get tickets k ≡ Some t → t.work ≡ Deleting uuids (Some s) → Has s.own (name, bytes) → IsDrawnIndex t name

-- no id was drawn by two tickets
abbrev pub OwnIds : FinMap nat_cmp Ticket → Type 0
OwnIds tickets = (j k id : ℕ) (t u : Ticket) → fin.get tickets j ≡ Some t → fin.get tickets k ≡ Some u → Drew t id → Drew u id → j ≡ k

-- what a verification wrote and hasn't removed stands
abbrev pub IsStanding : Formats → Blobs → Caller → Type 0
IsStanding f blobs caller = (name : BlobName) (bytes : Bytes) → Has caller.wrote (name, bytes) → (Has caller.removed name → ⊥) → At f blobs name bytes

-- what it wrote is test blobs, under the id that it drew
abbrev pub WroteTests : Caller → Type 0
WroteTests caller = (name : BlobName) (bytes : Bytes) → Has caller.wrote (name, bytes) → (id : ℕ) × IsTestOf id name × (caller.drawn ≡ Some id)

abbrev pub Tests : Formats → Blobs → Caller → Type 0
Tests f blobs caller = AreOwnTests f blobs caller × IsStanding f blobs caller × WroteTests caller

pub record IsFree (f : Formats) (w : World) : Type 0 where
  pub free : Free f w
  pub own_ids : OwnIds w.tickets
  pub drawn : ArePlansDrawn w.tickets
  pub wrote_tests : WroteTests w.caller

-- each ticket raised a root of its own
abbrev pub OwnRoots : FinMap nat_cmp Ticket → Type 0
OwnRoots tickets = (j k n : ℕ) (t u : Ticket) → fin.get tickets j ≡ Some t → fin.get tickets k ≡ Some u → t.raised ≡ Some n → u.raised ≡ Some n → j ≡ k

-- and drew ids of its own
abbrev pub Own : FinMap nat_cmp Ticket → Type 0
Own tickets = OwnRoots tickets × OwnIds tickets

pub own_all : (f : Formats) (w : World) → IsFree f w → Own w.tickets
own_all f w l = (l.free.own_root, l.own_ids)

-- a plan that was there, with the ids for it
pub record IsSamePlan (t v : Ticket) (uuids : List ℕ) (s : Swap) : Type 0 where
  pub work : t.work ≡ Deleting uuids (Some s)
  pub drew : (id : ℕ) → Drew t id → Drew v id

-- a plan that is new: no blob has a name of its indices
abbrev pub IsNewPlan : Formats → World → Ticket → Swap → Type 0
IsNewPlan f w v s = (name : BlobName) (bytes : Bytes) → Has s.own (name, bytes) → IsDrawnIndex v name × (Present f w.blobs name → ⊥)

-- A ticket that goes on: what it may commit or has raised was so before, or no blob has that name.
pub record Follows (f : Formats) (w : World) (t v : Ticket) : Type 0 where
  pub work : (index number : ℕ) → v.work ≡ Shard index number → t.work ≡ Shard index number
  pub plans : (uuids : List ℕ) (s : Swap) → v.work ≡ Deleting uuids (Some s) → IsSamePlan t v uuids s ⊎ IsNewPlan f w v s
  pub base : v.base ≡ t.base
  pub out : v.out ≡ true → t.out ≡ true
  pub noted : (name : BlobName) → Has t.noted name → Has v.noted name
  pub commits : (name : BlobName) → ShardCommits v name → ShardCommits t name ⊎ (Present f w.blobs name → ⊥)
  pub raised : (n : ℕ) → v.raised ≡ Some n → (t.raised ≡ Some n) ⊎ (Present f w.blobs (Root n) → ⊥)

-- a new ticket: no blob has a name that it may commit, and its base is live
pub record IsNewTicket (f : Formats) (w : World) (v : Ticket) : Type 0 where
  pub commits : (name : BlobName) → ShardCommits v name → Present f w.blobs name → ⊥
  pub unraised : v.raised ≡ None
  pub base : (index number g : ℕ) → v.work ≡ Shard index number → v.base ≡ Some g → IsLive w.root w.ops index number g
  pub no_plan : (uuids : List ℕ) (s : Swap) → v.work ≡ Deleting uuids (Some s) → ⊥

abbrev pub Came : Formats → World → ℕ → Ticket → Type 0
Came f w k v = ((t : Ticket) × (fin.get w.tickets k ≡ Some t) × Follows f w t v) ⊎ IsNewTicket f w v

-- a shard that waits waited before
pub record Waited (w : World) (op : Op) (s : ShardWork) : Type 0 where
  pub number : ℕ
  pub old : Op
  pub there : fin.get w.ops number ≡ Some old
  pub z : ShardWork
  pub z_there : Has old.shards z
  pub uuid : old.uuid ≡ op.uuid
  pub index : z.ref.id ≡ s.ref.id
  pub shard : z.number ≡ s.number
  pub waits : Waits z.state
  pub pending : s.state ≡ Pending → z.state ≡ Pending

-- a new shard: it has no snapshot blob, and no generation in use lists its snapshot
pub record IsNewShard (f : Formats) (w : World) (op : Op) (s : ShardWork) : Type 0 where
  pub absent : Present f w.blobs (ShardSnap s.ref.id s.number op.uuid) → ⊥
  pub unlisted : (g : ℕ) (held : ShardFiles) (l : SnapList) → IsInUse w s.ref.id s.number g → Reads (At f w.blobs) (ShardIndex s.ref.id s.number g) f.shard_index held → Has held.snapshots l → l.uuid ≢ op.uuid

-- a generation that is newly live lists no snapshot that is still to be done
abbrev pub ListsDone : Formats → World → World → ℕ → ℕ → ℕ → Type 0
ListsDone f w v index number g =
    (o : ℕ) (op : Op) (s : ShardWork) (held : ShardFiles) (l : SnapList) → fin.get v.ops o ≡ Some op → Has op.shards s → Waits s.state → s.ref.id ≡ index → s.number ≡ number
    → Reads (At f w.blobs) (ShardIndex index number g) f.shard_index held → Has held.snapshots l → l.uuid ≢ op.uuid

module _ (f : Formats) (w v : World) (l : IsFree f w)
    (tickets : (k : ℕ) (t : Ticket) → fin.get v.tickets k ≡ Some t → Came f w k t) (own : Own v.tickets)
    (ops : (o : ℕ) (op : Op) (s : ShardWork) → fin.get v.ops o ≡ Some op → Has op.shards s → Waits s.state → Waited w op s ⊎ IsNewShard f w op s)
    (live : (index number g : ℕ) → IsLive v.root v.ops index number g → IsLive w.root w.ops index number g ⊎ ListsDone f w v index number g)
    (blobs : (name : BlobName) (b : Bytes) → ((id : ℕ) → IsTestOf id name → ⊥) → At f v.blobs name b → At f w.blobs name b) (tests : Tests f v.blobs v.caller) where
  was : (name : BlobName) → ((id : ℕ) → IsTestOf id name → ⊥) → Present f v.blobs name → Present f w.blobs name
  was name no_test p = (p.0, blobs name p.0 no_test p.1)

  reads_was : (i n g : ℕ) (held : ShardFiles) → Reads (At f v.blobs) (ShardIndex i n g) f.shard_index held → Reads (At f w.blobs) (ShardIndex i n g) f.shard_index held
  reads_was i n g held r = record { bytes = r.bytes; there = blobs (ShardIndex i n g) r.bytes (λ id test. test) r.there; reads = r.reads }

  shards_on : (k : ℕ) (t : Ticket) (name : BlobName) → fin.get v.tickets k ≡ Some t → t.out ≡ true → ShardCommits t name → Present f v.blobs name → Has t.noted name
  shards_on k t name there out commits p = elim (tickets k t there) [
    | inl h ↦ elim (h.2.commits name commits) [
      | inl c ↦ h.2.noted name (l.free.shards k h.0 name h.1 (h.2.out out) c (was name (commits_no_test t name commits) p))
      | inr none ↦ absurd (none (was name (commits_no_test t name commits) p))
    ]
    | inr new ↦ absurd (new.commits name commits (was name (commits_no_test t name commits) p))
  ]

  drawn_on : ArePlansDrawn v.tickets
  drawn_on k t uuids s name bytes there work own_has = elim (tickets k t there) [
    | inl h ↦ elim (h.2.plans uuids s work) [
      | inl same ↦ drawn_like h.0 t name (l.drawn k h.0 uuids s name bytes h.1 same.work own_has) same.drew
      | inr new ↦ (new name bytes own_has).0
    ]
    | inr new ↦ absurd (new.no_plan uuids s work)
  ]

  plans_on : (k : ℕ) (t : Ticket) (uuids : List ℕ) (s : Swap) (name : BlobName) (bytes : Bytes) → fin.get v.tickets k ≡ Some t → t.work ≡ Deleting uuids (Some s) → Has s.own (name, bytes) → Present f v.blobs name → Has t.noted name
  plans_on k t uuids s name bytes there work own_has p =
      let before : Present f w.blobs name = was name (index_no_test t name (drawn_on k t uuids s name bytes there work own_has)) p in
      elim (tickets k t there) [
        | inl h ↦ elim (h.2.plans uuids s work) [
          | inl same ↦ h.2.noted name (l.free.plans k h.0 uuids s name bytes h.1 same.work own_has before)
          | inr new ↦ absurd ((new name bytes own_has).1 before)
        ]
        | inr new ↦ absurd (new.no_plan uuids s work)
      ]

  pending_on : (o : ℕ) (op : Op) (s : ShardWork) → fin.get v.ops o ≡ Some op → Has op.shards s → s.state ≡ Pending → Present f v.blobs (ShardSnap s.ref.id s.number op.uuid) → ⊥
  pending_on o op s there m state p = elim (ops o op s there m (subst Waits (sym state) tt)) [
    | inl h ↦
        l.free.pending h.number h.old h.z h.there h.z_there (h.pending state) (subst (λ name. Present f w.blobs name) (λ j. ShardSnap (sym h.index j) (sym h.shard j) (sym h.uuid j)) (was (ShardSnap s.ref.id s.number op.uuid) (λ id test. test) p))
    | inr h ↦ h.absent (was (ShardSnap s.ref.id s.number op.uuid) (λ id test. test) p)
  ]

  roots_on : (k n : ℕ) (t : Ticket) → fin.get v.tickets k ≡ Some t → t.raised ≡ Some n → Present f v.blobs (Root n) → Has t.noted (Root n)
  roots_on k n t there raised p = elim (tickets k t there) [
    | inl h ↦ elim (h.2.raised n raised) [
      | inl r ↦ h.2.noted (Root n) (l.free.roots k n h.0 h.1 r (was (Root n) (λ id test. test) p))
      | inr none ↦ absurd (none (was (Root n) (λ id test. test) p))
    ]
    | inr new ↦ absurd (none-some n (sym new.unraised ∙ raised))
  ]

  -- what was in use doesn't list it
  unlisted_by : (op : Op) (s : ShardWork) (g : ℕ) (held : ShardFiles) (list : SnapList) → Waited w op s ⊎ IsNewShard f w op s → IsInUse w s.ref.id s.number g → Reads (At f w.blobs) (ShardIndex s.ref.id s.number g) f.shard_index held
      → Has held.snapshots list → list.uuid ≢ op.uuid
  unlisted_by op s g held list (inr h) used reads m = h.unlisted g held list used reads m
  unlisted_by op s g held list (inl h) used reads m =
      λ same. l.free.unlisted h.number h.old h.z g held list h.there h.z_there h.waits
      (subst (λ (p : ℕ × ℕ). IsInUse w p.0 p.1 g) (λ j. (sym h.index j, sym h.shard j)) used)
      (subst (λ (p : ℕ × ℕ). Reads (At f w.blobs) (ShardIndex p.0 p.1 g) f.shard_index held) (λ j. (sym h.index j, sym h.shard j)) reads)
      m (same ∙ sym h.uuid)

  unlisted_on : (o : ℕ) (op : Op) (s : ShardWork) (g : ℕ) (held : ShardFiles) (list : SnapList) → fin.get v.ops o ≡ Some op → Has op.shards s → Waits s.state → IsInUse v s.ref.id s.number g
      → Reads (At f v.blobs) (ShardIndex s.ref.id s.number g) f.shard_index held → Has held.snapshots list → list.uuid ≢ op.uuid
  unlisted_on o op s g held list there m waits (inl h) reads in_list = elim (live s.ref.id s.number g h) [
    | inl old ↦ unlisted_by op s g held list (ops o op s there m waits) (inl old) (reads_was s.ref.id s.number g held reads) in_list
    | inr done ↦ done o op s held list there m waits refl refl (reads_was s.ref.id s.number g held reads) in_list
  ]
  unlisted_on o op s g held list there m waits (inr b) reads in_list =
      unlisted_by op s g held list (ops o op s there m waits) (elim (tickets b.ticket b.t b.there) [
        | inl h ↦ inr (record { ticket = b.ticket; t = h.0; there = h.1; out = h.2.out b.out; work = h.2.work s.ref.id s.number b.work; base_is = sym h.2.base ∙ b.base_is })
        | inr new ↦ inl (new.base s.ref.id s.number g b.work b.base_is)
      ]) (reads_was s.ref.id s.number g held reads) in_list

  -- also where test blobs are added
  pub framed_aside : IsFree f v
  framed_aside =
      record {
        free = record { shards = shards_on; plans = plans_on; pending = pending_on; roots = roots_on; own_root = own.0; unlisted = unlisted_on; tests = tests.0; wrote = tests.1 };
        own_ids = own.1;
        drawn = drawn_on;
        wrote_tests = tests.2;
      }

module _ (f : Formats) (w v : World) (l : IsFree f w)
    (tickets : (k : ℕ) (t : Ticket) → fin.get v.tickets k ≡ Some t → Came f w k t) (own : Own v.tickets)
    (ops : (o : ℕ) (op : Op) (s : ShardWork) → fin.get v.ops o ≡ Some op → Has op.shards s → Waits s.state → Waited w op s ⊎ IsNewShard f w op s)
    (live : (index number g : ℕ) → IsLive v.root v.ops index number g → IsLive w.root w.ops index number g ⊎ ListsDone f w v index number g)
    (blobs : (name : BlobName) (b : Bytes) → At f v.blobs name b → At f w.blobs name b) (tests : Tests f v.blobs v.caller) where
  pub framed : IsFree f v
  framed = framed_aside f w v l tickets own ops live (λ name b no_test h. blobs name b h) tests

-- ---- what was done so far aside

-- the world after a moment, but for its entry
abbrev pub heard_after : Formats → World → Moment → World
heard_after f w m = heard f (stepped f w m) m

used_in : (w : World) (entries : List Entry) (i n g : ℕ) → IsInUse (record w { entries = entries }) i n g → IsInUse w i n g
used_in w entries i n g (inl live) = inl live
used_in w entries i n g (inr b) = inr (record { ticket = b.ticket; t = b.t; there = b.there; out = b.out; work = b.work; base_is = b.base_is })

pub with_entries : (f : Formats) (w : World) (entries : List Entry) → IsFree f w → IsFree f (record w { entries = entries })
with_entries f w entries l =
    record {
      free = record {
        shards = l.free.shards;
        plans = l.free.plans;
        pending = l.free.pending;
        roots = l.free.roots;
        own_root = l.free.own_root;
        unlisted = λ o op s g held list there m waits used. l.free.unlisted o op s g held list there m waits (used_in w entries s.ref.id s.number g used);
        tests = l.free.tests;
        wrote = l.free.wrote;
      };
      own_ids = l.own_ids;
      drawn = l.drawn;
      wrote_tests = l.wrote_tests;
    }
