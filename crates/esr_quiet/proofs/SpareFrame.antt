-- Each name that a ticket is still to commit is that of no blob but of one that it tried to commit: what a step has to keep for that.
use Rattle.std.proofs.Common.{◌≡◌, ◌⊎◌, ℕ, List, true, false, true≢false, Some, None, map, refl, sym, ap, ◌∙◌, subst, inl, inr}
use Rattle.std.specs.FinMap as fin
use Rattle.std.proofs.lemmas.Option.{none-some}
use Rattle.esr_core.specs.Laws.NumberMaps.{was_in, left_in}
use Rattle.esr_model.specs.Names.{BlobName, Root, ShardSnap}
use Rattle.esr_model.specs.Values.{Bytes, Has, Formats}
use Rattle.esr_model.specs.Image.{Blobs, At, Present}
use Rattle.esr_core.specs.World.{World, Op, ShardWork, Pending, Deleting, Ticket, Swap}
use Rattle.esr_core.specs.Restores.{IsTestOf}
use Rattle.esr_core.specs.Steps.{ShardCommits}
use Rattle.esr_model.specs.Lists.{Has-mapped}
use Rattle.esr_core.specs.Laws.Maps.{Tickets, Ops}
use Rattle.esr_quiet.proofs.FreeFrame.{ArePlansDrawn, Own, IsSamePlan, IsNewPlan}
use Rattle.esr_quiet.proofs.FreeNames.{drawn_like, drew_same, index_no_test, commits_same, commits_no_test}

-- Which names each ticket tried to commit is fixed.
pub record IsSpare (f : Formats) (tried : ℕ → BlobName → Type 0) (blobs : Blobs) (ops : Ops) (tickets : Tickets) : Type 0 where
  pub shards : (k : ℕ) (t : Ticket) (name : BlobName) → fin.get tickets k ≡ Some t → t.out ≡ true → ShardCommits t name → Present f blobs name → tried k name
  pub plans : (k : ℕ) (t : Ticket) (uuids : List ℕ) (s : Swap) (name : BlobName) (bytes : Bytes) → fin.get tickets k ≡ Some t → t.work ≡ Deleting uuids (Some s) → Has s.own (name, bytes) → Present f blobs name → tried k name
  -- of a shard that is pending there is no snapshot blob yet
  pub pending : (o : ℕ) (op : Op) (s : ShardWork) → fin.get ops o ≡ Some op → Has op.shards s → s.state ≡ Pending → Present f blobs (ShardSnap s.ref.id s.number op.uuid) → ⊥
  pub roots : (k n : ℕ) (t : Ticket) → fin.get tickets k ≡ Some t → t.raised ≡ Some n → Present f blobs (Root n) → tried k (Root n)
  pub own : Own tickets
  pub drawn : ArePlansDrawn tickets

abbrev pub Spare : Formats → (ℕ → BlobName → Type 0) → World → Type 0
Spare f tried w = IsSpare f tried w.blobs w.ops w.tickets

-- a ticket that goes on: what it may commit or has raised was so before, or no blob has that name
pub record Goes (f : Formats) (w : World) (t v : Ticket) : Type 0 where
  pub plans : (uuids : List ℕ) (s : Swap) → v.work ≡ Deleting uuids (Some s) → IsSamePlan t v uuids s ⊎ IsNewPlan f w v s
  pub out : v.out ≡ true → t.out ≡ true
  pub commits : (name : BlobName) → ShardCommits v name → ShardCommits t name ⊎ (Present f w.blobs name → ⊥)
  pub raised : (n : ℕ) → v.raised ≡ Some n → (t.raised ≡ Some n) ⊎ (Present f w.blobs (Root n) → ⊥)

-- a new ticket: no blob has a name that it may commit
pub record IsFresh (f : Formats) (w : World) (v : Ticket) : Type 0 where
  pub commits : (name : BlobName) → ShardCommits v name → Present f w.blobs name → ⊥
  pub unraised : v.raised ≡ None
  pub no_plan : (uuids : List ℕ) (s : Swap) → v.work ≡ Deleting uuids (Some s) → ⊥

abbrev pub Came : Formats → World → ℕ → Ticket → Type 0
Came f w k v = ((t : Ticket) × (fin.get w.tickets k ≡ Some t) × Goes f w t v) ⊎ IsFresh f w v

abbrev pub AllCame : Formats → World → Tickets → Type 0
AllCame f w tickets = (k : ℕ) (t : Ticket) → fin.get tickets k ≡ Some t → Came f w k t

-- a shard that is pending was so before
pub record WasPending (w : World) (op : Op) (s : ShardWork) : Type 0 where
  pub number : ℕ
  pub old : Op
  pub there : fin.get w.ops number ≡ Some old
  pub z : ShardWork
  pub z_there : Has old.shards z
  pub uuid : old.uuid ≡ op.uuid
  pub index : z.ref.id ≡ s.ref.id
  pub shard : z.number ≡ s.number
  pub state : z.state ≡ Pending

-- or it is new, and has no snapshot blob
abbrev pub ArePending : Formats → World → Ops → Type 0
ArePending f w ops = (o : ℕ) (op : Op) (s : ShardWork) → fin.get ops o ≡ Some op → Has op.shards s → s.state ≡ Pending → WasPending w op s ⊎ (Present f w.blobs (ShardSnap s.ref.id s.number op.uuid) → ⊥)

-- what is there now was there before, test blobs aside
abbrev pub Were : Formats → World → Blobs → Type 0
Were f w now = (name : BlobName) (b : Bytes) → ((id : ℕ) → IsTestOf id name → ⊥) → At f now name b → At f w.blobs name b

module _ (f : Formats) (tried : ℕ → BlobName → Type 0) (w : World) (l : Spare f tried w) (blobs : Blobs) (ops : Ops) (tickets : Tickets) (came : AllCame f w tickets) (own : Own tickets) (are : ArePending f w ops) (were : Were f w blobs) where
  was : (name : BlobName) → ((id : ℕ) → IsTestOf id name → ⊥) → Present f blobs name → Present f w.blobs name
  was name no_test p = (p.0, were name p.0 no_test p.1)

  shards_on : (k : ℕ) (t : Ticket) (name : BlobName) → fin.get tickets k ≡ Some t → t.out ≡ true → ShardCommits t name → Present f blobs name → tried k name
  shards_on k t name there out commits p = elim (came k t there) [
    | inl h ↦ elim (h.2.commits name commits) [
      | inl c ↦ l.shards k h.0 name h.1 (h.2.out out) c (was name (commits_no_test t name commits) p)
      | inr none ↦ absurd (none (was name (commits_no_test t name commits) p))
    ]
    | inr new ↦ absurd (new.commits name commits (was name (commits_no_test t name commits) p))
  ]

  drawn_on : ArePlansDrawn tickets
  drawn_on k t uuids s name bytes there work own_has = elim (came k t there) [
    | inl h ↦ elim (h.2.plans uuids s work) [
      | inl same ↦ drawn_like h.0 t name (l.drawn k h.0 uuids s name bytes h.1 same.work own_has) same.drew
      | inr new ↦ (new name bytes own_has).0
    ]
    | inr new ↦ absurd (new.no_plan uuids s work)
  ]

  plans_on : (k : ℕ) (t : Ticket) (uuids : List ℕ) (s : Swap) (name : BlobName) (bytes : Bytes) → fin.get tickets k ≡ Some t → t.work ≡ Deleting uuids (Some s) → Has s.own (name, bytes) → Present f blobs name → tried k name
  plans_on k t uuids s name bytes there work own_has p =
      let before : Present f w.blobs name = was name (index_no_test t name (drawn_on k t uuids s name bytes there work own_has)) p in
      elim (came k t there) [
        | inl h ↦ elim (h.2.plans uuids s work) [
          | inl same ↦ l.plans k h.0 uuids s name bytes h.1 same.work own_has before
          | inr new ↦ absurd ((new name bytes own_has).1 before)
        ]
        | inr new ↦ absurd (new.no_plan uuids s work)
      ]

  pending_on : (o : ℕ) (op : Op) (s : ShardWork) → fin.get ops o ≡ Some op → Has op.shards s → s.state ≡ Pending → Present f blobs (ShardSnap s.ref.id s.number op.uuid) → ⊥
  pending_on o op s there m state p = elim (are o op s there m state) [
    | inl h ↦ l.pending h.number h.old h.z h.there h.z_there h.state (subst (λ name. Present f w.blobs name) (λ j. ShardSnap (sym h.index j) (sym h.shard j) (sym h.uuid j)) (was (ShardSnap s.ref.id s.number op.uuid) (λ id test. test) p))
    | inr none ↦ none (was (ShardSnap s.ref.id s.number op.uuid) (λ id test. test) p)
  ]

  roots_on : (k n : ℕ) (t : Ticket) → fin.get tickets k ≡ Some t → t.raised ≡ Some n → Present f blobs (Root n) → tried k (Root n)
  roots_on k n t there raised p = elim (came k t there) [
    | inl h ↦ elim (h.2.raised n raised) [
      | inl r ↦ l.roots k n h.0 h.1 r (was (Root n) (λ id test. test) p)
      | inr none ↦ absurd (none (was (Root n) (λ id test. test) p))
    ]
    | inr new ↦ absurd (none-some n (sym new.unraised ∙ raised))
  ]

  pub framed : IsSpare f tried blobs ops tickets
  framed = record { shards = shards_on; plans = plans_on; pending = pending_on; roots = roots_on; own = own; drawn = drawn_on }

-- ---- tickets

pub goes_same : (f : Formats) (w : World) (t v : Ticket) → v.work ≡ t.work → (v.out ≡ true → t.out ≡ true) → v.uuid ≡ t.uuid → v.first ≡ t.first → v.drawn ≡ t.drawn → v.raised ≡ t.raised → Goes f w t v
goes_same f w t v work out uuid first drawn raised =
    record {
      plans = λ uuids s e. inl (record { work = sym work ∙ e; drew = λ id h. drew_same v t id (sym first) (sym drawn) h });
      out = out;
      commits = λ name h. inl (commits_same t v work uuid first drawn name h);
      raised = λ n e. inl (sym raised ∙ e);
    }

pub goes_out : (f : Formats) (w : World) (t : Ticket) → Goes f w t (record t { out = false })
goes_out f w t = goes_same f w t (record t { out = false }) refl (λ e. absurd (true≢false (sym e))) refl refl refl refl

module _ (f : Formats) (w : World) where
  pub came_all : AllCame f w w.tickets
  came_all k t there = inl (t, there, goes_same f w t t refl (λ e. e) refl refl refl refl)

  pub came_put : (k : ℕ) (t v : Ticket) → fin.get w.tickets k ≡ Some t → Goes f w t v → AllCame f w (fin.insert w.tickets k v)
  came_put k t v there goes j u e = elim (was_in w.tickets k v j u e) [
    | inl h ↦ inl (t, ap (fin.get w.tickets) h.0 ∙ there, subst (Goes f w t) h.1 goes)
    | inr h ↦ came_all j u h.1
  ]

  pub came_new : (k : ℕ) (v : Ticket) → IsFresh f w v → AllCame f w (fin.insert w.tickets k v)
  came_new k v new j u e = elim (was_in w.tickets k v j u e) [
    | inl h ↦ inr (subst (IsFresh f w) h.1 new)
    | inr h ↦ came_all j u h.1
  ]

-- ---- ops

pub pending_same : (w : World) (o : ℕ) (op : Op) (s : ShardWork) → fin.get w.ops o ≡ Some op → Has op.shards s → s.state ≡ Pending → WasPending w op s
pending_same w o op s there m state = record { number = o; old = op; there = there; z = s; z_there = m; uuid = refl; index = refl; shard = refl; state = state }

pub pending_all : (f : Formats) (w : World) → ArePending f w w.ops
pending_all f w o op s there m state = inl (pending_same w o op s there m state)

pub pending_left : (f : Formats) (w : World) (o : ℕ) → ArePending f w (fin.remove w.ops o)
pending_left f w o p q s e m state = inl (pending_same w p q s (left_in w.ops o p q e).1 m state)

-- a shard that is pending after a change is as it was
abbrev pub KeepsPending : (ShardWork → ShardWork) → Op → Type 0
KeepsPending g op = (z : ShardWork) → Has op.shards z → (g z).state ≡ Pending → g z ≡ z

pub pending_map : (f : Formats) (w : World) (o : ℕ) (op now : Op) (g : ShardWork → ShardWork) → fin.get w.ops o ≡ Some op → now.uuid ≡ op.uuid → now.shards ≡ map g op.shards → KeepsPending g op
    → ArePending f w (fin.insert w.ops o now)
pending_map f w o op now g there uuid shards keeps p q s e m state = elim (was_in w.ops o now p q e) [
  | inr h ↦ inl (pending_same w p q s h.1 m state)
  | inl h ↦
      let (z, z_there, is) = Has-mapped g op.shards s (subst (λ list. Has list s) (ap (λ (x : Op). x.shards) (sym h.1) ∙ shards) m) in
      let same : z ≡ s = sym (keeps z z_there (ap (λ (x : ShardWork). x.state) is ∙ state)) ∙ is in
      inl (record {
        number = o;
        old = op;
        there = there;
        z = z;
        z_there = z_there;
        uuid = sym uuid ∙ ap (λ (x : Op). x.uuid) h.1;
        index = ap (λ (x : ShardWork). x.ref.id) same;
        shard = ap (λ (x : ShardWork). x.number) same;
        state = ap (λ (x : ShardWork). x.state) same ∙ state;
      })
]

-- a new op whose uuid no blob has
pub pending_new : (f : Formats) (w : World) (o : ℕ) (op : Op) → ((s : ShardWork) → Present f w.blobs (ShardSnap s.ref.id s.number op.uuid) → ⊥) → ArePending f w (fin.insert w.ops o op)
pending_new f w o op none p q s e m state = elim (was_in w.ops o op p q e) [
  | inl h ↦ inr (subst (λ (x : Op). Present f w.blobs (ShardSnap s.ref.id s.number x.uuid) → ⊥) h.1 (none s))
  | inr h ↦ inl (pending_same w p q s h.1 m state)
]
