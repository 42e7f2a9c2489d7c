-- What a step changes of tickets and ops, as far as what is free reads it.
use Rattle.std.proofs.Common.{◌≡◌, ◌≢◌, ℕ, ◌+◌, ◌<◌, ◌≤◌, List, [], true, Option, Some, None, map, refl, sym, ap, ◌∙◌, subst, inl, inr, arith}
use Rattle.std.specs.Ordering.{nat_cmp}
use Rattle.std.specs.FinMap.{FinMap}
use Rattle.std.specs.FinMap as fin
use Rattle.std.proofs.lemmas.Option.{same_Some, none-some}
use Rattle.esr_core.specs.Laws.NumberMaps.{was_in, left_in}
use Rattle.esr_model.specs.Names.{BlobName}
use Rattle.esr_model.specs.Values.{Bytes, Has, IndexRef, RootData, Formats}
use Rattle.esr_model.specs.Shelf.{Shelved}
use Rattle.esr_model.specs.Image.{Image, Blobs, At}
use Rattle.esr_core.specs.World.{World, Op, ShardWork, Pending, Ticket, Caller}
use Rattle.esr_core.specs.Generations.{DoneAt, IsLive}
use Rattle.esr_core.specs.Ready.{Waits}
use Rattle.esr_core.specs.Steps.{Drew}
use Rattle.esr_core.specs.Ids.{Law}
use Rattle.esr_core.specs.Allowed.{Told, SameBlobs}
use Rattle.esr_core.specs.After.{blobs_in}
use Rattle.esr_model.specs.Lists.{Has-mapped}
use Rattle.esr_core.specs.Restores.{IsTestOf}
use Rattle.esr_quiet.specs.Free.{AreOwnTests}
use Rattle.esr_quiet.proofs.FreeFrame.{IsFree, Tests, OwnRoots, OwnIds, Own, Follows, IsNewTicket, Came, Waited}
use Rattle.esr_quiet.proofs.FreeNames.{drew_same, commits_same, none_drawn}

-- ---- the blobs after a step

-- what is there now was there before
abbrev pub Were : Formats → Blobs → Blobs → Type 0
Were f now blobs = (name : BlobName) (b : Bytes) → At f now name b → At f blobs name b

-- and a test blob that was there is there
pub record Back (f : Formats) (now blobs : Blobs) : Type 0 where
  pub were : Were f now blobs
  pub tests : (id : ℕ) (name : BlobName) (b : Bytes) → IsTestOf id name → At f blobs name b → At f now name b

-- where the step leaves them
pub at_same : (f : Formats) (w : World) (image : Option Image) → SameBlobs w image → Back f (blobs_in image w.blobs) w.blobs
at_same f w None same = record { were = λ name b h. h; tests = λ id name b test h. h }
at_same f w (Some i) same = record { were = λ name b h. subst (λ x. At f x name b) same h; tests = λ id name b test h. subst (λ x. At f x name b) (sym same) h }

-- what is told beside blobs that stay
pub told_same : (w : World) (image : Option Image) (P : Blobs → Type 0) → ((blobs : Blobs) → P blobs → blobs ≡ w.blobs) → Told image P → SameBlobs w image
told_same w None P same h = tt
told_same w (Some x) P same h = same x.blobs h

-- ---- test blobs

-- what is there was there
pub own_were : (f : Formats) (w : World) → IsFree f w → (blobs : Blobs) → Were f blobs w.blobs → AreOwnTests f blobs w.caller
own_were f w l blobs were id name drawn test p = l.free.tests id name drawn test (p.0, were name p.0 p.1)

pub tests_was : (f : Formats) (w : World) → IsFree f w → (blobs : Blobs) → Back f blobs w.blobs → Tests f blobs w.caller
tests_was f w l blobs back =
    (own_were f w l blobs back.were, λ name b h left. let t = l.wrote_tests name b h in back.tests t.0 name b t.1 (l.free.wrote name b h left), l.wrote_tests)

-- no verification is open
pub tests_none : (f : Formats) (blobs : Blobs) (caller : Caller) → caller.drawn ≡ None → caller.wrote ≡ [] → Tests f blobs caller
tests_none f blobs caller none empty =
    (λ id name drawn test p. absurd (none-some id (sym none ∙ drawn)), λ name b h left. absurd (unwritten name b h), λ name b h. absurd (unwritten name b h))
  where
    unwritten : (name : BlobName) (b : Bytes) → Has caller.wrote (name, b) → ⊥
    unwritten name b h = subst (λ (list : List (BlobName × Bytes)). Has list (name, b)) empty h

-- ---- tickets

-- a ticket that commits and has raised what it did
pub follows_same : (f : Formats) (w : World) (t v : Ticket) → v.work ≡ t.work → v.base ≡ t.base → (v.out ≡ true → t.out ≡ true) → ((name : BlobName) → Has t.noted name → Has v.noted name)
    → v.uuid ≡ t.uuid → v.first ≡ t.first → v.drawn ≡ t.drawn → v.raised ≡ t.raised → Follows f w t v
follows_same f w t v work base out noted uuid first drawn raised =
    record {
      work = λ index number e. sym work ∙ e;
      plans = λ uuids s e. inl (record { work = sym work ∙ e; drew = λ id h. drew_same v t id (sym first) (sym drawn) h });
      base = base;
      out = out;
      noted = noted;
      commits = λ name h. inl (commits_same t v work uuid first drawn name h);
      raised = λ n e. inl (sym raised ∙ e);
    }

pub follows_itself : (f : Formats) (w : World) (t : Ticket) → Follows f w t t
follows_itself f w t = follows_same f w t t refl refl (λ e. e) (λ name h. h) refl refl refl refl

module _ (f : Formats) (w : World) where
  pub came_all : (k : ℕ) (t : Ticket) → fin.get w.tickets k ≡ Some t → Came f w k t
  came_all k t there = inl (t, there, follows_itself f w t)

  pub came_put : (k : ℕ) (t v : Ticket) → fin.get w.tickets k ≡ Some t → Follows f w t v → (j : ℕ) (u : Ticket) → fin.get (fin.insert w.tickets k v) j ≡ Some u → Came f w j u
  came_put k t v there follows j u e = elim (was_in w.tickets k v j u e) [
    | inl h ↦ inl (t, ap (fin.get w.tickets) h.0 ∙ there, subst (Follows f w t) h.1 follows)
    | inr h ↦ came_all j u h.1
  ]

  pub came_new : (k : ℕ) (v : Ticket) → IsNewTicket f w v → (j : ℕ) (u : Ticket) → fin.get (fin.insert w.tickets k v) j ≡ Some u → Came f w j u
  came_new k v new j u e = elim (was_in w.tickets k v j u e) [
    | inl h ↦ inr (subst (IsNewTicket f w) h.1 new)
    | inr h ↦ came_all j u h.1
  ]

module _ (tickets : FinMap nat_cmp Ticket) (own : Own tickets) where
  roots_insert : (k : ℕ) (v : Ticket) → ((n j : ℕ) (u : Ticket) → v.raised ≡ Some n → j ≢ k → fin.get tickets j ≡ Some u → u.raised ≡ Some n → ⊥) → OwnRoots (fin.insert tickets k v)
  roots_insert k v only i j n a b e h p q = elim (was_in tickets k v i a e) [
    | inl x ↦ elim (was_in tickets k v j b h) [
      | inl y ↦ x.0 ∙ sym y.0
      | inr y ↦ absurd (only n j b (ap (λ (t : Ticket). t.raised) x.1 ∙ p) y.0 y.1 q)
    ]
    | inr x ↦ elim (was_in tickets k v j b h) [
      | inl y ↦ absurd (only n i a (ap (λ (t : Ticket). t.raised) y.1 ∙ q) x.0 x.1 p)
      | inr y ↦ own.0 i j n a b x.1 y.1 p q
    ]
  ]

  ids_insert : (k : ℕ) (v : Ticket) → ((id j : ℕ) (u : Ticket) → Drew v id → j ≢ k → fin.get tickets j ≡ Some u → Drew u id → ⊥) → OwnIds (fin.insert tickets k v)
  ids_insert k v only i j id a b e h p q = elim (was_in tickets k v i a e) [
    | inl x ↦ elim (was_in tickets k v j b h) [
      | inl y ↦ x.0 ∙ sym y.0
      | inr y ↦ absurd (only id j b (subst (λ (t : Ticket). Drew t id) (sym x.1) p) y.0 y.1 q)
    ]
    | inr x ↦ elim (was_in tickets k v j b h) [
      | inl y ↦ absurd (only id i a (subst (λ (t : Ticket). Drew t id) (sym y.1) q) x.0 x.1 p)
      | inr y ↦ own.1 i j id a b x.1 y.1 p q
    ]
  ]

  roots_put : (k : ℕ) (t v : Ticket) → fin.get tickets k ≡ Some t → v.raised ≡ t.raised → OwnRoots (fin.insert tickets k v)
  roots_put k t v there same = roots_insert k v (λ n j u is away e raised. away (own.0 j k n u t e there raised (sym same ∙ is)))

  ids_put : (k : ℕ) (t v : Ticket) → fin.get tickets k ≡ Some t → v.first ≡ t.first → v.drawn ≡ t.drawn → OwnIds (fin.insert tickets k v)
  ids_put k t v there first drawn = ids_insert k v (λ id j u mine away e its. away (own.1 j k id u t e there its (drew_same t v id first drawn mine)))

  pub own_put : (k : ℕ) (t v : Ticket) → fin.get tickets k ≡ Some t → v.raised ≡ t.raised → v.first ≡ t.first → v.drawn ≡ t.drawn → Own (fin.insert tickets k v)
  own_put k t v there same first drawn = (roots_put k t v there same, ids_put k t v there first drawn)

  -- it raises a root that no other has raised
  pub own_raised : (k : ℕ) (t v : Ticket) → fin.get tickets k ≡ Some t → v.first ≡ t.first → v.drawn ≡ t.drawn
      → ((n j : ℕ) (u : Ticket) → v.raised ≡ Some n → j ≢ k → fin.get tickets j ≡ Some u → u.raised ≡ Some n → ⊥) → Own (fin.insert tickets k v)
  own_raised k t v there first drawn only = (roots_insert k v only, ids_put k t v there first drawn)

  -- it draws ids above all that were drawn
  pub own_drawn : (k : ℕ) (t v : Ticket) (next : ℕ) → fin.get tickets k ≡ Some t → v.raised ≡ t.raised → next ≤ v.first → ((j : ℕ) (u : Ticket) → fin.get tickets j ≡ Some u → u.first + u.drawn ≤ next)
      → Own (fin.insert tickets k v)
  own_drawn k t v next there same above below =
      (roots_put k t v there same, ids_insert k v (λ id j u mine away e its. let a : v.first ≤ id = mine.from in let b : id < u.first + u.drawn = its.below in let c : u.first + u.drawn ≤ next = below j u e in omega (arith, above, a, b, c)))

  -- one that has neither raised nor drawn
  pub own_new : (k : ℕ) (v : Ticket) → v.raised ≡ None → v.drawn ≡ 0 → Own (fin.insert tickets k v)
  own_new k v none undrawn = (roots_insert k v (λ n j u is away e raised. none-some n (sym none ∙ is)), ids_insert k v (λ id j u mine away e its. none_drawn v id undrawn mine))

-- the next root to be begun no ticket has raised
pub own_pending : (f : Formats) (w : World) (shelf : List Shelved) → Law f w shelf → Own w.tickets → (k : ℕ) (t : Ticket) → fin.get w.tickets k ≡ Some t → Own (fin.insert w.tickets k (record t { raised = Some w.pending }))
own_pending f w shelf law own k t there = own_raised w.tickets own k t (record t { raised = Some w.pending }) there refl refl alone
  where
    one : (m : ℕ) → ◌≡◌ {A = Option ℕ} (Some w.pending) (Some m) → w.pending ≡ m
    one m e = same_Some _ _ e

    alone : (m j : ℕ) (u : Ticket) → Some w.pending ≡ Some m → j ≢ k → fin.get w.tickets j ≡ Some u → u.raised ≡ Some m → ⊥
    alone m j u e away there raised =
        let b : m < w.pending = (law.lawful.sound.rooted.tickets j u there).raised m raised in
        let same : w.pending ≡ m = one m e in
        omega (arith, b, same)

-- ---- ops

pub waited_all : (w : World) (o : ℕ) (op : Op) (s : ShardWork) → fin.get w.ops o ≡ Some op → Has op.shards s → Waits s.state → Waited w op s
waited_all w o op s there m waits = record { number = o; old = op; there = there; z = s; z_there = m; uuid = refl; index = refl; shard = refl; waits = waits; pending = λ e. e }

-- what a shard that waits after a change was
pub record WaitedBy (z s : ShardWork) : Type 0 where
  pub ref : s.ref ≡ z.ref
  pub number : s.number ≡ z.number
  pub waits : Waits z.state
  pub pending : s.state ≡ Pending → z.state ≡ Pending

pub waited_as : (z s : ShardWork) → s ≡ z → Waits s.state → WaitedBy z s
waited_as z s e waits =
    record {
      ref = ap (λ (x : ShardWork). x.ref) e;
      number = ap (λ (x : ShardWork). x.number) e;
      waits = subst (λ (x : ShardWork). Waits x.state) e waits;
      pending = λ p. ap (λ (x : ShardWork). x.state) (sym e) ∙ p;
    }

-- an op whose shards have changed so
pub waited_map : (w : World) (o : ℕ) (op now : Op) (g : ShardWork → ShardWork) → fin.get w.ops o ≡ Some op → now.uuid ≡ op.uuid → now.shards ≡ map g op.shards
    → ((z : ShardWork) → Has op.shards z → Waits (g z).state → WaitedBy z (g z)) → (p : ℕ) (q : Op) (s : ShardWork) → fin.get (fin.insert w.ops o now) p ≡ Some q → Has q.shards s → Waits s.state → Waited w q s
waited_map w o op now g there uuid shards by p q s e m waits = elim (was_in w.ops o now p q e) [
  | inr h ↦ waited_all w p q s h.1 m waits
  | inl h ↦
      let (z, z_there, is) = Has-mapped g op.shards s (subst (λ list. Has list s) (ap (λ (x : Op). x.shards) (sym h.1) ∙ shards) m) in
      let b : WaitedBy z s = subst (WaitedBy z) is (by z z_there (subst (λ (x : ShardWork). Waits x.state) (sym is) waits)) in
      record {
        number = o;
        old = op;
        there = there;
        z = z;
        z_there = z_there;
        uuid = sym uuid ∙ ap (λ (x : Op). x.uuid) h.1;
        index = ap (λ (r : IndexRef). r.id) (sym b.ref);
        shard = sym b.number;
        waits = b.waits;
        pending = b.pending;
      }
]

pub waited_left : (w : World) (o p : ℕ) (q : Op) (s : ShardWork) → fin.get (fin.remove w.ops o) p ≡ Some q → Has q.shards s → Waits s.state → Waited w q s
waited_left w o p q s e m waits = waited_all w p q s (left_in w.ops o p q e).1 m waits

pub done_left : (ops : FinMap nat_cmp Op) (o uuid i n g : ℕ) → DoneAt (fin.remove ops o) uuid i n g → DoneAt ops uuid i n g
done_left ops o uuid i n g d =
    record { number = d.number; op = d.op; there = (left_in ops o d.number d.op d.there).1; uuid_is = d.uuid_is; s = d.s; s_there = d.s_there; r = d.r; state = d.state; index_is = d.index_is; shard_is = d.shard_is; generation_is = d.generation_is }

pub live_left : (root : RootData) (ops : FinMap nat_cmp Op) (o i n g : ℕ) → IsLive root (fin.remove ops o) i n g → IsLive root ops i n g
live_left root ops o i n g (inl h) = inl h
live_left root ops o i n g (inr h) = inr (h.0, done_left ops o h.0 i n g h.1)
