-- A command that is accepted keeps the law.
use Rattle.std.proofs.Common.{◌≡◌, ◌⊎◌, ℕ, ◌<◌, List, [], true, false, true≢false, Option, Some, None, refl, sym, ap, ◌∙◌, subst, inl, inr, arith}
use Rattle.std.specs.FinMap as fin
use Rattle.std.proofs.lemmas.Option.{same_Some}
use Rattle.esr_core.specs.Laws.NumberMaps.{was_in, other_in}
use Rattle.esr_core.specs.Laws.ShardStates.{pending_out, pending_done}
use Rattle.esr_model.specs.Names.{BlobName, Snap, ShardIndex}
use Rattle.esr_model.specs.Values.{Bytes, IndexRef, RootData, SnapList, ShardFiles, Formats}
use Rattle.esr_model.specs.Shelf.{Shelved}
use Rattle.esr_model.specs.Image.{Blobs, Has, At, Reads, RootStands}
use Rattle.esr_core.specs.World.{World, Op, ShardWork, Out, Deleting, Ticket, Swap, swap_of, AllDone, HeldIn, info_of, made_from, made_of}
use Rattle.esr_core.specs.Ready.{Stopped}
use Rattle.esr_core.specs.Steps.{completing}
use Rattle.esr_core.specs.Turns.{AskCreate, AskCleanup, IsApart, AskDelete, MergeDelete, Aborts}
use Rattle.esr_core.specs.Generations.{DoneAt, IsLive, HasShard, ListsOwn, IsOwn, Carries, Base, OpLaw, Together, PlanLaw, AreIndicesBy, Carried}
use Rattle.esr_core.specs.Ids.{IdsIn}
use Rattle.esr_core.specs.Queue.{Queue, Lawful, Lists}
use Rattle.esr_core.proofs.DeletesHold.{none_both}
use Rattle.esr_core.specs.Laws.OneValue.{held_one, reads_one, safe_root_stands}
use Rattle.esr_core.specs.Laws.BlobFrames.{info_there}
use Rattle.esr_core.proofs.Ops.{shard_law_on}
use Rattle.esr_core.proofs.Owning.{OnWith, own_on, plan_on}
use Rattle.esr_core.specs.Laws.SortedLists.{shard_ref}
use Rattle.esr_core.specs.Laws.Maps.{Ops}
use Rattle.esr_core.proofs.Queues.{Evolves, queue_ops, queued_back, queue_add, queue_add_delete, queue_delete}
use Rattle.esr_core.proofs.Evolving.{completing_has, completing_more, completing_was, results_of}

-- ops of which each is as one that was, in all that shards read, and no more is done
module _ (f : Formats) (has : BlobName → Bytes → Type 0) (root : RootData) (ops now : Ops)
    (done : (uuid i n g : ℕ) → DoneAt now uuid i n g → DoneAt ops uuid i n g) (own : (i n g : ℕ) → Carries f has root ops i n g → IsOwn f has now i n g) where
  pub live_from : (i n g : ℕ) → IsLive root now i n g → IsLive root ops i n g
  live_from i n g (inl h) = inl h
  live_from i n g (inr (u, a)) = inr (u, done u i n g a)

  pub carries_from : (i n g : ℕ) → Carries f has root ops i n g → Carries f has root now i n g
  carries_from i n g c = record { stands = c.stands; own = own i n g c; done = λ u h a below. c.done u h (done u i n h a) below; listed = c.listed }

  pub base_from : (i n : ℕ) (base : Option ℕ) → Base f has root ops i n base → Base f has root now i n base
  base_from i n None h = λ g live. h g (live_from i n g live)
  base_from i n (Some b) h = (λ g live. h.0 g (live_from i n g live), carries_from i n b h.1)

module _ (f : Formats) (w : World) (shelf : List Shelved) (l : Lawful f w shelf) (op : Op) (new : World) (d : AskCreate f w op new)
    (apart_from : IsApart w op) (one_id : (r q : IndexRef) → Has op.indices r → Has op.indices q → r.id ≡ q.id → r ≡ q)
    (ids : IdsIn f w) where
  abbrev ops : Ops
  ops = fin.insert w.ops w.next_op op

  c : Carried f (HeldIn f w) w.safe w.term w.root w.ops w.tickets
  c = l.sound.carried

  done_was : (uuid i n g : ℕ) → DoneAt ops uuid i n g → DoneAt w.ops uuid i n g
  done_was uuid i n g a = elim (was_in w.ops w.next_op op a.number a.op a.there) [
    | inl h ↦ absurd (pending_done (sym (d.pending a.s (subst (λ (x : Op). Has x.shards a.s) (sym h.1) a.s_there)) ∙ a.state))
    | inr h ↦ record { number = a.number; op = a.op; there = h.1; uuid_is = a.uuid_is; s = a.s; s_there = a.s_there; r = a.r; state = a.state; index_is = a.index_is; shard_is = a.shard_is; generation_is = a.generation_is }
  ]

  -- an index that was there doesn't list the new op
  lists_was : (i n g : ℕ) (held : ShardFiles) → g < w.next_id → ((y : SnapList) → Has held.snapshots y → y.uuid < g) → ListsOwn w.ops i n held → ListsOwn ops i n held
  lists_was i n g held b below h = λ y m o q e same. elim (was_in w.ops w.next_op op o q e) [
    | inl z ↦
        let a : y.uuid < g = below y m in
        let u : y.uuid ≡ w.next_id = sym same ∙ ap (λ (x : Op). x.uuid) (sym z.1) ∙ d.uuid_is in
        absurd (omega (arith, a, b, u))
    | inr z ↦ h y m o q z.1 same
  ]

  own_was : (i n g : ℕ) → Carries f (HeldIn f w) w.root w.ops i n g → IsOwn f (HeldIn f w) ops i n g
  own_was i n g h = λ held reads.
      let is : h.stands.held ≡ held = reads_one (HeldIn f w) (held_one f w) (ShardIndex i n g) f.shard_index h.stands.held held h.stands.held_reads reads in
      lists_was i n g held (ids.blobs (ShardIndex i n g) (reads.bytes, reads.there.0)).1 (subst (λ (v : ShardFiles). (y : SnapList) → Has v.snapshots y → y.uuid < g) is h.stands.below) (h.own held reads)

  plan_was : (j : ℕ) (u : Ticket) → fin.get w.tickets j ≡ Some u → (uuids : List ℕ) (s : Swap) → u.work ≡ Deleting uuids (Some s) → PlanLaw f w.root w.ops s → PlanLaw f w.root ops s
  plan_was j u e uuids s is h = λ i n g gen. elim (h i n g gen) [
    | inl old ↦ inl old
    | inr x ↦
        let b : g < w.next_id = ((ids.tickets j u e).root s (ap (λ y. swap_of f y u.root) is)).generations i n g gen in
        inr (record { index_of = x.index_of; there = x.there; back = x.back; below = x.below; lists = lists_was i n g x.index_of b x.below x.lists })
  ]

  stays : (o : ℕ) (x : Op) → fin.get w.ops o ≡ Some x → fin.get ops o ≡ Some x
  stays o x e = other_in w.ops w.next_op op o (λ same. let b : o < w.next_op = l.queue.numbers o x e in omega arith) ∙ e

  -- nobody may remove the info of a listed snapshot
  held_indices : (u : ℕ) → Lists w.root u → AreIndicesBy f (At f w.blobs) u op.indices → AreIndicesBy f (HeldIn f w) u op.indices
  held_indices u has b =
      let stands : RootStands f (HeldIn f w) w.root shelf = safe_root_stands f (HeldIn f w) (held_one f w) w.safe w.root shelf l.sound.rooted.kept.picked c.root_is in
      let (shelved, s) = info_there f (HeldIn f w) w.root w.root.snapshots shelf stands.snapshots has.0 has.1 in
      let reads : Reads (HeldIn f w) (Snap u) f.info s.info = subst (λ n. Reads (HeldIn f w) (Snap n) f.info s.info) has.2 s.info_reads in
      record { info = b.info; info_reads = record { bytes = b.info_reads.bytes; there = (b.info_reads.there, reads.there.1); reads = b.info_reads.reads }; apart = b.apart; named_once = b.named_once; among = b.among; once = b.once }

  mine : OpLaw f (HeldIn f w) w.root op
  mine =
      record {
        places = d.places;
        texts = d.texts;
        copies = λ u is. let listed = (d.source u is).0 in record { listed = listed; by_info = held_indices u listed (d.copies u is) };
        done = λ s r m e. absurd (pending_done (sym (d.pending s m) ∙ e));
        unlisted = apart_from.unlisted;
        unused = apart_from.unused;
        one_id = one_id;
        distinct = λ s z sm zm i n. d.distinct s z sm zm (one_id s.ref z.ref (shard_ref op s sm d.places) (shard_ref op z zm d.places) i) n;
        same_name = apart_from.same_name;
      }

  carried : Carried f (HeldIn f w) w.safe w.term w.root ops w.tickets
  carried =
      record {
        root_is = c.root_is;
        ops = λ p q e. elim (was_in w.ops w.next_op op p q e) [ inl h ↦ subst (OpLaw f (HeldIn f w) w.root) h.1 mine | inr h ↦ c.ops p q h.1 ];
        together = λ p q a b apart e h. elim (was_in w.ops w.next_op op p a e) [
          | inl x ↦ elim (was_in w.ops w.next_op op q b h) [
            | inl y ↦ absurd (apart (x.0 ∙ sym y.0))
            | inr y ↦ subst (λ z. Together z b) x.1 (apart_from.together q b y.1).1
          ]
          | inr x ↦ elim (was_in w.ops w.next_op op q b h) [
            | inl y ↦ subst (Together a) y.1 (apart_from.together p a x.1).0
            | inr y ↦ c.together p q a b apart x.1 y.1
          ]
        ];
        carries = λ i n g live. carries_from f (HeldIn f w) w.root w.ops ops done_was own_was i n g (c.carries i n g (live_from f (HeldIn f w) w.root w.ops ops done_was own_was i n g live));
        shards = λ j u e out i n is. let h = c.shards j u e out i n is in
            shard_law_on f (HeldIn f w) w.root w.ops ops j u i n h (stays u.op h.op h.op_there)
            (base_from f (HeldIn f w) w.root w.ops ops done_was own_was i n u.base h.base);
        one_shard = c.one_shard;
        plans = λ j u e out uns pres uuids s is. plan_was j u e uuids s is (c.plans j u e out uns pres uuids s is);
        finals = λ j u e out uns pres info results made is. let h = c.finals j u e out uns pres info results made is in
            record { op = h.op; op_there = stays u.op h.op h.op_there; done = h.done; info_is = h.info_is; made_is = h.made_is; root_is = h.root_is };
        held = λ p q z j e m state. elim (was_in w.ops w.next_op op p q e) [
          | inl h ↦ absurd (pending_out (sym (d.pending z (subst (λ (x : Op). Has x.shards z) (sym h.1) m)) ∙ state))
          | inr h ↦ c.held p q z j h.1 m state
        ];
      }

  pub create_lawful : Lawful f new shelf
  create_lawful = subst (λ x. Lawful f x shelf) (sym d.new_is) (record {
    sound = record {
      rooted = record { kept = l.sound.rooted.kept; doomed_begun = l.sound.rooted.doomed_begun; tickets = l.sound.rooted.tickets; single = l.sound.rooted.single };
      carried = carried;
      fresh = l.sound.fresh;
    };
    queue = queue_add w.term w.root w.ops w.deletes w.completed w.next_op w.tickets l.queue op (completing w.completed w.next_op op.shards) d.pending
        (completing_more w.completed w.next_op op.shards) (λ results all. completing_has w.completed w.next_op op.shards results all)
        (λ o h. elim (completing_was w.completed w.next_op op.shards o h) [ inl m ↦ inl m | inr m ↦ inr (m.0, results_of op.shards m.1) ]) (λ e y h c. true≢false (sym c ∙ d.no_cleanup e y h)) d.source;
  })

source_of : (by : ℕ) (old op : Op) → (op ≡ old) ⊎ (op ≡ record old { aborted = Some by }) → old.source ≡ op.source
source_of by old op (inl e) = ap (λ (y : Op). y.source) (sym e)
source_of by old op (inr e) = ap (λ (y : Op). y.source) (sym e)

-- ops of which some are aborted
module _ (f : Formats) (w : World) (shelf : List Shelved) (l : Lawful f w shelf) (now : Ops) (by : ℕ) (a : Aborts w.ops now by) where
  before : Carried f (HeldIn f w) w.safe w.term w.root w.ops w.tickets
  before = l.sound.carried

  -- what is as it was in all but the abort
  as_was : (P : Op → Type 0) → ((x : Op) → P x → P (record x { aborted = Some by })) → (old op : Op) → (op ≡ old) ⊎ (op ≡ record old { aborted = Some by }) → P old → P op
  as_was P to old op (inl e) h = subst P (sym e) h
  as_was P to old op (inr e) h = subst P (sym e) (to old h)

  as_is : (P : Op → Type 0) → ((x : Op) → P (record x { aborted = Some by }) → P x) → (old op : Op) → (op ≡ old) ⊎ (op ≡ record old { aborted = Some by }) → P op → P old
  as_is P to old op (inl e) h = subst P e h
  as_is P to old op (inr e) h = to old (subst P e h)

  done_before : (uuid i n g : ℕ) → DoneAt now uuid i n g → DoneAt w.ops uuid i n g
  done_before uuid i n g x =
      let (old, there, how) = a.was x.number x.op x.there in
      record {
        number = x.number;
        op = old;
        there = there;
        uuid_is = as_is (λ (y : Op). y.uuid ≡ uuid) (λ y h. h) old x.op how x.uuid_is;
        s = x.s;
        s_there = as_is (λ (y : Op). Has y.shards x.s) (λ y h. h) old x.op how x.s_there;
        r = x.r;
        state = x.state;
        index_is = x.index_is;
        shard_is = x.shard_is;
        generation_is = x.generation_is;
      }

  on_with : OnWith w.ops now
  on_with = λ o op e. let (old, there, how) = a.was o op e in (
    old,
    there,
    as_was (λ (y : Op). old.uuid ≡ y.uuid) (λ y z. z) old op how refl,
    (λ i n has. as_was (λ (y : Op). HasShard y i n) (λ y z. z) old op how has),
  )

  own_before : (i n g : ℕ) → Carries f (HeldIn f w) w.root w.ops i n g → IsOwn f (HeldIn f w) now i n g
  own_before i n g h = own_on w.ops now on_with f (HeldIn f w) i n g h.own

  op_law_to : (x : Op) → OpLaw f (HeldIn f w) w.root x → OpLaw f (HeldIn f w) w.root (record x { aborted = Some by })
  op_law_to x h = record { places = h.places; done = h.done; copies = h.copies; texts = h.texts; unlisted = h.unlisted; unused = h.unused; one_id = h.one_id; distinct = h.distinct; same_name = h.same_name }

  -- an abort leaves what it is to make
  made_same : (blobs : Blobs) (x : Op) (source : Option ℕ) → made_from f blobs x source ≡ made_from f blobs (record x { aborted = Some by }) source
  made_same blobs x None = refl
  made_same blobs x (Some u) = refl

  pub carried_aborts : Carried f (HeldIn f w) w.safe w.term w.root now w.tickets
  carried_aborts =
      record {
        root_is = before.root_is;
        ops = λ p q e. let (old, there, how) = a.was p q e in as_was (OpLaw f (HeldIn f w) w.root) op_law_to old q how (before.ops p old there);
        together = λ p q x y apart e h.
            let (xo, xt, xh) = a.was p x e in
            let (yo, yt, yh) = a.was q y h in
            as_was (λ z. Together z y) (λ z t. record { uuids = t.uuids; same_name = t.same_name }) xo x xh
            (as_was (Together xo) (λ z t. record { uuids = t.uuids; same_name = t.same_name }) yo y yh (before.together p q xo yo apart xt yt));
        carries = λ i n g live. carries_from f (HeldIn f w) w.root w.ops now done_before own_before i n g (before.carries i n g (live_from f (HeldIn f w) w.root w.ops now done_before own_before i n g live));
        shards = λ j u e out i n is.
            let h = before.shards j u e out i n is in
            let (op, there, how) = a.stays u.op h.op h.op_there in
            record {
              op = op;
              op_there = there;
              uuid_is = as_was (λ (y : Op). y.uuid ≡ u.uuid) (λ y z. z) h.op op how h.uuid_is;
              source_is = as_was (λ (y : Op). u.source ≡ y.source) (λ y z. z) h.op op how h.source_is;
              s = h.s;
              s_there = as_was (λ (y : Op). Has y.shards h.s) (λ y z. z) h.op op how h.s_there;
              state = h.state;
              index_is = h.index_is;
              shard_is = h.shard_is;
              base = base_from f (HeldIn f w) w.root w.ops now done_before own_before i n u.base h.base;
              ids = h.ids;
            };
        one_shard = before.one_shard;
        plans = λ j u e out uns pres uuids s is. plan_on w.ops now on_with f w.root s (before.plans j u e out uns pres uuids s is);
        finals = λ j u e out uns pres info results made is.
            let h = before.finals j u e out uns pres info results made is in
            let (op, there, how) = a.stays u.op h.op h.op_there in
            record {
              op = op;
              op_there = there;
              done = as_was (λ (y : Op). AllDone y.shards results) (λ y z. z) h.op op how h.done;
              info_is = as_was (λ (y : Op). info ≡ info_of y results) (λ y z. z) h.op op how h.info_is;
              made_is = as_was (λ (y : Op). (blobs : Blobs) × (made ≡ made_of f blobs y)) (λ y z. (z.0, z.1 ∙ made_same z.0 y y.source)) h.op op how h.made_is;
              root_is = h.root_is;
            };
        held = λ p q z j e m state. let (old, there, how) = a.was p q e in before.held p old z j there (as_is (λ (y : Op). Has y.shards z) (λ y h. h) old q how m) state;
      }

  evolves : (old op : Op) → (op ≡ old) ⊎ (op ≡ record old { aborted = Some by }) → Evolves old op
  evolves old op how =
      record {
        shards = λ z m. (z, as_is (λ (y : Op). Has y.shards z) (λ y h. h) old op how m, refl, refl, (λ i. i), (λ p. p), (λ p. inl p));
        failed = λ h. as_was (λ (y : Op). y.failed ≡ true) (λ y z. z) old op how h;
        stopped = λ h. as_was Stopped (λ y z. elim z [ inl x ↦ inl x | inr x ↦ inr (by, refl) ]) old op how h;
        source = as_was (λ (y : Op). y.source ≡ old.source) (λ y z. z) old op how refl;
      }

  back : (o : ℕ) (op : Op) → fin.get now o ≡ Some op → (old : Op) × (fin.get w.ops o ≡ Some old) × Evolves old op
  back o op e = let (old, there, how) = a.was o op e in (old, there, evolves old op how)

  forth : (o : ℕ) (old : Op) → fin.get w.ops o ≡ Some old → (op : Op) × (fin.get now o ≡ Some op) × Evolves old op
  forth o old e = let (op, there, how) = a.stays o old e in (op, there, evolves old op how)

  outs : (o : ℕ) (op : Op) → fin.get now o ≡ Some op → (z : ShardWork) → Has op.shards z → (k : ℕ) → z.state ≡ Out k → (old : Op) × (fin.get w.ops o ≡ Some old) × Has old.shards z
  outs o op e z m k out = let (old, there, how) = a.was o op e in (old, there, as_is (λ (y : Op). Has y.shards z) (λ y h. h) old op how m)

  pub queue_aborts : Queue w.term w.root now w.deletes w.completed w.next_op w.tickets
  queue_aborts =
      queue_ops w.term w.root w.ops w.deletes w.completed w.next_op w.tickets l.queue now w.completed back forth
      (queued_back w.term w.root w.ops w.deletes w.completed w.next_op w.tickets l.queue now back outs)
      (λ o op results e all. let (old, there, how) = a.was o op e in l.queue.completes o old results there (as_is (λ (y : Op). AllDone y.shards results) (λ y h. h) old op how all))
      l.queue.completed_numbers
      (λ o op h e. let (old, there, how) = a.was o op e in let (results, all) = l.queue.completed_done o old h there in (results, as_was (λ (y : Op). AllDone y.shards results) (λ y z. z) old op how all))

pub delete_asked_lawful : (f : Formats) (w : World) (shelf : List Shelved) → Lawful f w shelf → (uuids : List ℕ) (new : World) → AskDelete w uuids new → Lawful f new shelf
delete_asked_lawful f w shelf l uuids new d = subst (λ x. Lawful f x shelf) (sym d.new_is) (record {
  sound = record {
    rooted = record { kept = l.sound.rooted.kept; doomed_begun = l.sound.rooted.doomed_begun; tickets = l.sound.rooted.tickets; single = l.sound.rooted.single };
    carried = carried_aborts f w shelf l d.ops w.next_op d.aborts;
    fresh = l.sound.fresh;
  };
  queue = queue_add_delete w.term w.root d.ops w.deletes w.completed w.next_op w.tickets (queue_aborts f w shelf l d.ops w.next_op d.aborts)
      (record { uuids = uuids; clean = false; failed = false }) (λ e y h. (d.no_cleanup e y h, refl)) (λ e. absurd (true≢false (sym e))) (λ e. absurd (true≢false (sym e)))
      (λ o op u e is. let (old, there, how) = d.aborts.was o op e in d.spares o old u there (source_of w.next_op old op how ∙ is));
})

pub merge_lawful : (f : Formats) (w : World) (shelf : List Shelved) → Lawful f w shelf → (uuids : List ℕ) (n : ℕ) (new : World) → MergeDelete w uuids n new → Lawful f new shelf
merge_lawful f w shelf l uuids n new d = subst (λ x. Lawful f x shelf) (sym d.new_is) (record {
  sound = record {
    rooted = record { kept = l.sound.rooted.kept; doomed_begun = l.sound.rooted.doomed_begun; tickets = l.sound.rooted.tickets; single = l.sound.rooted.single };
    carried = carried_aborts f w shelf l d.ops n d.aborts;
    fresh = l.sound.fresh;
  };
  queue = queue_delete w.term w.root d.ops w.deletes w.completed w.next_op w.tickets (queue_aborts f w shelf l d.ops n d.aborts) n d.x _ d.there refl (λ e. e)
      (λ k h t e same. let one : h.t ≡ t = same_Some _ _ (sym h.there ∙ e) in d.waiting k h.t h.there h.out h.present (ap (λ (x : Ticket). x.op) one ∙ same))
      (λ o op u e is. let (old, there, how) = d.aborts.was o op e in let from = source_of n old op how ∙ is in none_both d.x.uuids d.more u ((l.queue.sources o old u there from).1 n d.x d.there) (d.spares o old u there from));
})

pub cleanup_asked_lawful : (f : Formats) (w : World) (shelf : List Shelved) → Lawful f w shelf → (new : World) → AskCleanup w new → Lawful f new shelf
cleanup_asked_lawful f w shelf l new d = subst (λ x. Lawful f x shelf) (sym d.new_is) (record {
  sound = record { rooted = record { kept = l.sound.rooted.kept; doomed_begun = l.sound.rooted.doomed_begun; tickets = l.sound.rooted.tickets; single = l.sound.rooted.single }; carried = l.sound.carried; fresh = l.sound.fresh };
  queue = queue_add_delete w.term w.root w.ops w.deletes w.completed w.next_op w.tickets l.queue (record { uuids = []; clean = true; failed = false })
      (λ e y h. absurd (d.no_delete e y h)) (λ e. d.no_op) (λ e. d.no_ticket) (λ o op u e is. absurd (d.no_op o op e));
})
