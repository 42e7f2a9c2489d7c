-- What take gives: a ready unit keeps the law.
use Rattle.std.proofs.Common.{◌≡◌, ◌≢◌, ◌⊎◌, ℕ, suc, ◌<◌, ◌≤◌, List, [], true, true≢false, Option, Some, None, map, refl, sym, ap, ◌∙◌, subst, inl, inr, arith, le_refl, nat_cmp}
use Rattle.std.specs.FinMap.{FinMap}
use Rattle.std.specs.FinMap as fin
use Rattle.std.proofs.lemmas.Option.{same_Some, none-some}
use Rattle.esr_core.specs.Laws.NumberMaps.{was_in, other_in, same_in, split_at}
use Rattle.esr_model.specs.Names.{BlobName, Root}
use Rattle.esr_model.specs.Cleanup.{BlobSize, names_listed}
use Rattle.esr_model.specs.Values.{Bytes, RootData, SnapInfo, ShardResult, Formats}
use Rattle.esr_model.specs.Shelf.{Shelved, Command}
use Rattle.esr_model.specs.Image.{Has}
use Rattle.esr_core.specs.World.{World, Op, Deletion, ShardWork, Pending, Out, Done, Work, Shard, Finalize, Deleting, Drop, Ticket, Swap, swap, swap_of, AllDone, ledger_of, HeldIn, metadata, info_of}
use Rattle.esr_core.specs.Ready.{Goes, Waits, Barrier, IsMaster}
use Rattle.esr_core.specs.Steps.{TakeShard, TakeFinalize, given, shard_ticket, final_ticket, plain_ticket}
use Rattle.esr_core.specs.Turns.{TakeReadyShard, TakeReadyFinal, TakeDrop, TakeDelete, TakeCleanup, cleaning_ticket}
use Rattle.esr_core.specs.Swaps.{Rooted, TicketLaw, IsSwapping}
use Rattle.esr_core.specs.Generations.{Carried}
use Rattle.esr_core.specs.Queue.{Queue, QueueIn, Lawful}
use Rattle.esr_model.specs.Lists.{Has-mapped}
use Rattle.esr_core.specs.Laws.DoneShards.{done_of}
use Rattle.esr_core.proofs.Tickets.{each_ticket}
use Rattle.esr_core.proofs.Take.{carried_new}
use Rattle.esr_core.specs.Laws.ShardStates.{given_is, pending_done, out_done, out_pending}
use Rattle.esr_core.proofs.TakeShard.{taken_shard}
use Rattle.esr_core.proofs.Law.{take_law}
use Rattle.esr_core.specs.Laws.Maps.{Ops}
use Rattle.esr_core.proofs.Queues.{queue_new}
use Rattle.esr_core.proofs.Evolving.{free_of, all_done_back, out_up}

pub fresh_new : (tickets : FinMap nat_cmp Ticket) (next : ℕ) (v : Ticket) → ((k : ℕ) (t : Ticket) → fin.get tickets k ≡ Some t → k < next) → (j : ℕ) (u : Ticket) → fin.get (fin.insert tickets next v) j ≡ Some u → j < suc next
fresh_new tickets next v fresh j u e = elim (was_in tickets next v j u e) [
  | inl h ↦ omega (arith, h.0)
  | inr h ↦ let b : j < next = fresh j u h.1 in omega arith
]

-- a ticket that has no swap yet
module _ (f : Formats) (w : World) (shelf : List Shelved) (l : Rooted f w shelf) (v : Ticket) (none : swap f v ≡ None) (unraised : v.raised ≡ None) (unlisted : v.listed ≡ []) (present : v.term ≡ w.term) where
  no_swap : (s : Swap) → swap f v ≡ Some s → ⊥
  no_swap s e = none-some s (sym none ∙ e)

  law : TicketLaw f (HeldIn f w) w.doomed (ledger_of w) shelf v
  law =
      record {
        term = subst (λ n. v.term ≤ n) present (le_refl v.term);
        raised = λ n e. absurd (none-some n (sym unraised ∙ e));
        last = λ s i. absurd (no_swap s i.is);
        shape = λ s e. absurd (no_swap s e);
        swaps = λ s i. absurd (no_swap s i.is);
        clean = λ s i. absurd (no_swap s i.is);
        clean_root = λ n e. absurd (none-some n (sym unraised ∙ e));
        listed = λ n m. absurd (subst (λ (xs : List BlobSize). Has (names_listed f xs) (Root n)) unlisted m);
      }

  was_swapping : (j : ℕ) → IsSwapping f (fin.insert w.tickets w.next_ticket v) w.term j → IsSwapping f w.tickets w.term j
  was_swapping j h = elim (was_in w.tickets w.next_ticket v j h.t h.there) [
    | inl e ↦ absurd (no_swap h.s (subst (λ u. swap f u ≡ Some h.s) (sym e.1) h.is.is))
    | inr e ↦ record { t = h.t; there = e.1; s = h.s; is = h.is; present = h.present }
  ]

  pub rooted_new : (ops : Ops) → Rooted f (record w { ops = ops; tickets = fin.insert w.tickets w.next_ticket v; next_ticket = suc w.next_ticket }) shelf
  rooted_new ops =
      record {
        kept = l.kept;
        doomed_begun = l.doomed_begun;
        tickets = each_ticket (TicketLaw f (HeldIn f w) w.doomed (ledger_of w) shelf) w.tickets w.next_ticket v law (λ j u apart e. l.tickets j u e);
        single = λ i j a b. l.single i j (was_swapping i a) (was_swapping j b);
      }

-- a new ticket that is neither of a shard nor of a finalization
module _ (f : Formats) (w : World) (c : Carried f (HeldIn f w) w.safe w.term w.root w.ops w.tickets) (fresh : (k : ℕ) (t : Ticket) → fin.get w.tickets k ≡ Some t → k < w.next_ticket)
    (v : Ticket) (no_shard : (i n : ℕ) → v.work ≡ Shard i n → ⊥) (no_final : (info : SnapInfo) (results : List ShardResult) (made : Command) → v.work ≡ Finalize info results made → ⊥)
    (no_plan : (uuids : List ℕ) (s : Swap) → v.work ≡ Deleting uuids (Some s) → ⊥) where
  pub carried_plain : Carried f (HeldIn f w) w.safe w.term w.root w.ops (fin.insert w.tickets w.next_ticket v)
  carried_plain = carried_new f w c fresh v no_shard (λ info rs made e. absurd (no_final info rs made e)) (λ uuids s e. absurd (no_plan uuids s e))

module _ (f : Formats) (w : World) (shelf : List Shelved) (l : Lawful f w shelf) where
  -- an op that goes isn't being dropped
  goes_aside : (o : ℕ) (op : Op) → fin.get w.ops o ≡ Some op → Goes op → (j : ℕ) (u : Ticket) → fin.get w.tickets j ≡ Some u → u.out ≡ true → u.term ≡ w.term → u.work ≡ Drop → u.op ≡ o → ⊥
  goes_aside o op there goes j u e out pres is same = elim (l.queue.drops j u e out pres is).stopped [
    | inl h ↦
        let one : h.0 ≡ op = same_Some _ _ (sym h.1 ∙ ap (fin.get w.ops) same ∙ there) in
        elim h.2 [
          | inl x ↦ true≢false (sym x ∙ ap (λ (z : Op). z.failed) one ∙ goes.unfailed)
          | inr x ↦ none-some x.0 (sym goes.unaborted ∙ ap (λ (z : Op). z.aborted) (sym one) ∙ x.1)
        ]
    | inr h ↦ l.queue.apart o op h.0 there (ap (fin.get w.deletes) (sym same) ∙ h.1)
  ]

  -- no cleanup is open beside an open snapshot
  no_cleanup : (o : ℕ) (op : Op) → fin.get w.ops o ≡ Some op → (j : ℕ) (u : Ticket) → fin.get w.tickets j ≡ Some u → u.out ≡ true → IsMaster u.work → u.term ≡ w.term → (x : Deletion) → fin.get w.deletes u.op ≡ Some x
      → x.clean ≡ true → ⊥
  no_cleanup o op there j u e out m pres x h clean = (l.queue.lone u.op x h clean).0 o op there

  abbrev drop_ticket : ℕ → Ticket
  drop_ticket o = plain_ticket w o Drop

  abbrev deleting_ticket : ℕ → Deletion → Ticket
  deleting_ticket d x = plain_ticket w d (Deleting x.uuids None)

  pub drop_lawful : (o : ℕ) (new : World) → TakeDrop w o new → Lawful f new shelf
  drop_lawful o new d = subst (λ x. Lawful f x shelf) (sym d.new_is) (record {
    sound = record {
      rooted = rooted_new f w shelf l.sound.rooted (drop_ticket o) refl refl refl refl w.ops;
      carried = carried_plain f w l.sound.carried l.sound.fresh (drop_ticket o) (λ i n e. cc) (λ a b c e. cc) (λ us s e. cc);
      fresh = fresh_new w.tickets w.next_ticket (drop_ticket o) l.sound.fresh;
    };
    queue = queue_new w.term w.tickets w.next_ticket (drop_ticket o) w.root w.ops w.deletes w.completed w.next_op (λ uuids plan e. absurd (differ e)) (λ e. (d.ready.stopped, d.ready.idle)) (λ m. absurd m)
        (λ j u e out pres is same. d.ready.idle j (record { t = u; there = e; out = out; op_is = same; counts = inr pres }))
        (λ m. absurd m)
        (λ j u e out m pres x h clean. elim d.ready.stopped [
          | inl y ↦ no_cleanup o y.0 y.1 j u e out m pres x h clean
          | inr y ↦ d.ready.idle j (record { t = u; there = e; out = out; op_is = sym ((l.queue.lone u.op x h clean).1 o y.0 y.1); counts = inr pres })
        ]) l.queue;
  })
    where
      differ : {uuids : List ℕ} {plan : Option Swap} → Drop ≡ Deleting uuids plan → ⊥
      differ e = cc

  pub delete_lawful : (d : ℕ) (x : Deletion) (new : World) → TakeDelete w d x new → Lawful f new shelf
  delete_lawful d x new h = subst (λ x. Lawful f x shelf) (sym h.new_is) (record {
    sound = record {
      rooted = rooted_new f w shelf l.sound.rooted (deleting_ticket d x) refl refl refl refl w.ops;
      carried = carried_plain f w l.sound.carried l.sound.fresh (deleting_ticket d x) (λ i n e. cc) (λ a b c e. cc) (λ us s e. none-some s (unplanned e));
      fresh = fresh_new w.tickets w.next_ticket (deleting_ticket d x) l.sound.fresh;
    };
    queue = queue_new w.term w.tickets w.next_ticket (deleting_ticket d x) w.root w.ops w.deletes w.completed w.next_op
        (λ uuids plan e. record {
          deletion = x;
          there = h.ready.there;
          unfailed = h.ready.unfailed;
          first = h.ready.first;
          root_is = refl;
          planned = λ s is. absurd (none-some s (unplanned e ∙ is));
          named = λ c us p z. sym (uuids_same z);
          keeps = λ s is. absurd (none-some s (unplanned e ∙ is));
        })
        (λ e. absurd (differ e)) (λ m. h.ready.no_swap)
        (λ j u e out pres is same. elim (l.queue.drops j u e out pres is).stopped [
          | inl y ↦ l.queue.apart d y.0 x (ap (fin.get w.ops) (sym same) ∙ y.1) h.ready.there
          | inr y ↦ true≢false (sym y.2 ∙ ap (λ (z : Deletion). z.failed) (same_Some _ _ (sym y.1 ∙ ap (fin.get w.deletes) same ∙ h.ready.there)) ∙ h.ready.unfailed)
        ])
        (λ m y there clean. absurd (true≢false (sym clean ∙ ap (λ (z : Deletion). z.clean) (same_Some _ _ (sym there ∙ h.ready.there)) ∙ h.ready.deletes)))
        (λ j u e out m pres y there clean.
        let same : d ≡ u.op = (l.queue.lone u.op y there clean).1 d x h.ready.there in
        true≢false (sym clean ∙ ap (λ (z : Deletion). z.clean) (same_Some _ _ (sym there ∙ ap (fin.get w.deletes) (sym same) ∙ h.ready.there)) ∙ h.ready.deletes))
        l.queue;
  })
    where
      uuids_same : {us : List ℕ} {p : Option Swap} → Deleting x.uuids None ≡ Deleting us p → x.uuids ≡ us
      uuids_same e = cc

      differ : Deleting x.uuids None ≡ Drop → ⊥
      differ e = cc

      unplanned : {uuids : List ℕ} {plan : Option Swap} → Deleting x.uuids None ≡ Deleting uuids plan → None ≡ plan
      unplanned e = cc

  pub cleanup_lawful : (d : ℕ) (x : Deletion) (new : World) → TakeCleanup w d x new → Lawful f new shelf
  cleanup_lawful d x new h = subst (λ x. Lawful f x shelf) (sym h.new_is) (record {
    sound = record {
      rooted = rooted_new f w shelf l.sound.rooted (cleaning_ticket w d) refl refl refl refl w.ops;
      carried = carried_plain f w l.sound.carried l.sound.fresh (cleaning_ticket w d) (λ i n e. cc) (λ a b c e. cc) (λ us s e. none-some s (unplanned e));
      fresh = fresh_new w.tickets w.next_ticket (cleaning_ticket w d) l.sound.fresh;
    };
    queue = queue_new w.term w.tickets w.next_ticket (cleaning_ticket w d) w.root w.ops w.deletes w.completed w.next_op
        (λ uuids plan e. record {
          deletion = x;
          there = h.ready.there;
          unfailed = h.ready.unfailed;
          first = λ p q lt e. h.ready.no_op p q e;
          root_is = refl;
          planned = λ s is. absurd (none-some s (unplanned e ∙ is));
          named = λ c. absurd (true≢false c);
          keeps = λ s is. absurd (none-some s (unplanned e ∙ is));
        })
        (λ e. absurd (differ e)) (λ m j a. h.ready.no_ticket j a.t a.there a.out)
        (λ j u e out pres is same. elim (l.queue.drops j u e out pres is).stopped [
          | inl y ↦ l.queue.apart d y.0 x (ap (fin.get w.ops) (sym same) ∙ y.1) h.ready.there
          | inr y ↦ true≢false (sym y.2 ∙ ap (λ (z : Deletion). z.failed) (same_Some _ _ (sym y.1 ∙ ap (fin.get w.deletes) same ∙ h.ready.there)) ∙ h.ready.unfailed)
        ])
        (λ m y there clean j u e out. h.ready.no_ticket j u e out)
        (λ j u e out m pres y there clean. h.ready.no_ticket j u e out)
        l.queue;
  })
    where
      differ : Deleting [] None ≡ Drop → ⊥
      differ e = cc

      unplanned : {uuids : List ℕ} {plan : Option Swap} → Deleting [] None ≡ Deleting uuids plan → None ≡ plan
      unplanned e = cc

  pub final_lawful : (o : ℕ) (op : Op) (results : List ShardResult) (new : World) → TakeReadyFinal f w o op results new → ((name : BlobName) (b : Bytes) → Has (metadata f (info_of op results)) (name, b) → Has w.doomed name → ⊥)
      → Lawful f new shelf
  final_lawful o op results new d clean = record {
    sound = take_law f w shelf l.sound o op results new it;
    queue = subst QueueIn (sym d.new_is) (queue_new w.term w.tickets w.next_ticket (final_ticket f w o op results) w.root w.ops w.deletes w.completed w.next_op
        (λ uuids plan e. absurd (differ e)) (λ e. absurd (differ_drop e)) (λ m. d.ready.no_swap) (goes_aside o op d.ready.op_there d.ready.goes)
        (λ m y there clean. absurd (l.queue.apart o op y d.ready.op_there there)) (no_cleanup o op d.ready.op_there) l.queue);
  }
    where
      differ : {info : SnapInfo} {rs : List ShardResult} {made : Command} {uuids : List ℕ} {plan : Option Swap} → Finalize info rs made ≡ Deleting uuids plan → ⊥
      differ e = cc

      differ_drop : {info : SnapInfo} {rs : List ShardResult} {made : Command} → Finalize info rs made ≡ Drop → ⊥
      differ_drop e = cc

      master : (work : Work) (root : RootData) (s : Swap) → swap_of f work root ≡ Some s → IsMaster work
      master (Finalize info rs made) root s e = tt
      master (Deleting uuids plan) root s e = tt
      master work root s e = absurd (none-some s e)

      it : TakeFinalize f w o op results new
      it = record {
        op_there = d.ready.op_there;
        done = d.ready.done;
        unfailed = d.ready.goes.unfailed;
        root_back = d.root_back;
        clean = clean;
        idle = λ k t s e is out uns pres. d.ready.no_swap k (record { t = t; there = e; out = out; unsettled = uns; present = pres; swaps = master t.work t.root s is });
        new_is = d.new_is;
      }

module _ (f : Formats) (w : World) (shelf : List Shelved) (l : Lawful f w shelf) (o : ℕ) (op : Op) (s : ShardWork) (base : Option ℕ) (new : World) (d : TakeReadyShard w o op s base new) where
  abbrev k : ℕ
  k = w.next_ticket

  abbrev v : Ticket
  v = shard_ticket w o op s base

  abbrev g : ShardWork → ShardWork
  g = given k s.ref.id s.number

  abbrev now : Op
  now = record op { shards = map g op.shards }

  abbrev now_ops : Ops
  now_ops = fin.insert w.ops o now

  q : QueueIn w
  q = l.queue

  was_op : (p : ℕ) (x : Op) → fin.get now_ops p ≡ Some x → ((p ≡ o) × (now ≡ x)) ⊎ ((p ≢ o) × (fin.get w.ops p ≡ Some x))
  was_op p x e = was_in w.ops o now p x e

  -- a shard of the op, as it was
  was_shard : (x : Op) (z : ShardWork) → now ≡ x → Has x.shards z
      → (y : ShardWork) × Has op.shards y × ((z ≡ y) ⊎ ((y.ref.id ≡ s.ref.id) × (y.number ≡ s.number) × (record y { state = Out k } ≡ z)))
  was_shard x z e m =
      let (y, m', same) = Has-mapped g op.shards z (subst (λ (x : Op). Has x.shards z) (sym e) m) in
      (y, m', elim (given_is k s.ref.id s.number y) [ inl h ↦ inr (h.0, h.1, sym h.2 ∙ same) | inr h ↦ inl (sym same ∙ h.1) ])

  queued_now : (p r : ℕ) (a b : Op) (x z : ShardWork) → p < r → fin.get now_ops p ≡ Some a → fin.get now_ops r ≡ Some b → Has a.shards x → Has b.shards z
      → x.ref.id ≡ z.ref.id → x.number ≡ z.number → x.state ≡ Pending → (j : ℕ) → z.state ≡ Out j → ⊥
  queued_now p r a b x z lt ea eb ma mb i n pend j out = elim (was_op r b eb) [
    | inr hb ↦ elim (was_op p a ea) [
      | inr ha ↦ q.queued p r a b x z lt ha.1 hb.1 ma mb i n pend j out
      | inl ha ↦ let (y, m, how) = was_shard a x ha.1 ma in elim how [
        | inl same ↦ q.queued o r op b y z (subst (λ c. c < r) ha.0 lt) d.ready.op_there hb.1 m mb (sym (ap (λ (c : ShardWork). c.ref.id) same) ∙ i)
            (sym (ap (λ (c : ShardWork). c.number) same) ∙ n) (sym (ap (λ (c : ShardWork). c.state) same) ∙ pend) j out
        | inr taken ↦ out_pending (ap (λ (c : ShardWork). c.state) taken.2 ∙ pend)
      ]
    ]
    | inl hb ↦ elim (was_op p a ea) [
      | inl ha ↦ absurd (omega (arith, lt, ha.0, hb.0))
      | inr ha ↦ let (y, m, how) = was_shard b z hb.1 mb in elim how [
        | inl same ↦
            q.queued p o a op x y (subst (λ c. p < c) hb.0 lt) ha.1 d.ready.op_there ma m (i ∙ ap (λ (c : ShardWork). c.ref.id) same) (n ∙ ap (λ (c : ShardWork). c.number) same) pend j (sym (ap (λ (c : ShardWork). c.state) same) ∙ out)
        | inr taken ↦ d.ready.first p a x (subst (λ c. p < c) hb.0 lt) ha.1 ma (i ∙ sym (ap (λ (c : ShardWork). c.ref.id) taken.2) ∙ taken.0) (n ∙ sym (ap (λ (c : ShardWork). c.number) taken.2) ∙ taken.1) (subst Waits (sym pend) tt)
      ]
    ]
  ]

  given_done : (z : ShardWork) (r : ShardResult) → (g z).state ≡ Done r → g z ≡ z
  given_done z r e = elim (given_is k s.ref.id s.number z) [ inl h ↦ absurd (out_done (ap (λ (x : ShardWork). x.state) (sym h.2) ∙ e)) | inr h ↦ h.1 ]

  ops_queue : Queue w.term w.root now_ops w.deletes w.completed w.next_op w.tickets
  ops_queue =
      record {
        numbers = λ p x e. elim (was_op p x e) [ inl h ↦ subst (λ c. c < w.next_op) (sym h.0) (q.numbers o op d.ready.op_there) | inr h ↦ q.numbers p x h.1 ];
        delete_numbers = q.delete_numbers;
        apart = λ p x y e h. elim (was_op p x e) [ inl z ↦ q.apart o op y d.ready.op_there (ap (fin.get w.deletes) (sym z.0) ∙ h) | inr z ↦ q.apart p x y z.1 h ];
        behind = λ p x z e b m. elim (was_op p x e) [ inl h ↦ absurd (d.ready.no_barrier (subst (Barrier w.deletes) h.0 b)) | inr h ↦ q.behind p x z h.1 b m ];
        queued = queued_now;
        given_up = λ p x z e m up. elim (was_op p x e) [
          | inr h ↦ q.given_up p x z h.1 m up
          | inl h ↦ let (y, m', how) = was_shard x z h.1 m in elim how [
            | inl same ↦ ap (λ (c : Op). c.failed) (sym h.1) ∙ q.given_up o op y d.ready.op_there m' (sym (ap (λ (c : ShardWork). c.state) same) ∙ up)
            | inr taken ↦ absurd (out_up (ap (λ (c : ShardWork). c.state) taken.2 ∙ up))
          ]
        ];
        completes = λ p x results e all. elim (was_op p x e) [
          | inr h ↦ q.completes p x results h.1 all
          | inl h ↦ subst (Has w.completed) (sym h.0) (q.completes o op results d.ready.op_there (all_done_back g given_done op.shards results (subst (λ (c : Op). AllDone c.shards results) (sym h.1) all)))
        ];
        sources = λ p x u e is. elim (was_op p x e) [ inl z ↦ q.sources o op u d.ready.op_there (ap (λ (v : Op). v.source) z.1 ∙ is) | inr z ↦ q.sources p x u z.1 is ];
        sole = q.sole;
        lone = λ e y h c. let was = q.lone e y h c in ((λ p x z. was.0 o op d.ready.op_there), was.1);
        completed_numbers = q.completed_numbers;
        completed_done = λ p x h e. elim (was_op p x e) [
          | inr z ↦ q.completed_done p x h z.1
          | inl z ↦
              let (results, all) = q.completed_done o op (subst (Has w.completed) z.0 h) d.ready.op_there in
              let (r, state, there) = done_of op.shards results all s d.ready.s_there in
              absurd (pending_done (sym d.ready.pending ∙ state))
        ];
        deleting = λ j t e out uns pres uuids plan is. let h = q.deleting j t e out uns pres uuids plan is in record {
          deletion = h.deletion;
          there = h.there;
          unfailed = h.unfailed;
          first = λ p a lt x. elim (was_op p a x) [ inl z ↦ h.first o op (subst (λ c. c < t.op) z.0 lt) d.ready.op_there | inr z ↦ h.first p a lt z.1 ];
          root_is = h.root_is;
          planned = h.planned;
          named = h.named;
          keeps = h.keeps;
        };
        drops = λ j t e out pres is. let h = q.drops j t e out pres is in record {
          stopped = elim h.stopped [
            | inr x ↦ inr x
            | inl x ↦ elim (split_at t.op o) [
              | inl same ↦
                  let one : x.0 ≡ op = same_Some _ _ (sym x.1 ∙ ap (fin.get w.ops) same ∙ d.ready.op_there) in
                  inl (now, ap (fin.get now_ops) same ∙ same_in w.ops o now, elim x.2 [ inl fl ↦ inl (ap (λ (c : Op). c.failed) (sym one) ∙ fl) | inr ab ↦ inr (ab.0, ap (λ (c : Op). c.aborted) (sym one) ∙ ab.1) ])
              | inr apart ↦ inl (x.0, other_in w.ops o now t.op apart ∙ x.1, x.2)
            ]
          ];
          alone = h.alone;
        };
        one_swap = q.one_swap;
      }

  differ : {i n : ℕ} {uuids : List ℕ} {plan : Option Swap} → Shard i n ≡ Deleting uuids plan → ⊥
  differ e = cc

  differ_drop : {i n : ℕ} → Shard i n ≡ Drop → ⊥
  differ_drop e = cc

  it : TakeShard w o op s base new
  it = record { op_there = d.ready.op_there; s_there = d.ready.s_there; pending = d.ready.pending; free = free_of f w o op s l.sound.carried l.queue d.ready; largest = d.largest; new_is = d.new_is }

  pub shard_lawful : Lawful f new shelf
  shard_lawful = subst (λ x. Lawful f x shelf) (sym d.new_is) (record {
    sound = record {
      rooted = rooted_new f w shelf l.sound.rooted v refl refl refl refl now_ops;
      carried = taken_shard f w o op s base new it l.sound.carried l.sound.fresh;
      fresh = fresh_new w.tickets w.next_ticket v l.sound.fresh;
    };
    queue = queue_new w.term w.tickets k v w.root now_ops w.deletes w.completed w.next_op (λ uuids plan e. absurd (differ e)) (λ e. absurd (differ_drop e)) (λ m. absurd m)
        (goes_aside f w shelf l o op d.ready.op_there d.ready.goes) (λ m. absurd m) (no_cleanup f w shelf l o op d.ready.op_there) ops_queue;
  })
