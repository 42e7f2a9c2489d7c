-- A draw keeps the law: of a shard unit, and of a delete, which makes its swap with it.
use Rattle.std.proofs.Common.{◌≡◌, ℕ, ◌<◌, ◌≤◌, List, [], ◌∷◌, false, Option, Some, None, refl, sym, ap, ◌∙◌, subst, inl, inr, arith}
use Rattle.std.specs.Prelude.{if◌then◌else◌}
use Rattle.std.specs.FinMap as fin
use Rattle.std.proofs.lemmas.Option.{same_Some, none-some}
use Rattle.std.proofs.lemmas.Bool.{cond-true, cond-false, cases_Bool}
use Rattle.esr_core.specs.Laws.NumberMaps.{was_in, other_in}
use Rattle.esr_model.specs.Names.{BlobName, Root, ShardIndex}
use Rattle.esr_model.specs.Values.{Bytes, RootSnap, RootData, SnapInfo, ShardFiles, ShardResult, Formats}
use Rattle.esr_model.specs.Shelf.{Shelved, Command, left_shelf, names_uuid, shelf_after}
use Rattle.esr_model.specs.Image.{Has, AllPairs, SnapStands, RootStands}
use Rattle.esr_model.specs.Delete.{Deletes, left_snaps}
use Rattle.esr_core.specs.World.{World, Shard, Finalize, Deleting, Drop, Ticket, Swap, ledger_of, HeldIn}
use Rattle.esr_core.specs.Ready.{IsMaster, IsShard, SwapIsOut}
use Rattle.esr_core.specs.Turns.{DrawShard, DrawPlan}
use Rattle.esr_core.specs.Swaps.{TicketLaw, SwapLaw, SwapShape, IsSwapping, Counts, OrOwn}
use Rattle.esr_core.specs.Generations.{Carried, BaseBelow, PlanLaw}
use Rattle.esr_core.specs.Sound.{Sound}
use Rattle.esr_core.specs.Queue.{Lawful, DeleteLaw, Shrinks}
use Rattle.esr_core.specs.Laws.OneValue.{held_one, reads_one, safe_root_stands}
use Rattle.esr_core.specs.Laws.DeleteRoots.{left_has}
use Rattle.esr_core.proofs.Deleting.{stage_delete}
use Rattle.esr_core.proofs.Tickets.{each_ticket}
use Rattle.esr_core.proofs.Same.{SameTicket, notes_same}
use Rattle.esr_core.proofs.Law.{quiet, fresh_same}
use Rattle.esr_core.proofs.Settling.{swap_master}
use Rattle.esr_core.proofs.Queues.{queue_ticket}

-- what isn't named is left
pub left_stays : (uuids : List ℕ) (ss : List RootSnap) (s : RootSnap) → Has ss s → names_uuid uuids s.uuid ≡ false → Has (left_snaps uuids ss) s
left_stays uuids [] s h e = h
left_stays uuids (x ∷ xs) s (inl same) e = subst (λ l. Has l s) (sym (cond-false _ _ _ (ap (λ (y : RootSnap). names_uuid uuids y.uuid) same ∙ e))) (inl same)
left_stays uuids (x ∷ xs) s (inr m) e = elim (cases_Bool (names_uuid uuids x.uuid)) [
  | inl b ↦ subst (λ l. Has l s) (sym (cond-true _ _ _ b)) (left_stays uuids xs s m e)
  | inr b ↦ subst (λ l. Has l s) (sym (cond-false _ _ _ b)) (inr (left_stays uuids xs s m e))
]

pub draw_shard_lawful : (f : Formats) (w : World) (shelf : List Shelved) → Lawful f w shelf → (k n : ℕ) (new : World) (d : DrawShard w k n new) → ((id : ℕ) → w.next_id ≤ id → (d.t.uuid < id) × BaseBelow d.t.base id)
    → Lawful f new shelf
draw_shard_lawful f w shelf l k n new d above = subst (λ x. Lawful f x shelf) (sym d.new_is) (record {
  sound = record {
    rooted = record { kept = it.rooted.kept; doomed_begun = it.rooted.doomed_begun; tickets = it.rooted.tickets; single = it.rooted.single };
    carried = it.carried;
    fresh = it.fresh;
  };
  queue = queue_ticket w.term w.tickets k d.t v d.out.there (record { op = refl; term = refl; out = λ e. e; settled = λ e. e; master = λ m. m; shard = λ s. s; drop = λ x. x }) w.root w.ops w.deletes w.completed w.next_op
      (λ o u p uuids plan is. absurd (subst IsShard is d.shard)) l.queue;
})
  where
    v : Ticket
    v = record d.t { first = w.next_id; drawn = n }

    same : SameTicket d.t (record d.t { first = w.next_id; drawn = n })
    same = notes_same d.t w.next_id n d.t.noted d.t.wrote d.t.read d.t.raised d.t.tried_latest d.t.listed d.t.whole (λ id from below. inr (above id from))

    old : TicketLaw f (HeldIn f w) w.doomed (ledger_of w) shelf d.t
    old = l.sound.rooted.tickets k d.t d.out.there

    it : Sound f (record w { tickets = fin.insert w.tickets k (record d.t { first = w.next_id; drawn = n }) }) shelf
    it = quiet f w shelf l.sound k d.t (record d.t { first = w.next_id; drawn = n }) d.out.there same
        (record {
          term = old.term;
          raised = old.raised;
          shape = old.shape;
          clean_root = old.clean_root;
          listed = old.listed;
          clean = λ s i. old.clean s (record { is = i.is; out = i.out; unsettled = i.unsettled });
          last = λ s i. old.last s (record { is = i.is; out = i.out; unsettled = i.unsettled });
          swaps = λ s i. old.swaps s (record { is = i.is; out = i.out; unsettled = i.unsettled });
        })
        (λ s i e. (record { is = i.is; out = i.out; unsettled = i.unsettled }, e))

module _ (f : Formats) (w : World) (shelf : List Shelved) (l : Lawful f w shelf) (k n : ℕ) (new : World) (d : DrawPlan f w k n new)
    (clean : (name : BlobName) (b : Bytes) → Has d.own (name, b) → Has w.doomed name → ⊥) where
  abbrev its : Swap
  its = record { root = d.root; own = d.own; commands = d.commands }

  abbrev v : Ticket
  v = record d.t { first = w.next_id; drawn = n; work = Deleting d.named (Some its) }

  law : d.t.settled ≡ false → d.t.term ≡ w.term → DeleteLaw w.root w.ops w.deletes d.t None
  law uns pres = l.queue.deleting k d.t d.out.there d.out.out uns pres d.named None d.work

  deletes : d.t.settled ≡ false → d.t.term ≡ w.term → Deletes f (HeldIn f w) w.root d.uuids d.fresh d.own d.root
  deletes uns pres = subst (λ r. Deletes f (HeldIn f w) r d.uuids d.fresh d.own d.root) (law uns pres).root_is (d.deletes pres)

  staged : d.t.settled ≡ false → d.t.term ≡ w.term → RootStands f (OrOwn (HeldIn f w) d.own) d.root (left_shelf d.uuids shelf)
  staged uns pres = stage_delete f (HeldIn f w) (held_one f w) w.root d.root d.uuids d.fresh d.own (deletes uns pres) shelf
      (safe_root_stands f (HeldIn f w) (held_one f w) w.safe w.root shelf l.sound.rooted.kept.picked l.sound.carried.root_is)

  -- the shelf that the command makes of it
  after : d.t.settled ≡ false → d.t.term ≡ w.term → left_shelf d.uuids shelf ≡ shelf_after shelf d.commands
  after uns pres = elim d.prunes [
    | inl h ↦
        same_left d.uuids d.named w.root.snapshots shelf (λ s m. h.1 s (subst (λ (r : RootData). Has r.snapshots s) (sym (law uns pres).root_is) m))
        (safe_root_stands f (HeldIn f w) (held_one f w) w.safe w.root shelf l.sound.rooted.kept.picked l.sound.carried.root_is).snapshots ∙ ap (shelf_after shelf) (sym h.2)
    | inr h ↦ all_left d.uuids w.root.snapshots shelf (λ s m. h.2 s (subst (λ (r : RootData). Has r.snapshots s) (sym (law uns pres).root_is) m))
        (safe_root_stands f (HeldIn f w) (held_one f w) w.safe w.root shelf l.sound.rooted.kept.picked l.sound.carried.root_is).snapshots ∙ ap (shelf_after shelf) (sym h.1)
  ]
    where
      -- uuids that name the same of what is listed leave the same
      same_left : (us vs : List ℕ) (ss : List RootSnap) (xs : List Shelved) → ((s : RootSnap) → Has ss s → names_uuid us s.uuid ≡ names_uuid vs s.uuid) → AllPairs (SnapStands f (HeldIn f w) w.root) ss xs
          → left_shelf us xs ≡ left_shelf vs xs
      same_left us vs [] [] same h = refl
      same_left us vs (s ∷ ss) (y ∷ ys) same h =
          let one : names_uuid us y.uuid ≡ names_uuid vs y.uuid = ap (names_uuid us) h.0.uuid_is ∙ same s (inl refl) ∙ sym (ap (names_uuid vs) h.0.uuid_is) in
          let rest : left_shelf us ys ≡ left_shelf vs ys = same_left us vs ss ys (λ z m. same z (inr m)) h.1 in
          λ j. if one j then rest j else y ∷ rest j
      same_left us vs ss xs same h = absurd h

      all_left : (uuids : List ℕ) (ss : List RootSnap) (xs : List Shelved) → ((s : RootSnap) → Has ss s → names_uuid uuids s.uuid ≡ false) → AllPairs (SnapStands f (HeldIn f w) w.root) ss xs → left_shelf uuids xs ≡ xs
      all_left uuids [] [] none h = refl
      all_left uuids (s ∷ ss) (y ∷ ys) none h = cond-false _ _ _ (ap (names_uuid uuids) h.0.uuid_is ∙ none s (inl refl)) ∙ ap (λ zs. y ∷ zs) (all_left uuids ss ys (λ z m. none z (inr m)) h.1)
      all_left uuids ss xs none h = absurd h

  counts : Counts (ledger_of w) v → d.t.term ≡ w.term
  counts (inl p) = p
  counts (inr (m, raised, above)) = absurd (none-some m (sym d.unraised ∙ raised))

  old : TicketLaw f (HeldIn f w) w.doomed (ledger_of w) shelf d.t
  old = l.sound.rooted.tickets k d.t d.out.there

  ticket_law : TicketLaw f (HeldIn f w) w.doomed (ledger_of w) shelf v
  ticket_law =
      record {
        term = old.term;
        raised = old.raised;
        last = λ s i p m e. absurd (none-some m (sym d.unraised ∙ e));
        shape = λ s e. subst (SwapShape f) (same_Some _ _ e) d.shape;
        swaps = λ s i c. subst (SwapLaw f (HeldIn f w) shelf d.t.noted) (same_Some _ _ i.is)
            (record {
              staged = subst (RootStands f (OrOwn (HeldIn f w) d.own) d.root) (after i.unsettled (counts c)) (staged i.unsettled (counts c));
              noted = λ name b m h. absurd (subst (λ ns. Has ns name) d.unnoted h);
              root_noted = λ m h. absurd (subst (λ ns. Has ns (Root m)) d.unnoted h);
            });
        clean = λ s i c name b own. clean name b (subst (λ (x : Swap). Has x.own (name, b)) (sym (same_Some _ _ i.is)) own);
        clean_root = old.clean_root;
        listed = old.listed;
      }

  -- no other swaps
  to_out : (j : ℕ) → IsSwapping f (fin.insert w.tickets k v) w.term j → SwapIsOut w.tickets w.term j
  to_out j h = elim (was_in w.tickets k v j h.t h.there) [
    | inl e ↦ record {
      t = d.t;
      there = ap (fin.get w.tickets) e.0 ∙ d.out.there;
      out = d.out.out;
      unsettled = ap (λ (x : Ticket). x.settled) e.1 ∙ h.is.unsettled;
      present = ap (λ (x : Ticket). x.term) e.1 ∙ h.present;
      swaps = subst IsMaster (sym d.work) tt;
    }
    | inr e ↦ record { t = h.t; there = e.1; out = h.is.out; unsettled = h.is.unsettled; present = h.present; swaps = swap_master f h.t.work h.t.root h.s h.is.is }
  ]

  differ : {i x : ℕ} → d.t.work ≡ Shard i x → ⊥
  differ e = subst IsShard (sym e ∙ d.work) tt

  shard_was : (j : ℕ) (u : Ticket) → fin.get (fin.insert w.tickets k v) j ≡ Some u → (i x : ℕ) → u.work ≡ Shard i x → fin.get w.tickets j ≡ Some u
  shard_was j u e i x is = elim (was_in w.tickets k v j u e) [
    | inl h ↦ absurd (apart (ap (λ (y : Ticket). y.work) h.1 ∙ is))
    | inr h ↦ h.1
  ]
    where
      apart : Deleting d.named (Some its) ≡ Shard i x → ⊥
      apart e = cc

  -- its new indices list what those of the safe root list
  new_plan : d.t.settled ≡ false → d.t.term ≡ w.term → PlanLaw f w.root w.ops its
  new_plan uns pres = λ i x g gen.
      let dels = deletes uns pres in
      elim (dels.generations i x g gen) [
        | inl stays ↦ inl stays.1
        | inr fresh ↦
            let (h, was, index_now, gen_was, was_reads, mine, back, prunes, above) = dels.pruned i x g fresh in
            let c = l.sound.carried.carries i x h (inl gen_was) in
            let same : c.stands.held ≡ was = reads_one (HeldIn f w) (held_one f w) (ShardIndex i x h) f.shard_index c.stands.held was c.stands.held_reads was_reads in
            inr (record {
              index_of = index_now;
              there = mine;
              back = back;
              below = λ y m. let b = c.stands.below y (subst (λ (z : ShardFiles). Has z.snapshots y) (sym same) (prunes.lists_from y m)) in omega (arith, b, above);
              lists = λ y m o op e is. c.own was was_reads y (prunes.lists_from y m) o op e is;
            })
      ]

  plan_of : {us : List ℕ} {p : Option Swap} → Deleting d.named (Some its) ≡ Deleting us p → Some its ≡ p
  plan_of e = cc

  carried : Carried f (HeldIn f w) w.safe w.term w.root w.ops (fin.insert w.tickets k v)
  carried =
      let c = l.sound.carried in
      record {
        root_is = c.root_is;
        ops = c.ops;
        together = c.together;
        carries = c.carries;
        shards = λ j u e out i x is. c.shards j u (shard_was j u e i x is) out i x is;
        one_shard = λ i j t u a b ao bo x y ai bi. c.one_shard i j t u (shard_was i t a x y ai) (shard_was j u b x y bi) ao bo x y ai bi;
        held = λ p q s j e m state. let h = c.held p q s j e m state in
            record {
              t = h.t;
              there = other_in w.tickets k v j (λ same. differ (ap (λ (y : Ticket). y.work) (same_Some _ _ (sym d.out.there ∙ ap (fin.get w.tickets) (sym same) ∙ h.there)) ∙ h.work)) ∙ h.there;
              out = h.out;
              op_is = h.op_is;
              work = h.work;
            };
        finals = λ j u e out uns pres info rs made is. elim (was_in w.tickets k v j u e) [
          | inl h ↦ absurd (not_final (ap (λ (y : Ticket). y.work) h.1 ∙ is))
          | inr h ↦ c.finals j u h.1 out uns pres info rs made is
        ];
        plans = λ j u e out uns pres uuids s is. elim (was_in w.tickets k v j u e) [
          | inl h ↦ subst (PlanLaw f w.root w.ops) (same_Some _ _ (plan_of (ap (λ (y : Ticket). y.work) h.1 ∙ is))) (new_plan (ap (λ (y : Ticket). y.settled) h.1 ∙ uns) (ap (λ (y : Ticket). y.term) h.1 ∙ pres))
          | inr h ↦ c.plans j u h.1 out uns pres uuids s is
        ];
      }
    where
      not_final : {info : SnapInfo} {rs : List ShardResult} {made : Command} → Deleting d.named (Some its) ≡ Finalize info rs made → ⊥
      not_final e = cc

  plan_law : v.settled ≡ false → v.term ≡ w.term → (uuids : List ℕ) (plan : Option Swap) → v.work ≡ Deleting uuids plan → DeleteLaw w.root w.ops w.deletes v plan
  plan_law uns pres uuids plan is =
      let h = law uns pres in
      let dels = deletes uns pres in
      record {
        deletion = h.deletion;
        there = h.there;
        unfailed = h.unfailed;
        first = h.first;
        root_is = h.root_is;
        planned = λ s e. subst (λ (x : Swap). Shrinks w.root x.root) (same_Some _ _ (plan_is is ∙ e))
            (record {
              snapshots = λ z m. left_has d.uuids w.root.snapshots z (subst (λ xs. Has xs z) dels.snapshots m);
              indices = dels.from;
            });
        named = λ c us p e. h.named c us None (d.work ∙ ap (λ (x : List ℕ). Deleting x None) (uuids_of e));
        keeps = λ s e z m stays. subst (λ (x : Swap). Has x.root.snapshots z) (same_Some _ _ (plan_is is ∙ e))
            (subst (λ xs. Has xs z) (sym dels.snapshots) (left_stays d.uuids w.root.snapshots z m (elim d.prunes [
              | inl c ↦ c.1 z (subst (λ (r : RootData). Has r.snapshots z) (sym h.root_is) m) ∙ ap (λ xs. names_uuid xs z.uuid) (h.named c.0 d.named None d.work) ∙ stays
              | inr c ↦ c.2 z (subst (λ (r : RootData). Has r.snapshots z) (sym h.root_is) m)
            ])));
      }
    where
      uuids_of : {us : List ℕ} {p : Option Swap} → Deleting d.named (Some its) ≡ Deleting us p → d.named ≡ us
      uuids_of e = cc

      plan_is : Deleting d.named (Some its) ≡ Deleting uuids plan → Some its ≡ plan
      plan_is e = cc

  pub draw_plan_lawful : Lawful f new shelf
  draw_plan_lawful = subst (λ x. Lawful f x shelf) (sym d.new_is) (record {
    sound = record {
      rooted = record {
        kept = l.sound.rooted.kept;
        doomed_begun = l.sound.rooted.doomed_begun;
        tickets = each_ticket (TicketLaw f (HeldIn f w) w.doomed (ledger_of w) shelf) w.tickets k v ticket_law (λ j u apart e. l.sound.rooted.tickets j u e);
        single = λ i j a b. l.queue.one_swap i j (to_out i a) (to_out j b);
      };
      carried = carried;
      fresh = fresh_same w.tickets w.next_ticket k d.t v d.out.there l.sound.fresh;
    };
    queue = queue_ticket w.term w.tickets k d.t v d.out.there
        (record { op = refl; term = refl; out = λ e. e; settled = λ e. e; master = λ m. subst IsMaster (sym d.work) tt; shard = λ s. absurd s; drop = λ x. absurd (not_drop x) })
        w.root w.ops w.deletes w.completed w.next_op (λ o u p uuids plan is. plan_law u p uuids plan is) l.queue;
  })
    where
      not_drop : Deleting d.named (Some its) ≡ Drop → ⊥
      not_drop e = cc
