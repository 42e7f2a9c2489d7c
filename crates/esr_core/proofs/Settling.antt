-- A settle, of a finalization and of a delete with what it dooms, keeps the law.
use Rattle.std.proofs.Common.{◌≡◌, ◌≢◌, ℕ, suc, ◌<◌, ◌≤◌, List, ◌++◌, Bool, true, false, true≢false, Some, refl, sym, ap, ◌∙◌, subst, inl, inr, arith, nat_cmp}
use Rattle.std.specs.Prelude.{if◌then◌else◌}
use Rattle.std.proofs.lemmas.Bool.{cases_order}
use Rattle.std.specs.FinMap.{FinMap}
use Rattle.std.specs.FinMap as fin
use Rattle.std.proofs.lemmas.Option.{same_Some, none-some}
use Rattle.esr_core.specs.Laws.NumberMaps.{was_in, left_in}
use Rattle.esr_model.specs.Parts.{part_names}
use Rattle.esr_model.specs.Names.{BlobName, Root, ShardIndex, File, Part}
use Rattle.esr_model.specs.Reach.{Reached, ReachPart}
use Rattle.esr_model.specs.Values.{RootSnap, RootData, SnapInfo, FileEntry, ShardFiles, ShardResult, Formats}
use Rattle.esr_model.specs.Shelf.{Shelved, Command, shelf_after, names_uuid}
use Rattle.esr_model.specs.Image.{Has, Generation, RootStands, RootIs}
use Rattle.esr_core.specs.World.{World, Op, Deletion, ShardWork, Out, Work, Shard, Finalize, Deleting, Drop, Ticket, Swap, swap_of, ledger_of, info_of, HeldIn}
use Rattle.esr_core.specs.Ready.{Idle, IsMaster, SwapIsOut}
use Rattle.esr_core.specs.Steps.{MaySettle, settled}
use Rattle.esr_core.specs.Turns.{SettleFinal, SettleDelete}
use Rattle.esr_core.specs.Generations.{DoneAt, ListsOwn, IsOwn, FinalLaw, PlanLaw}
use Rattle.esr_core.specs.Swaps.{Rooted, IsUnsettled, SwapLaw, Counts}
use Rattle.esr_core.specs.Doomed.{Dooms}
use Rattle.esr_core.specs.Sound.{Sound}
use Rattle.esr_core.specs.Queue.{Queue, Lawful, DeleteLaw, Shrinks, Lists}
use Rattle.esr_model.specs.Finalize.{Finalizes, finalized_root}
use Rattle.esr_core.specs.Laws.PartNames.{in_parts}
use Rattle.esr_core.specs.Laws.NewRoots.{finalizes, root_one_each, of_swap}
use Rattle.esr_model.specs.Lists.{Has-left}
use Rattle.esr_core.specs.Laws.OneValue.{held_one, reads_one, safe_root_stands}
use Rattle.esr_core.proofs.Opening.{root_carries}
use Rattle.esr_core.proofs.Owning.{OnWith, lists_on, own_on}
use Rattle.esr_core.proofs.Settle.{settles}
use Rattle.esr_core.proofs.SettleWhole.{CarriedIn}
use Rattle.esr_core.proofs.Dooming.{dooming_sound}
use Rattle.esr_core.proofs.Law.{settle_law, fresh_same}
use Rattle.esr_core.proofs.Queues.{Like, queue_ticket, queue_remove, queue_root, queue_ops}

pub like_settled : (t : Ticket) → Like t (record t { settled = true })
like_settled t = record { op = refl; term = refl; out = λ e. e; settled = λ e. absurd (true≢false e); master = λ m. m; shard = λ s. s; drop = λ d. d }

pub swap_master : (f : Formats) (work : Work) (root : RootData) (s : Swap) → swap_of f work root ≡ Some s → IsMaster work
swap_master f (Finalize info rs made) root s e = tt
swap_master f (Deleting uuids plan) root s e = tt
swap_master f work root s e = absurd (none-some s e)

module _ (f : Formats) (w : World) (shelf : List Shelved) (l : Lawful f w shelf) (k n : ℕ) (t : Ticket) (s : Swap) (may : MaySettle f w k n t s) (present : t.term ≡ w.term) where
  mine : SwapIsOut w.tickets w.term k
  mine = record { t = t; there = may.out.there; out = may.out.out; unsettled = may.unsettled; present = present; swaps = swap_master f t.work t.root s may.is }

  idle_after : (j : ℕ) → SwapIsOut (fin.insert w.tickets k (record t { settled = true })) w.term j → ⊥
  idle_after j h = elim (was_in w.tickets k (record t { settled = true }) j h.t h.there) [
    | inl e ↦ true≢false (ap (λ (x : Ticket). x.settled) e.1 ∙ h.unsettled)
    | inr e ↦ e.0 (l.queue.one_swap j k (record { t = h.t; there = e.1; out = h.out; unsettled = h.unsettled; present = h.present; swaps = h.swaps }) mine)
  ]

  -- the op leaves, and the root is the new one
  queue_settled : ((o : ℕ) (op : Op) (u : ℕ) → fin.get w.ops o ≡ Some op → op.source ≡ Some u → Lists s.root u)
      → ((j : ℕ) (u : Ticket) → fin.get w.tickets j ≡ Some u → u.out ≡ true → u.term ≡ w.term → u.work ≡ Drop → u.op ≢ t.op)
      → Queue w.term s.root (fin.remove w.ops t.op) (fin.remove w.deletes t.op) w.completed w.next_op (fin.insert w.tickets k (record t { settled = true }))
  queue_settled listed no_drop =
      queue_root w.term w.root (fin.remove w.ops t.op) (fin.remove w.deletes t.op) w.completed w.next_op (fin.insert w.tickets k (record t { settled = true }))
      (queue_remove w.term w.root w.ops w.deletes w.completed w.next_op (fin.insert w.tickets k (record t { settled = true }))
      (queue_ticket w.term w.tickets k t (record t { settled = true }) may.out.there (like_settled t) w.root w.ops w.deletes w.completed w.next_op (λ o uns. absurd (true≢false uns)) l.queue)
      t.op (λ j u e out pres is. elim (was_in w.tickets k (record t { settled = true }) j u e) [
        | inl h ↦ absurd (subst IsMaster (ap (λ (x : Ticket). x.work) h.1 ∙ is) (swap_master f t.work t.root s may.is))
        | inr h ↦ no_drop j u h.1 out pres is
      ]) (λ j h u e same. idle_after j h)) s.root idle_after (λ o op u e is. listed o op u (left_in w.ops t.op o op e).1 is)

-- what was listed is listed after a finalization
pub final_keeps : (f : Formats) (w : World) (shelf : List Shelved) → Lawful f w shelf → (k n : ℕ) (t : Ticket) (s : Swap) (new : World) → SettleFinal f w k n t s new → (z : RootSnap) → Has w.root.snapshots z → Has s.root.snapshots z
final_keeps f w shelf l k n t s new h z m =
    snapshots w.root (info_of law.op h.results) ((λ i. finalized_root (sym law.root_is i) (sym law.info_is i) h.results) ∙ ap (λ (x : Swap). x.root) (of_swap f t.work t.root s h.may.is h.info h.results h.made h.work))
    (finalizes f (HeldIn f w) w.root law.op h.results (l.sound.carried.ops t.op law.op law.op_there) (root_one_each f (HeldIn f w) w.safe w.root l.sound.carried.root_is) law.done) m
  where
    law : FinalLaw f w.root w.ops t h.info h.results h.made
    law = l.sound.carried.finals k t h.may.out.there h.may.out.out h.may.unsettled h.present h.info h.results h.made h.work

    snapshots : (root : RootData) (info : SnapInfo) → finalized_root root info h.results ≡ s.root → Finalizes root info h.results (finalized_root root info h.results) → Has root.snapshots z → Has s.root.snapshots z
    snapshots root info same fins has = subst (λ (r : RootData). Has r.snapshots z) same (subst (λ xs. Has xs z) (sym fins.snapshots) (Has-left root.snapshots _ z has))

pub settle_final_lawful : (f : Formats) (w : World) (shelf : List Shelved) → Lawful f w shelf → (k n : ℕ) (t : Ticket) (s : Swap) (new : World) → SettleFinal f w k n t s new → Lawful f new (shelf_after shelf s.commands)
settle_final_lawful f w shelf l k n t s new h =
    subst (λ x. Lawful f x (shelf_after shelf s.commands)) (sym h.new_is) (record {
      sound = record { rooted = record { kept = it.rooted.kept; doomed_begun = it.rooted.doomed_begun; tickets = it.rooted.tickets; single = it.rooted.single }; carried = it.carried; fresh = it.fresh };
      queue = queue_settled f w shelf l k n t s h.may h.present listed no_drop;
    })
  where
    it : Sound f (settled w k t n s.root) (shelf_after shelf s.commands)
    it = settle_law f w shelf l.sound k n t s h.may h.present h.info h.results h.made h.work

    -- what was listed is listed
    listed : (o : ℕ) (op : Op) (u : ℕ) → fin.get w.ops o ≡ Some op → op.source ≡ Some u → Lists s.root u
    listed o op u e is = let (z, m, uuid) = (l.queue.sources o op u e is).0 in (z, final_keeps f w shelf l k n t s new h z m, uuid)

    differ : {info : SnapInfo} {rs : List ShardResult} {made : Command} → Finalize info rs made ≡ Drop → ⊥
    differ e = cc

    no_drop : (j : ℕ) (u : Ticket) → fin.get w.tickets j ≡ Some u → u.out ≡ true → u.term ≡ w.term → u.work ≡ Drop → u.op ≢ t.op
    no_drop j u e out pres is same =
        let one : k ≡ j = (l.queue.drops j u e out pres is).alone k (record { t = t; there = h.may.out.there; out = h.may.out.out; op_is = sym same; counts = inr h.present }) in
        let is_t : u ≡ t = same_Some _ _ (sym e ∙ ap (fin.get w.tickets) (sym one) ∙ h.may.out.there) in
        differ (sym h.work ∙ ap (λ (x : Ticket). x.work) (sym is_t) ∙ is)

module _ (f : Formats) (w : World) (shelf : List Shelved) (l : Lawful f w shelf) (k n : ℕ) (t : Ticket) (s : Swap) (new : World) (d : SettleDelete f w k n t s new) where
  law : DeleteLaw w.root w.ops w.deletes t (Some s)
  law = l.queue.deleting k t d.may.out.there d.may.out.out d.may.unsettled d.present d.uuids (Some s) d.work

  shrinks : Shrinks w.root s.root
  shrinks = law.planned s refl

  -- each open snapshot stands behind it
  all_behind : (o : ℕ) (op : Op) → fin.get w.ops o ≡ Some op → (z : ShardWork) → Has op.shards z → Idle z.state
  all_behind o op e z m = elim (cases_order o t.op) [
    | inl same ↦ absurd (l.queue.apart t.op op law.deletion (ap (fin.get w.ops) (sym same) ∙ e) law.there)
    | inr (inl lt) ↦ absurd (law.first o op lt e)
    | inr (inr gt) ↦ l.queue.behind o op z e (record { number = t.op; deletion = law.deletion; there = law.there; before = gt }) m
  ]

  no_done : (uuid index shard g : ℕ) → DoneAt w.ops uuid index shard g → ⊥
  no_done uuid index shard g a = subst Idle a.state (all_behind a.number a.op a.there a.s a.s_there)

  no_out : (o : ℕ) (op : Op) → fin.get w.ops o ≡ Some op → (z : ShardWork) → Has op.shards z → (j : ℕ) → z.state ≡ Out j → ⊥
  no_out o op e z m j state = subst Idle state (all_behind o op e z m)

  abbrev now : World
  now = settled w k t n s.root

  abbrev after : List Shelved
  after = shelf_after shelf s.commands

  rooted : Rooted f now after
  rooted = settles f w shelf k n t s l.sound.rooted d.may d.present

  unsettled : IsUnsettled f t s
  unsettled = record { is = d.may.is; out = d.may.out.out; unsettled = d.may.unsettled }

  swapping : SwapLaw f (HeldIn f w) shelf t.noted s
  swapping = (l.sound.rooted.tickets k t d.may.out.there).swaps s unsettled (inl d.present)

  root_is : RootIs f (HeldIn f w) (suc n) s.root
  root_is = record { bytes = f.root.text s.root; there = swapping.root_noted n d.may.written; reads = ((l.sound.rooted.tickets k t d.may.out.there).shape s d.may.is).root_back }

  stands : RootStands f (HeldIn f w) s.root after
  stands = safe_root_stands f (HeldIn f w) (held_one f w) (suc n) s.root after rooted.kept.picked root_is

  pub done_left : (uuid index shard g : ℕ) → DoneAt (fin.remove w.ops t.op) uuid index shard g → ⊥
  done_left uuid index shard g a = no_done uuid index shard g
      (record {
        number = a.number;
        op = a.op;
        there = (left_in w.ops t.op a.number a.op a.there).1;
        uuid_is = a.uuid_is;
        s = a.s;
        s_there = a.s_there;
        r = a.r;
        state = a.state;
        index_is = a.index_is;
        shard_is = a.shard_is;
        generation_is = a.generation_is;
      })

  pub no_shard : (j : ℕ) (u : Ticket) → fin.get (fin.insert w.tickets k (record t { settled = true })) j ≡ Some u → u.out ≡ true → (index shard : ℕ) → u.work ≡ Shard index shard → ⊥
  no_shard j u e out index shard is = elim (was_in w.tickets k (record t { settled = true }) j u e) [
    | inl h ↦ differ (sym d.work ∙ ap (λ (x : Ticket). x.work) h.1 ∙ is)
    | inr h ↦ let x = l.sound.carried.shards j u h.1 out index shard is in no_out u.op x.op x.op_there x.s x.s_there j x.state
  ]
    where
      differ : Deleting d.uuids (Some s) ≡ Shard index shard → ⊥
      differ e = cc

  plan : PlanLaw f w.root w.ops s
  plan = l.sound.carried.plans k t d.may.out.there d.may.out.out d.may.unsettled d.present d.uuids s d.work

  on_with : OnWith w.ops (fin.remove w.ops t.op)
  on_with = λ o op e. (op, (left_in w.ops t.op o op e).1, refl, (λ i x has. has))

  -- what the new root's indices list of the open ops is their own
  own_left : (i x g : ℕ) → Generation s.root i x g → IsOwn f (HeldIn f w) (fin.remove w.ops t.op) i x g
  own_left i x g gen = λ held reads. elim (plan i x g gen) [
    | inl old ↦ own_on w.ops (fin.remove w.ops t.op) on_with f (HeldIn f w) i x g (l.sound.carried.carries i x g (inl old)).own held reads
    | inr y ↦
        let there : HeldIn f w (ShardIndex i x g) (f.shard_index.text y.index_of) = swapping.noted (ShardIndex i x g) (f.shard_index.text y.index_of) y.there (d.may.ready (ShardIndex i x g) (f.shard_index.text y.index_of) y.there) in
        let same : y.index_of ≡ held = reads_one (HeldIn f w) (held_one f w) (ShardIndex i x g) f.shard_index y.index_of held (record { bytes = f.shard_index.text y.index_of; there = there; reads = y.back }) reads in
        lists_on w.ops (fin.remove w.ops t.op) on_with i x held (subst (λ (v : ShardFiles). ListsOwn w.ops i x v) same y.lists)
  ]

  -- what it doesn't name stays listed
  pub delete_keeps : (u : ℕ) → ((d : ℕ) (x : Deletion) → fin.get w.deletes d ≡ Some x → names_uuid x.uuids u ≡ false) → Lists w.root u → Lists s.root u
  delete_keeps u spared was = let (z, m, uuid) = was in (z, law.keeps s refl z m (ap (names_uuid law.deletion.uuids) uuid ∙ spared t.op law.deletion law.there), uuid)

  -- the source of a clone stays listed
  listed : (o : ℕ) (op : Op) (u : ℕ) → fin.get w.ops o ≡ Some op → op.source ≡ Some u → Lists s.root u
  listed o op u e is = let was = l.queue.sources o op u e is in delete_keeps u was.1 was.0

  carried : CarriedIn f now
  carried =
      record {
        root_is = root_is;
        ops = λ o op e. let old = l.sound.carried.ops o op (left_in w.ops t.op o op e).1 in record {
          places = old.places;
          copies = λ u is. record { listed = listed o op u (left_in w.ops t.op o op e).1 is; by_info = (old.copies u is).by_info };
          texts = old.texts;
          done = old.done;
          one_id = old.one_id;
          distinct = old.distinct;
          unlisted = λ snap m. old.unlisted snap (shrinks.snapshots snap m);
          unused = λ y m u. let (x, there, name, id, was) = shrinks.indices y m in old.unused x there (was op.uuid u);
          same_name = λ r y m y_there e. let (x, there, name, id, was) = shrinks.indices y y_there in old.same_name r x m there (e ∙ sym id) ∙ name;
        };
        together = λ o p a b apart e h. l.sound.carried.together o p a b apart (left_in w.ops t.op o a e).1 (left_in w.ops t.op p b h).1;
        carries = λ i x g live. elim live [
          | inl gen ↦ root_carries f (HeldIn f w) (held_one f w) s.root after stands (fin.remove w.ops t.op) i x g gen (λ u h a. done_left u i x h a) (own_left i x g gen)
          | inr a ↦ absurd (done_left a.0 i x g a.1)
        ];
        shards = λ j u e out i x is. absurd (no_shard j u e out i x is);
        one_shard = λ i j a b ea eb ao bo x y ai bi. absurd (no_shard i a ea ao x y ai);
        plans = λ j u e out uns pres uuids x is. absurd (idle_after f w shelf l k n t s d.may d.present j (record { t = u; there = e; out = out; unsettled = uns; present = pres; swaps = subst IsMaster (sym is) tt }));
        finals = λ j u e out uns pres info results made is. absurd (idle_after f w shelf l k n t s d.may d.present j (record { t = u; there = e; out = out; unsettled = uns; present = pres; swaps = subst IsMaster (sym is) tt }));
        held = λ o op z j e m state. absurd (no_out o op (left_in w.ops t.op o op e).1 z m j state);
      }

  it : Sound f now after
  it = record { rooted = rooted; carried = carried; fresh = fresh_same w.tickets w.next_ticket k t (record t { settled = true }) d.may.out.there l.sound.fresh }

  last : (suc n ≡ w.pending) × (w.safe ≤ n)
  last = (l.sound.rooted.tickets k t d.may.out.there).last s unsettled d.present n d.may.raised

  -- no other swap counts any more
  gone : (j : ℕ) (u : Ticket) (x : Swap) → fin.get (fin.insert w.tickets k (record t { settled = true })) j ≡ Some u → IsUnsettled f u x → Counts (ledger_of now) u → ⊥
  gone j u x e i (inl p) = idle_after f w shelf l k n t s d.may d.present j (record { t = u; there = e; out = i.out; unsettled = i.unsettled; present = p; swaps = swap_master f u.work u.root x i.is })
  gone j u x e i (inr (m, raised, above)) = let h : m < w.pending = (rooted.tickets j u e).raised m raised in omega (arith, last.0)

  -- the one root of the old root's reach is itself, begun
  old_root : (m : ℕ) → Has d.names (Root m) → m < w.pending
  old_root m q = elim (d.reach (Root m) q) [
    | inl r ↦ absurd (no_root r refl)
    | inr (inl h) ↦ let x : w.safe ≡ suc h.0 = h.2 in let y : w.safe ≤ w.pending = l.sound.rooted.kept.ordered in let z : h.0 ≡ m = root_same h.1 in omega arith
    | inr (inr h) ↦ h.1.begun m refl
  ]
    where
      root_same : {a b : ℕ} → Root a ≡ Root b → b ≡ a
      root_same e = cc

      no_root : {name : BlobName} → Reached f (HeldIn f w) w.root name → name ≡ Root m → ⊥
      no_root (ReachPart i x g held en name gen reads has part) e = f_part i x en name part e
        where
          f_part : (i x : ℕ) (en : FileEntry) (name : BlobName) → Has (part_names i x en) name → name ≡ Root m → ⊥
          f_part i x en name part e = elim (in_parts i x en name part) [ inl z ↦ not_file (sym z ∙ e) | inr z ↦ not_part (sym z.1 ∙ e) ]
            where
              not_file : {a b c : ℕ} → File a b c ≡ Root m → ⊥
              not_file e = cc

              not_part : {a b c p : ℕ} → Part a b c p ≡ Root m → ⊥
              not_part e = cc
      no_root other e = cc

  pred_same : {a b : ℕ} → suc a ≡ suc b → a ≡ b
  pred_same e = omega (arith, e)

  dooms : Dooms f now d.names (record now { doomed = d.names ++ w.doomed })
  dooms =
      record {
        root_aside = λ m e q. d.root_aside (subst (λ x. Has d.names (Root x)) (sym (pred_same e)) q);
        reach_aside = d.reach_aside;
        begun = old_root;
        last = sym last.0;
        no_swap = λ j u x e i c. gone j u x e i c;
        no_done = done_left;
        no_shard = no_shard;
        new_is = refl;
      }

  doomed : Sound f (record now { doomed = d.names ++ w.doomed }) after
  doomed = dooming_sound f now (record now { doomed = d.names ++ w.doomed }) after d.names it dooms

  -- the queue where the op leaves, and where it stays, a cleanup's
  queue_left : (b : Bool) → d.cleans ≡ b → Queue w.term s.root (fin.remove w.ops t.op) (if b then w.deletes else fin.remove w.deletes t.op) w.completed w.next_op (fin.insert w.tickets k (record t { settled = true }))
  queue_left false e = queue_settled f w shelf l k n t s d.may d.present listed (λ j u e out pres is same. elim (l.queue.drops j u e out pres is).stopped [
    | inl h ↦ l.queue.apart t.op h.0 law.deletion (ap (fin.get w.ops) (sym same) ∙ h.1) law.there
    | inr h ↦ true≢false (sym h.2 ∙ ap (λ (x : Deletion). x.failed) (same_Some _ _ (sym h.1 ∙ ap (fin.get w.deletes) same ∙ law.there)) ∙ law.unfailed)
  ])
  queue_left true e =
      let now : FinMap nat_cmp Ticket = fin.insert w.tickets k (record t { settled = true }) in
      let q = queue_ticket w.term w.tickets k t (record t { settled = true }) d.may.out.there (like_settled t) w.root w.ops w.deletes w.completed w.next_op (λ o uns. absurd (true≢false uns)) l.queue in
      let none = (l.queue.lone t.op d.deletion d.there (d.cleans_is ∙ e)).0 in
      queue_root w.term w.root (fin.remove w.ops t.op) w.deletes w.completed w.next_op now
      (queue_ops w.term w.root w.ops w.deletes w.completed w.next_op now q (fin.remove w.ops t.op) w.completed
      (λ o op h. absurd (none o op (left_in w.ops t.op o op h).1))
      (λ o op h. absurd (none o op h))
      (λ o p a b x z lt h. absurd (none o a (left_in w.ops t.op o a h).1))
      (λ o op rs h. absurd (none o op (left_in w.ops t.op o op h).1))
      q.completed_numbers
      (λ o op h e. absurd (none o op (left_in w.ops t.op o op e).1)))
      s.root (idle_after f w shelf l k n t s d.may d.present) (λ o op u h is. absurd (none o op (left_in w.ops t.op o op h).1))

  pub settle_delete_lawful : Lawful f new after
  settle_delete_lawful = subst (λ x. Lawful f x after) (sym d.new_is) (record {
    sound = record { rooted = record { kept = doomed.rooted.kept; doomed_begun = doomed.rooted.doomed_begun; tickets = doomed.rooted.tickets; single = doomed.rooted.single }; carried = doomed.carried; fresh = doomed.fresh };
    queue = queue_left d.cleans refl;
  })
