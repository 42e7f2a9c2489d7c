-- A unit fails: its op's pending shards are given up, and the op has failed.
use Rattle.std.proofs.Common.{◌≡◌, ◌≢◌, ℕ, List, true, false, true≢false, Some, refl, sym, ap, ◌∙◌, subst, inl, inr}
use Rattle.std.specs.FinMap as fin
use Rattle.std.proofs.lemmas.Option.{same_Some}
use Rattle.esr_core.specs.Laws.NumberMaps.{was_in, other_in, split_at}
use Rattle.esr_core.specs.Laws.ShardStates.{out_done, out_same, op_now, ops_now, op_was, live_was, failed_is, failed_grows, failed_goes, out_pending, up_out}
use Rattle.esr_model.specs.Values.{SnapInfo, ShardResult, Formats}
use Rattle.esr_model.specs.Shelf.{Shelved, Command}
use Rattle.esr_model.specs.Image.{Has}
use Rattle.esr_core.specs.World.{World, Op, ShardWork, Out, Shard, Finalize, Ticket, AllDone, ledger_of, HeldIn}
use Rattle.esr_core.specs.Ready.{IsMaster, IsShard, SwapIsOut}
use Rattle.esr_core.specs.Turns.{Failed, FailedDelete, fails}
use Rattle.esr_core.specs.Swaps.{Rooted, TicketLaw}
use Rattle.esr_core.specs.Generations.{OpLaw, ShardLaw, Carried}
use Rattle.esr_core.specs.Queue.{Queue, Lawful}
use Rattle.esr_model.specs.Lists.{Has-mapped}
use Rattle.esr_core.specs.Laws.DoneShards.{done_of}
use Rattle.esr_core.proofs.Tickets.{each_ticket, swapping_was}
use Rattle.esr_core.proofs.Ops.{shard_law_given, on_with, carries_now, base_now, op_law_now, together_now}
use Rattle.esr_core.proofs.Owning.{plan_on}
use Rattle.esr_core.proofs.Law.{fresh_same}
use Rattle.esr_core.proofs.Leaving.{like_ended, ended_lawful}
use Rattle.esr_core.specs.Laws.Maps.{Ops}
use Rattle.esr_core.proofs.Queues.{Evolves, queue_ops, queued_back, queue_ticket, queue_delete, swap_back}
use Rattle.esr_core.proofs.Evolving.{failed_outs, evolve_map, one_back, one_forth, one_outs, outs_map, all_done_back, all_done_on, failed_leaves}

module _ (f : Formats) (w : World) (shelf : List Shelved) (l : Lawful f w shelf) (k : ℕ) (new : World) (d : Failed w k new) where
  abbrev o : ℕ
  o = d.t.op

  abbrev op : Op
  op = d.op

  abbrev g : ShardWork → ShardWork
  g = fails k

  abbrev v : Ticket
  v = record d.t { out = false }

  abbrev ops : Ops
  ops = ops_now f (HeldIn f w) w.root w.ops o op d.op_there g (failed_goes k) true

  abbrev now : Op
  now = op_now f (HeldIn f w) w.root w.ops o op d.op_there g (failed_goes k) true

  c : Carried f (HeldIn f w) w.safe w.term w.root w.ops w.tickets
  c = l.sound.carried

  -- a shard of the op that another ticket has stays
  stays : (z : ShardWork) (j : ℕ) → j ≢ k → z.state ≡ Out j → g z ≡ z
  stays z j apart e = elim (failed_is k z) [
    | inr h ↦ h.2
    | inl h ↦ absurd (elim h.0 [ inl p ↦ out_pending (sym e ∙ p) | inr q ↦ apart (out_same (sym e ∙ q)) ])
  ]

  -- a shard that is out after it is another's
  not_mine : (z : ShardWork) → (g z).state ≡ Out k → ⊥
  not_mine z e = elim (failed_is k z) [
    | inr h ↦ h.1 (ap (λ (x : ShardWork). x.state) (sym h.2) ∙ e)
    | inl h ↦ up_out (sym (ap (λ (x : ShardWork). x.state) h.1) ∙ e)
  ]

  was : (j : ℕ) (u : Ticket) → fin.get (fin.insert w.tickets k v) j ≡ Some u → u.out ≡ true → (j ≢ k) × (fin.get w.tickets j ≡ Some u)
  was j u e out = elim (was_in w.tickets k v j u e) [
    | inl h ↦ absurd (true≢false (sym out ∙ ap (λ (x : Ticket). x.out) (sym h.1)))
    | inr h ↦ h
  ]

  shard_now : (j : ℕ) (u : Ticket) (i n : ℕ) → j ≢ k → ShardLaw f (HeldIn f w) w.root w.ops j u i n → ShardLaw f (HeldIn f w) w.root ops j u i n
  shard_now j u i n apart h =
      shard_law_given f (HeldIn f w) w.root w.ops o op d.op_there g true j u i n h (λ z m e. stays z j apart e) (base_now f (HeldIn f w) w.root w.ops o op d.op_there g (failed_goes k) true i n u.base h.base)

  -- no finalization of the op is out but that which fails
  not_final : (j : ℕ) (u : Ticket) → j ≢ k → fin.get w.tickets j ≡ Some u → u.out ≡ true → u.settled ≡ false → u.term ≡ w.term
      → (info : SnapInfo) (results : List ShardResult) (made : Command) → u.work ≡ Finalize info results made → u.op ≢ o
  not_final j u apart e out uns pres info results made is same = elim d.counts [
    | inr m ↦ apart (l.queue.one_swap j k (record { t = u; there = e; out = out; unsettled = uns; present = pres; swaps = subst IsMaster (sym is) tt })
        (record { t = d.t; there = d.out.there; out = d.out.out; unsettled = d.unsettled; present = m.0; swaps = m.1 }))
    | inl sh ↦
        let (i, n, work) = shard_of d.t.work sh in
        let x = c.shards k d.t d.out.there d.out.out i n work in
        let y = c.finals j u e out uns pres info results made is in
        let one : x.op ≡ y.op = same_Some _ _ (sym x.op_there ∙ ap (fin.get w.ops) (sym same) ∙ y.op_there) in
        let (r, state, there) = done_of y.op.shards results y.done x.s (subst (λ (z : Op). Has z.shards x.s) one x.s_there) in
        out_done (sym x.state ∙ state)
  ]
    where
      shard_of : (work : _) → IsShard work → (i : ℕ) × (n : ℕ) × (work ≡ Shard i n)
      shard_of (Shard i n) h = (i, n, refl)
      shard_of (Finalize info results made) h = absurd h
      shard_of work h = absurd h

  carried : Carried f (HeldIn f w) w.safe w.term w.root ops (fin.insert w.tickets k v)
  carried =
      record {
        root_is = c.root_is;
        ops = λ p q e. elim (op_was f (HeldIn f w) w.root w.ops o op d.op_there g (failed_goes k) true p q e) [
          | inl h ↦ subst (OpLaw f (HeldIn f w) w.root) h.1 (op_law_now f (HeldIn f w) w.root w.ops o op d.op_there g (failed_goes k) true (c.ops o op d.op_there))
          | inr h ↦ c.ops p q h.1
        ];
        together = together_now f (HeldIn f w) w.root w.ops o op d.op_there g (failed_goes k) true c.together;
        carries = λ i n x live. carries_now f (HeldIn f w) w.root w.ops o op d.op_there g (failed_goes k) true i n x
            (c.carries i n x (live_was f (HeldIn f w) w.root w.ops o op d.op_there g (failed_goes k) true i n x live));
        shards = λ j u e out index shard is. let (apart, old) = was j u e out in shard_now j u index shard apart (c.shards j u old out index shard is);
        one_shard = λ i j t u a b ao bo index shard ai bi. c.one_shard i j t u (was i t a ao).1 (was j u b bo).1 ao bo index shard ai bi;
        plans = λ j u e out uns pres uuids s is. plan_on w.ops ops (on_with f (HeldIn f w) w.root w.ops o op d.op_there g (failed_goes k) true) f w.root s (c.plans j u (was j u e out).1 out uns pres uuids s is);
        finals = λ j u e out uns pres info results made is.
            let (apart, old) = was j u e out in
            let h = c.finals j u old out uns pres info results made is in
            record { op = h.op; op_there = other_in w.ops o now u.op (not_final j u apart old out uns pres info results made is) ∙ h.op_there; done = h.done; info_is = h.info_is; made_is = h.made_is; root_is = h.root_is };
        held = λ p q z j e m state. elim (op_was f (HeldIn f w) w.root w.ops o op d.op_there g (failed_goes k) true p q e) [
          | inr h ↦ let x = c.held p q z j h.1 m state in elim (split_at j k) [
            | inl same ↦
                let one : x.t ≡ d.t = same_Some _ _ (sym x.there ∙ ap (fin.get w.tickets) same ∙ d.out.there) in
                absurd (h.0 (sym x.op_is ∙ ap (λ (y : Ticket). y.op) one))
            | inr apart ↦ record { t = x.t; there = other_in w.tickets k v j apart ∙ x.there; out = x.out; op_is = x.op_is; work = x.work }
          ]
          | inl h ↦
              let (x, x_there, same) = Has-mapped g op.shards z (subst (λ (y : Op). Has y.shards z) (sym h.1) m) in
              let out_now : (g x).state ≡ Out j = ap (λ (y : ShardWork). y.state) same ∙ state in
              let apart : j ≢ k = λ one. not_mine x (out_now ∙ ap Out one) in
              let z_is : x ≡ z = sym (failed_outs k x j out_now) ∙ same in
              let y = c.held o op x j d.op_there x_there (ap (λ (y : ShardWork). y.state) z_is ∙ state) in
              record { t = y.t; there = other_in w.tickets k v j apart ∙ y.there; out = y.out; op_is = y.op_is ∙ sym h.0; work = y.work ∙ ap (λ (y : ShardWork). Shard y.ref.id y.number) z_is }
        ];
      }

  old_law : TicketLaw f (HeldIn f w) w.doomed (ledger_of w) shelf d.t
  old_law = l.sound.rooted.tickets k d.t d.out.there

  rooted : Rooted f (record w { ops = ops; tickets = fin.insert w.tickets k v }) shelf
  rooted =
      record {
        kept = l.sound.rooted.kept;
        doomed_begun = l.sound.rooted.doomed_begun;
        tickets = each_ticket (TicketLaw f (HeldIn f w) w.doomed (ledger_of w) shelf) w.tickets k v
            (record {
              term = old_law.term;
              raised = old_law.raised;
              shape = old_law.shape;
              clean_root = old_law.clean_root;
              listed = old_law.listed;
              clean = λ s i. absurd (true≢false (sym i.out));
              last = λ s i. absurd (true≢false (sym i.out));
              swaps = λ s i. absurd (true≢false (sym i.out));
            })
            (λ j u apart e. l.sound.rooted.tickets j u e);
        single = λ i j a b. l.sound.rooted.single i j
            (swapping_was f w.tickets w.term k d.t v d.out.there (λ s i e. absurd (true≢false (sym i.out))) i a)
            (swapping_was f w.tickets w.term k d.t v d.out.there (λ s i e. absurd (true≢false (sym i.out))) j b);
      }

  ev : Evolves op now
  ev = evolve_map op g true (failed_grows k) (λ e. refl)

  ops_queue : Queue w.term w.root ops w.deletes w.completed w.next_op w.tickets
  ops_queue =
      queue_ops w.term w.root w.ops w.deletes w.completed w.next_op w.tickets l.queue ops w.completed (one_back w.ops o op now d.op_there ev) (one_forth w.ops o op now d.op_there ev)
      (queued_back w.term w.root w.ops w.deletes w.completed w.next_op w.tickets l.queue ops (one_back w.ops o op now d.op_there ev) (one_outs w.ops o op now d.op_there ev (outs_map g (failed_outs k) op.shards)))
      (λ p x results e all. elim (was_in w.ops o now p x e) [
        | inr h ↦ l.queue.completes p x results h.1 all
        | inl h ↦ subst (Has w.completed) (sym h.0) (l.queue.completes o op results d.op_there (all_done_back g (failed_goes k).done op.shards results (subst (λ (y : Op). AllDone y.shards results) (sym h.1) all)))
      ])
      l.queue.completed_numbers
      (λ p x h e. elim (was_in w.ops o now p x e) [
        | inr z ↦ l.queue.completed_done p x h z.1
        | inl z ↦
            let (results, all) = l.queue.completed_done o op (subst (Has w.completed) z.0 h) d.op_there in
            (results, subst (λ (y : Op). AllDone y.shards results) z.1 (all_done_on g (failed_leaves k) op.shards results all))
      ])

  pub failed_lawful : Lawful f new shelf
  failed_lawful = subst (λ x. Lawful f x shelf) (sym d.new_is) (record {
    sound = record { rooted = rooted; carried = carried; fresh = fresh_same w.tickets w.next_ticket k d.t v d.out.there l.sound.fresh };
    queue = queue_ticket w.term w.tickets k d.t v d.out.there (like_ended d.t) w.root ops w.deletes w.completed w.next_op (λ e. absurd (true≢false (sym e))) ops_queue;
  })

pub failed_delete_lawful : (f : Formats) (w : World) (shelf : List Shelved) → Lawful f w shelf → (k : ℕ) (new : World) → FailedDelete w k new → Lawful f new shelf
failed_delete_lawful f w shelf l k new d = subst (λ x. Lawful f x shelf) (sym d.new_is) (record {
  sound = record { rooted = record { kept = it.sound.rooted.kept; doomed_begun = it.sound.rooted.doomed_begun; tickets = it.sound.rooted.tickets; single = it.sound.rooted.single }; carried = it.sound.carried; fresh = it.sound.fresh };
  queue = queue_delete w.term w.root w.ops w.deletes w.completed w.next_op (fin.insert w.tickets k v) it.queue d.t.op d.x
      (record d.x { failed = true }) d.there refl (λ e. refl) (λ j h t e same. none j h) (λ o op u e is. (l.queue.sources o op u e is).1 d.t.op d.x d.there);
})
  where
    v : Ticket
    v = record d.t { out = false }

    it : Lawful f (record w { tickets = fin.insert w.tickets k v }) shelf
    it = ended_lawful f w shelf l k d.t d.out (λ s. subst IsShard d.work s)

    none : (j : ℕ) → SwapIsOut (fin.insert w.tickets k v) w.term j → ⊥
    none j h =
        let was = swap_back w.term w.tickets k d.t v d.out.there (like_ended d.t) j h in
        let one : j ≡ k = elim d.may [
          | inl uns ↦ l.queue.one_swap j k was (record { t = d.t; there = d.out.there; out = d.out.out; unsettled = uns; present = d.present; swaps = subst IsMaster (sym d.work) tt })
          | inr clean ↦ l.queue.sole k d.t d.out.there d.out.out (subst IsMaster (sym d.work) tt) d.present d.x d.there clean j was.t was.there was.out
        ] in
        elim (was_in w.tickets k v j h.t h.there) [
          | inl e ↦ true≢false (sym h.out ∙ ap (λ (x : Ticket). x.out) (sym e.1))
          | inr e ↦ e.0 one
        ]
