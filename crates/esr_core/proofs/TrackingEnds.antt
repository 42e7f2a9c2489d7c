-- What the end of a ticket, and with it of the shards that it holds, changes in the order of a world.
use Rattle.std.proofs.Common.{◌≡◌, ◌≢◌, ◌⊎◌, ℕ, ◌+◌, ◌<◌, ◌≤◌, List, Bool, true, false, true≢false, Some, map, refl, sym, ap, ◌∙◌, subst, inl, inr}
use Rattle.std.specs.FinMap as fin
use Rattle.std.proofs.lemmas.Option.{same_Some}
use Rattle.esr_core.specs.Laws.NumberMaps.{was_in, same_in, other_in, split_at}
use Rattle.esr_model.specs.Values.{Has, SnapInfo, ShardResult}
use Rattle.esr_model.specs.Shelf.{Command}
use Rattle.esr_core.specs.World.{World, Op, ShardWork, Out, Done, Finalize, Ticket}
use Rattle.esr_core.specs.Generations.{IsHeldBy}
use Rattle.esr_core.specs.Ready.{Stopped, SwapIsOut}
use Rattle.esr_core.specs.Steps.{IsOut}
use Rattle.esr_core.specs.Tracked.{ShardTracked, Tracked}
use Rattle.esr_model.specs.Lists.{Has-map, Has-mapped}
use Rattle.esr_core.specs.Laws.Maps.{Ops, Tickets}
use Rattle.esr_core.proofs.Naming.{Alike, alike_same, named_from}

-- how its shards go on: those of other tickets stay, and none is held by this one
pub record GoesOnPast (k : ℕ) (g : ShardWork → ShardWork) : Type 0 where
  pub ref : (s : ShardWork) → (g s).ref ≡ s.ref
  pub number : (s : ShardWork) → (g s).number ≡ s.number
  pub stays : (s : ShardWork) (j : ℕ) → s.state ≡ Out j → j ≢ k → g s ≡ s
  pub outs : (s : ShardWork) (j : ℕ) → (g s).state ≡ Out j → (g s ≡ s) × (j ≢ k)

module _ (w : World) (l : Tracked w) (k : ℕ) (t : Ticket) (out : IsOut w k t) (op : Op) (there : fin.get w.ops t.op ≡ Some op) (g : ShardWork → ShardWork) (failed : Bool) (up : op.failed ≡ true → failed ≡ true) (on : GoesOnPast k g)
    (done : (s : ShardWork) (r : ShardResult) → Has op.shards s → (g s).state ≡ Done r → (s.state ≡ Done r) ⊎ ((r.index ≡ s.ref.id) × (r.shard ≡ s.number) × (r.generation < w.next_id)))
    (aside : (j : ℕ) (u : Ticket) (info : SnapInfo) (results : List ShardResult) (made : Command) → j ≢ k → fin.get w.tickets j ≡ Some u
    → u.out ≡ true → u.settled ≡ false → u.term ≡ w.term → u.work ≡ Finalize info results made → u.op ≢ t.op) where
  abbrev now : Op
  now = record op { shards = map g op.shards; failed = failed }

  abbrev ops : Ops
  ops = fin.insert w.ops t.op (record op { shards = map g op.shards; failed = failed })

  abbrev ended : Ticket
  ended = record t { out = false }

  abbrev tickets : Tickets
  tickets = fin.insert w.tickets k (record t { out = false })

  -- a ticket that is out is another
  out_was : (j : ℕ) (u : Ticket) → fin.get tickets j ≡ Some u → u.out ≡ true → (j ≢ k) × (fin.get w.tickets j ≡ Some u)
  out_was j u e o = elim (was_in w.tickets k ended j u e) [ inl h ↦ absurd (true≢false (sym o ∙ ap (λ (x : Ticket). x.out) (sym h.1))) | inr h ↦ h ]

  shard_on : (j : ℕ) (u : Ticket) (i n : ℕ) → j ≢ k → ShardTracked w.ops j u i n → ShardTracked ops j u i n
  shard_on j u i n away x = elim (split_at u.op t.op) [
    | inl same ↦
        let one : x.op ≡ op = same_Some _ _ (sym x.op_there ∙ ap (fin.get w.ops) same ∙ there) in
        let m : Has op.shards x.s = subst (λ (y : Op). Has y.shards x.s) one x.s_there in
        record {
          op = now;
          op_there = ap (fin.get ops) same ∙ same_in w.ops t.op now;
          uuid_is = x.uuid_is ∙ ap (λ (y : Op). y.uuid) one;
          source_is = x.source_is ∙ ap (λ (y : Op). y.source) one;
          s = x.s;
          s_there = subst (Has (map g op.shards)) (on.stays x.s j x.state away) (Has-map g op.shards x.s m);
          state = x.state;
          index_is = x.index_is;
          number_is = x.number_is;
          place_is = x.place_is;
          name_is = x.name_is;
        }
    | inr other ↦ record {
      op = x.op;
      op_there = other_in w.ops t.op now u.op other ∙ x.op_there;
      uuid_is = x.uuid_is;
      source_is = x.source_is;
      s = x.s;
      s_there = x.s_there;
      state = x.state;
      index_is = x.index_is;
      number_is = x.number_is;
      place_is = x.place_is;
      name_is = x.name_is;
    }
  ]

  held_on : (p : ℕ) (z : ShardWork) (j : ℕ) → j ≢ k → IsHeldBy w.tickets p z j → IsHeldBy tickets p z j
  held_on p z j away h = record { t = h.t; there = other_in w.tickets k ended j away ∙ h.there; out = h.out; op_is = h.op_is; work = h.work }

  held_now : (p : ℕ) (q : Op) (z : ShardWork) (j : ℕ) → fin.get ops p ≡ Some q → Has q.shards z → z.state ≡ Out j → IsHeldBy tickets p z j
  held_now p q z j e m state = elim (was_in w.ops t.op now p q e) [
    | inl h ↦
        let (y, ym, ye) = Has-mapped g op.shards z (subst (λ (x : Op). Has x.shards z) (sym h.1) m) in
        let (same, away) = on.outs y j (ap (λ (x : ShardWork). x.state) ye ∙ state) in
        let z_is : y ≡ z = sym same ∙ ye in
        subst (λ x. IsHeldBy tickets p x j) z_is (held_on p y j away (subst (λ x. IsHeldBy w.tickets x y j) (sym h.0) (l.held t.op op y j there ym (ap (λ (x : ShardWork). x.state) z_is ∙ state))))
    | inr h ↦
        let x = l.held p q z j h.1 m state in
        let away : j ≢ k = λ same. h.0 (sym x.op_is ∙ ap (λ (y : Ticket). y.op) (same_Some _ _ (sym x.there ∙ ap (fin.get w.tickets) same ∙ out.there))) in
        held_on p z j away x
  ]

  stopped_on : Stopped op → Stopped now
  stopped_on (inl f) = inl (up f)
  stopped_on (inr a) = inr a

  swap_was : (j : ℕ) → SwapIsOut tickets w.term j → SwapIsOut w.tickets w.term j
  swap_was j x = record { t = x.t; there = (out_was j x.t x.there x.out).1; out = x.out; unsettled = x.unsettled; present = x.present; swaps = x.swaps }

  alike : Alike w.next_id op now
  alike = record { name = refl; uuid = refl; indices = refl; g = g; shards = refl; ref = on.ref; number = on.number; done = done }

  pub tracked_went : Tracked (record w { ops = fin.insert w.ops t.op (record op { shards = map g op.shards; failed = failed }); tickets = fin.insert w.tickets k (record t { out = false }) })
  tracked_went =
      record {
        numbers = λ p q e. elim (was_in w.ops t.op now p q e) [ inl h ↦ subst (λ x. x < w.next_op) (sym h.0) (l.numbers t.op op there) | inr h ↦ l.numbers p q h.1 ];
        delete_numbers = l.delete_numbers;
        apart = λ p q d e h. elim (was_in w.ops t.op now p q e) [ inl z ↦ l.apart t.op op d there (ap (fin.get w.deletes) (sym z.0) ∙ h) | inr z ↦ l.apart p q d z.1 h ];
        tickets = λ j u e. elim (was_in w.tickets k ended j u e) [
          | inl h ↦ subst (λ (y : Ticket). (j < w.next_ticket) × (y.term ≤ w.term) × (y.first + y.drawn ≤ w.next_id)) h.1 (let x = l.tickets k t out.there in (subst (λ i. i < w.next_ticket) (sym h.0) x.0, x.1, x.2))
          | inr h ↦ l.tickets j u h.1
        ];
        begun = λ j u e. elim (was_in w.tickets k ended j u e) [ inl h ↦ subst (λ (y : Ticket). y.op < w.next_op) h.1 (l.begun k t out.there) | inr h ↦ l.begun j u h.1 ];
        first_ticket = l.first_ticket;
        shards = λ j u i n e o is. let (away, was) = out_was j u e o in shard_on j u i n away (l.shards j u i n was o is);
        held = held_now;
        finals = λ j u info rs made e o uns pres is.
            let (away, was) = out_was j u e o in
            let x = l.finals j u info rs made was o uns pres is in
            record { op = x.op; op_there = other_in w.ops t.op now u.op (aside j u info rs made away was o uns pres is) ∙ x.op_there; done = x.done; goes = x.goes; uuid_is = x.uuid_is; info_is = x.info_is; root_is = x.root_is };
        drops = λ j u e o pres is.
            let x = l.drops j u (out_was j u e o).1 o pres is in
            record {
              stopped = λ q qt. elim (was_in w.ops t.op now u.op q qt) [ inl h ↦ subst Stopped h.1 (stopped_on (x.stopped op (ap (fin.get w.ops) h.0 ∙ there))) | inr h ↦ x.stopped q h.1 ];
              idle = λ i y ye yo shard. x.idle i y (out_was i y ye yo).1 yo shard;
              failed = x.failed;
            };
        deleting = λ j u uuids plan e o uns pres is. l.deleting j u uuids plan (out_was j u e o).1 o uns pres is;
        deletions = record {
          modes = λ j u uuids plan e is x at. elim (was_in w.tickets k ended j u e) [
            | inl h ↦ l.deletions.modes k t uuids plan out.there (ap (λ (y : Ticket). y.work) h.1 ∙ is) x (ap (λ (y : Ticket). fin.get w.deletes y.op) h.1 ∙ at) ∙ ap (λ (y : Ticket). y.clean) h.1
            | inr h ↦ l.deletions.modes j u uuids plan h.1 is x at
          ];
          cleaning = λ j u e o pres clean.
              let h = l.deletions.cleaning j u (out_was j u e o).1 o pres clean in
              record { x = h.x; there = h.there; cleans = h.cleans; unfailed = h.unfailed; alone = λ i y uuids plan ye yo ypres is same. h.alone i y uuids plan (out_was i y ye yo).1 yo ypres is same };
        };
        one_swap = λ i j a b. l.one_swap i j (swap_was i a) (swap_was j b);
        named = named_from w.root w.ops ops w.next_id l.named (λ p q e. elim (was_in w.ops t.op now p q e) [ inl h ↦ (op, ap (fin.get w.ops) h.0 ∙ there, subst (Alike w.next_id op) h.1 alike) | inr h ↦ (q, h.1, alike_same w.next_id q) ]);
        in_term = record { from = l.in_term.from; below = l.in_term.below };
      }
