-- What a shard that is given changes in the order of a world.
use Rattle.std.proofs.Common.{◌≡◌, ◌≢◌, ℕ, suc, ◌+◌, ◌<◌, ◌≤◌, List, Option, Some, map, refl, sym, ap, ◌∙◌, subst, inl, inr, arith, true≢false}
use Rattle.std.specs.FinMap as fin
use Rattle.std.proofs.lemmas.Option.{same_Some}
use Rattle.esr_core.specs.Laws.NumberMaps.{was_in, same_in, other_in, split_at}
use Rattle.esr_model.specs.Values.{Has, SnapInfo, ShardResult}
use Rattle.esr_model.specs.Shelf.{Command}
use Rattle.esr_core.specs.World.{World, Op, ShardWork, Out, Done, Shard, Finalize, Drop, Ticket, Deleting, Swap}
use Rattle.esr_core.specs.Generations.{IsHeldBy}
use Rattle.esr_core.specs.Ready.{IsMaster, SwapIsOut, ReadyShard}
use Rattle.esr_core.specs.Steps.{given, shard_ticket}
use Rattle.esr_core.specs.Tracked.{ShardTracked, Tracked}
use Rattle.esr_model.specs.Lists.{Has-map, Has-mapped}
use Rattle.esr_core.specs.Laws.Maps.{Ops, Tickets}
use Rattle.esr_core.specs.Laws.ShardStates.{given_is, pending_out, pending_done, out_done}
use Rattle.esr_core.proofs.Naming.{Alike, alike_same, named_from}
use Rattle.esr_core.proofs.TrackingOps.{goes_not_stopped, final_apart}

module _ (w : World) (l : Tracked w) (o : ℕ) (op : Op) (s : ShardWork) (base : Option ℕ) (ready : ReadyShard w o op s) where
  abbrev k : ℕ
  k = w.next_ticket

  abbrev g : ShardWork → ShardWork
  g = given w.next_ticket s.ref.id s.number

  abbrev v : Ticket
  v = shard_ticket w o op s base

  abbrev now : Op
  now = record op { shards = map (given w.next_ticket s.ref.id s.number) op.shards }

  abbrev ops : Ops
  ops = fin.insert w.ops o (record op { shards = map (given w.next_ticket s.ref.id s.number) op.shards })

  abbrev tickets : Tickets
  tickets = fin.insert w.tickets w.next_ticket (shard_ticket w o op s base)

  keeps : (j : ℕ) (u : Ticket) → fin.get w.tickets j ≡ Some u → fin.get (fin.insert w.tickets w.next_ticket (shard_ticket w o op s base)) j ≡ Some u
  keeps j u e = other_in w.tickets k v j (λ q. let b : j < w.next_ticket = (l.tickets j u e).0 in omega (arith, b, q)) ∙ e

  -- a shard of the op that another ticket has stays
  stays : (z : ShardWork) (j : ℕ) → Has op.shards z → z.state ≡ Out j → given w.next_ticket s.ref.id s.number z ≡ z
  stays z j m e = elim (given_is k s.ref.id s.number z) [
    | inl h ↦ absurd (pending_out (sym ready.pending ∙ ap (λ (x : ShardWork). x.state) (sym (l.named.distinct o op z s ready.op_there m ready.s_there h.0 h.1)) ∙ e))
    | inr h ↦ h.1
  ]

  here : given w.next_ticket s.ref.id s.number s ≡ record s { state = Out w.next_ticket }
  here = elim (given_is k s.ref.id s.number s) [ inl h ↦ h.2 | inr h ↦ absurd (h.0 refl refl) ]

  mine : ShardTracked ops k v s.ref.id s.number
  mine =
      record {
        op = now;
        op_there = same_in w.ops o now;
        uuid_is = refl;
        source_is = refl;
        s = record s { state = Out w.next_ticket };
        s_there = subst (Has (map g op.shards)) here (Has-map g op.shards s ready.s_there);
        state = refl;
        index_is = refl;
        number_is = refl;
        place_is = refl;
        name_is = refl;
      }

  mine_at : (j : ℕ) (u : Ticket) (i n : ℕ) → j ≡ k → v ≡ u → u.work ≡ Shard i n → ShardTracked ops j u i n
  mine_at j u i n e h is =
      let work : Shard s.ref.id s.number ≡ Shard i n = ap (λ (x : Ticket). x.work) h ∙ is in
      subst (λ x. ShardTracked ops x u i n) (sym e) (subst (λ x. ShardTracked ops k x i n) h (subst (λ x. ShardTracked ops k v x n) (index_same work) (subst (λ x. ShardTracked ops k v s.ref.id x) (number_same work) mine)))
    where
      index_same : {a b c d : ℕ} → Shard a b ≡ Shard c d → a ≡ c
      index_same e = cc

      number_same : {a b c d : ℕ} → Shard a b ≡ Shard c d → b ≡ d
      number_same e = cc

  other_shard : (j : ℕ) (u : Ticket) (i n : ℕ) → ShardTracked w.ops j u i n → ShardTracked ops j u i n
  other_shard j u i n x = elim (split_at u.op o) [
    | inl same ↦
        let one : x.op ≡ op = same_Some _ _ (sym x.op_there ∙ ap (fin.get w.ops) same ∙ ready.op_there) in
        let m : Has op.shards x.s = subst (λ (y : Op). Has y.shards x.s) one x.s_there in
        record {
          op = now;
          op_there = ap (fin.get ops) same ∙ same_in w.ops o now;
          uuid_is = x.uuid_is ∙ ap (λ (y : Op). y.uuid) one;
          source_is = x.source_is ∙ ap (λ (y : Op). y.source) one;
          s = x.s;
          s_there = subst (Has (map g op.shards)) (stays x.s j m x.state) (Has-map g op.shards x.s m);
          state = x.state;
          index_is = x.index_is;
          number_is = x.number_is;
          place_is = x.place_is;
          name_is = x.name_is;
        }
    | inr away ↦ record {
      op = x.op;
      op_there = other_in w.ops o now u.op away ∙ x.op_there;
      uuid_is = x.uuid_is;
      source_is = x.source_is;
      s = x.s;
      s_there = x.s_there;
      state = x.state;
      index_is = x.index_is;
      number_is = x.number_is;
      place_is = x.place_is;
      name_is = x.name_is;
    }
  ]

  held_on : (p : ℕ) (z : ShardWork) (j : ℕ) → IsHeldBy w.tickets p z j → IsHeldBy tickets p z j
  held_on p z j h = record { t = h.t; there = keeps j h.t h.there; out = h.out; op_is = h.op_is; work = h.work }

  held_now : (p : ℕ) (q : Op) (z : ShardWork) (j : ℕ) → fin.get ops p ≡ Some q → Has q.shards z → z.state ≡ Out j → IsHeldBy tickets p z j
  held_now p q z j e m state = elim (was_in w.ops o now p q e) [
    | inl h ↦
        let (y, ym, ye) = Has-mapped g op.shards z (subst (λ (x : Op). Has x.shards z) (sym h.1) m) in
        elim (given_is k s.ref.id s.number y) [
          | inl c ↦
              let z_is : record y { state = Out w.next_ticket } ≡ z = sym c.2 ∙ ye in
              let same : w.next_ticket ≡ j = out_same (ap (λ (x : ShardWork). x.state) z_is ∙ state) in
              record {
                t = v;
                there = ap (fin.get tickets) (sym same) ∙ same_in w.tickets k v;
                out = refl;
                op_is = sym h.0;
                work = (λ x. Shard (sym c.0 x) (sym c.1 x)) ∙ ap (λ (x : ShardWork). Shard x.ref.id x.number) z_is;
              }
          | inr c ↦
              let z_is : y ≡ z = sym c.1 ∙ ye in
              subst (λ x. IsHeldBy tickets p x j) z_is (held_on p y j (subst (λ x. IsHeldBy w.tickets x y j) (sym h.0) (l.held o op y j ready.op_there ym (ap (λ (x : ShardWork). x.state) z_is ∙ state))))
        ]
    | inr h ↦ held_on p z j (l.held p q z j h.1 m state)
  ]
    where
      out_same : {a b : ℕ} → Out a ≡ Out b → a ≡ b
      out_same e = cc

  shard_final : (info : SnapInfo) (results : List ShardResult) (made : Command) → Shard s.ref.id s.number ≡ Finalize info results made → ⊥
  shard_final info results made e = cc

  shard_drop : Shard s.ref.id s.number ≡ Drop → ⊥
  shard_drop e = cc

  shard_delete : (uuids : List ℕ) (plan : Option Swap) → Shard s.ref.id s.number ≡ Deleting uuids plan → ⊥
  shard_delete uuids plan e = cc

  swap_was : (j : ℕ) → SwapIsOut tickets w.term j → SwapIsOut w.tickets w.term j
  swap_was j x = elim (was_in w.tickets k v j x.t x.there) [
    | inl h ↦ absurd (subst (λ (y : Ticket). IsMaster y.work) (sym h.1) x.swaps)
    | inr h ↦ record { t = x.t; there = h.1; out = x.out; unsettled = x.unsettled; present = x.present; swaps = x.swaps }
  ]

  given_done : (z : ShardWork) (r : ShardResult) → (given w.next_ticket s.ref.id s.number z).state ≡ Done r → z.state ≡ Done r
  given_done z r e = elim (given_is k s.ref.id s.number z) [ inl h ↦ absurd (out_done (ap (λ (y : ShardWork). y.state) (sym h.2) ∙ e)) | inr h ↦ sym (ap (λ (y : ShardWork). y.state) h.1) ∙ e ]

  given_ref : (z : ShardWork) → (given w.next_ticket s.ref.id s.number z).ref ≡ z.ref
  given_ref z = elim (given_is k s.ref.id s.number z) [ inl h ↦ ap (λ (y : ShardWork). y.ref) h.2 | inr h ↦ ap (λ (y : ShardWork). y.ref) h.1 ]

  given_number : (z : ShardWork) → (given w.next_ticket s.ref.id s.number z).number ≡ z.number
  given_number z = elim (given_is k s.ref.id s.number z) [ inl h ↦ ap (λ (y : ShardWork). y.number) h.2 | inr h ↦ ap (λ (y : ShardWork). y.number) h.1 ]

  alike : Alike w.next_id op now
  alike = record { name = refl; uuid = refl; indices = refl; g = g; shards = refl; ref = given_ref; number = given_number; done = λ z r m e. inl (given_done z r e) }

  pub tracked_given : Tracked
      (record w { ops = fin.insert w.ops o (record op { shards = map (given w.next_ticket s.ref.id s.number) op.shards }); tickets = fin.insert w.tickets w.next_ticket (shard_ticket w o op s base); next_ticket = suc w.next_ticket })
  tracked_given =
      record {
        numbers = λ p q e. elim (was_in w.ops o now p q e) [ inl h ↦ subst (λ x. x < w.next_op) (sym h.0) (l.numbers o op ready.op_there) | inr h ↦ l.numbers p q h.1 ];
        delete_numbers = l.delete_numbers;
        apart = λ p q d e h. elim (was_in w.ops o now p q e) [ inl z ↦ l.apart o op d ready.op_there (ap (fin.get w.deletes) (sym z.0) ∙ h) | inr z ↦ l.apart p q d z.1 h ];
        tickets = λ j u e. elim (was_in w.tickets k v j u e) [
          | inl h ↦ let same : j ≡ w.next_ticket = h.0 in subst (λ (y : Ticket). (j < suc w.next_ticket) × (y.term ≤ w.term) × (y.first + y.drawn ≤ w.next_id)) h.1 (omega (arith, same), omega arith, omega arith)
          | inr h ↦ let x = l.tickets j u h.1 in let b : j < w.next_ticket = x.0 in (omega (arith, b), x.1, x.2)
        ];
        begun = λ j u e. elim (was_in w.tickets k v j u e) [ inl h ↦ subst (λ (y : Ticket). y.op < w.next_op) h.1 (l.numbers o op ready.op_there) | inr h ↦ l.begun j u h.1 ];
        first_ticket = omega arith;
        shards = λ j u i n e out is. elim (was_in w.tickets k v j u e) [ inl h ↦ mine_at j u i n h.0 h.1 is | inr h ↦ other_shard j u i n (l.shards j u i n h.1 out is) ];
        held = held_now;
        finals = λ j u info rs made e out uns pres is. elim (was_in w.tickets k v j u e) [
          | inl h ↦ absurd (shard_final info rs made (ap (λ (y : Ticket). y.work) h.1 ∙ is))
          | inr h ↦
              let x = l.finals j u info rs made h.1 out uns pres is in
              let away : u.op ≢ o = final_apart w l op s ready.s_there (λ r state. pending_done (sym ready.pending ∙ state)) o ready.op_there u info rs x in
              record { op = x.op; op_there = other_in w.ops o now u.op away ∙ x.op_there; done = x.done; goes = x.goes; uuid_is = x.uuid_is; info_is = x.info_is; root_is = x.root_is }
        ];
        drops = λ j u e out pres is. elim (was_in w.tickets k v j u e) [
          | inl h ↦ absurd (shard_drop (ap (λ (y : Ticket). y.work) h.1 ∙ is))
          | inr h ↦
              let x = l.drops j u h.1 out pres is in
              let away : u.op ≢ o = λ same. goes_not_stopped op ready.goes (x.stopped op (ap (fin.get w.ops) same ∙ ready.op_there)) in
              record {
                stopped = λ q there. x.stopped q (sym (other_in w.ops o now u.op away) ∙ there);
                idle = λ i y ye yout shard same. elim (was_in w.tickets k v i y ye) [ inl z ↦ away (sym (ap (λ (b : Ticket). b.op) z.1 ∙ same)) | inr z ↦ x.idle i y z.1 yout shard same ];
                failed = x.failed;
              }
        ];
        deleting = λ j u uuids plan e out uns pres is. elim (was_in w.tickets k v j u e) [
          | inl h ↦ absurd (shard_delete uuids plan (ap (λ (y : Ticket). y.work) h.1 ∙ is))
          | inr h ↦ l.deleting j u uuids plan h.1 out uns pres is
        ];
        deletions = record {
          modes = λ j u uuids plan e is x at. elim (was_in w.tickets k v j u e) [
            | inl h ↦ absurd (shard_delete uuids plan (ap (λ (y : Ticket). y.work) h.1 ∙ is))
            | inr h ↦ l.deletions.modes j u uuids plan h.1 is x at
          ];
          cleaning = λ j u e out pres clean. elim (was_in w.tickets k v j u e) [
            | inl h ↦ absurd (true≢false (sym clean ∙ sym (ap (λ (y : Ticket). y.clean) h.1)))
            | inr h ↦
                let c = l.deletions.cleaning j u h.1 out pres clean in
                record {
                  x = c.x;
                  there = c.there;
                  cleans = c.cleans;
                  unfailed = c.unfailed;
                  alone = λ i y uuids plan ye yout ypres is same. elim (was_in w.tickets k v i y ye) [ inl z ↦ absurd (shard_delete uuids plan (ap (λ (b : Ticket). b.work) z.1 ∙ is)) | inr z ↦ c.alone i y uuids plan z.1 yout ypres is same ];
                }
          ];
        };
        one_swap = λ i j a b. l.one_swap i j (swap_was i a) (swap_was j b);
        named =
            named_from w.root w.ops ops w.next_id l.named (λ p q e. elim (was_in w.ops o now p q e) [ inl h ↦ (op, ap (fin.get w.ops) h.0 ∙ ready.op_there, subst (Alike w.next_id op) h.1 alike) | inr h ↦ (q, h.1, alike_same w.next_id q) ]);
        in_term = record { from = l.in_term.from; below = l.in_term.below };
      }
