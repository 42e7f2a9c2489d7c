-- A shard that is taken keeps what holds of shards and ops.
use Rattle.std.proofs.Common.{◌≡◌, ◌≢◌, ◌⊎◌, ℕ, ◌<◌, List, Option, Some, None, refl, sym, ap, ◌∙◌, subst, inl, inr, arith, nat_cmp}
use Rattle.std.specs.Cmp.{nat_cmp_total}
use Rattle.std.specs.FinMap.{FinMap, nat_cmp-IsAntisymmetric}
use Rattle.std.specs.FinMap as fin
use Rattle.std.proofs.lemmas.Option.{same_Some}
use Rattle.esr_model.specs.Values.{IndexRef, SnapInfo, ShardResult, Formats}
use Rattle.esr_model.specs.Shelf.{Command}
use Rattle.esr_model.specs.Image.{Has}
use Rattle.esr_core.specs.World.{World, Op, ShardWork, Out, Shard, Finalize, Deleting, Ticket, Swap, HeldIn}
use Rattle.esr_core.specs.Steps.{TakeShard, given, Largest, shard_ticket}
use Rattle.esr_core.specs.Generations.{OpLaw, Base, ShardLaw, Carried}
use Rattle.esr_core.specs.Laws.Maps.{get_was, get_same, get_other}
use Rattle.esr_model.specs.Lists.{Has-map, Has-mapped}
use Rattle.esr_core.specs.Laws.DoneShards.{done_of}
use Rattle.esr_core.specs.Laws.ShardStates.{op_now, ops_now, op_was, live_was, out_same, pending_out, pending_done, given_is, goes_on}
use Rattle.esr_core.proofs.Ops.{shard_law_given, on_with, carries_now, base_now, op_law_now, together_now}
use Rattle.esr_core.proofs.Owning.{plan_on}

shard_deleting : {i n : ℕ} {us : List ℕ} {p : Option Swap} → Shard i n ≡ Deleting us p → ⊥
shard_deleting e = cc

module _ (f : Formats) (w : World) (o : ℕ) (op : Op) (s : ShardWork) (base : Option ℕ) (new : World) (d : TakeShard w o op s base new)
    (c : Carried f (HeldIn f w) w.safe w.term w.root w.ops w.tickets) (fresh : (k : ℕ) (t : Ticket) → fin.get w.tickets k ≡ Some t → k < w.next_ticket) where
  abbrev pub k : ℕ
  k = w.next_ticket

  abbrev pub g : ShardWork → ShardWork
  g = given k s.ref.id s.number

  abbrev pub v : Ticket
  v = shard_ticket w o op s base

  abbrev pub ops : FinMap nat_cmp Op
  ops = ops_now f (HeldIn f w) w.root w.ops o op d.op_there g (goes_on k s.ref.id s.number) op.failed

  abbrev pub now : Op
  now = op_now f (HeldIn f w) w.root w.ops o op d.op_there g (goes_on k s.ref.id s.number) op.failed

  law : OpLaw f (HeldIn f w) w.root op
  law = c.ops o op d.op_there

  -- a shard of the op that another ticket has stays
  stays : (z : ShardWork) (j : ℕ) → Has op.shards z → z.state ≡ Out j → g z ≡ z
  stays z j m e = elim (given_is k s.ref.id s.number z) [
    | inl h ↦ absurd (pending_out (sym d.pending ∙ ap (λ (x : ShardWork). x.state) (sym (law.distinct z s m d.s_there h.0 h.1)) ∙ e))
    | inr h ↦ h.1
  ]

  new_base : (b : Option ℕ) → Largest w s.ref.id s.number b → Base f (HeldIn f w) w.root ops s.ref.id s.number b
  new_base None h = base_now f (HeldIn f w) w.root w.ops o op d.op_there g (goes_on k s.ref.id s.number) op.failed s.ref.id s.number None h
  new_base (Some b) h = base_now f (HeldIn f w) w.root w.ops o op d.op_there g (goes_on k s.ref.id s.number) op.failed s.ref.id s.number (Some b) (h.1, c.carries s.ref.id s.number b h.0)

  new_law : ShardLaw f (HeldIn f w) w.root ops k v s.ref.id s.number
  new_law =
      record {
        op = now;
        op_there = get_same nat_cmp_total nat_cmp-IsAntisymmetric w.ops o now;
        uuid_is = refl;
        source_is = refl;
        s = g s;
        s_there = Has-map g op.shards s d.s_there;
        state = elim (given_is k s.ref.id s.number s) [ inl h ↦ ap (λ (x : ShardWork). x.state) h.2 | inr h ↦ absurd (h.0 refl refl) ];
        index_is = ap (λ (x : IndexRef). x.id) ((goes_on k s.ref.id s.number).ref s);
        shard_is = (goes_on k s.ref.id s.number).number s;
        base = new_base base d.largest;
        ids = λ id a b. absurd (omega (arith, b));
      }

  old_law : (j : ℕ) (u : Ticket) (index shard : ℕ) → ShardLaw f (HeldIn f w) w.root w.ops j u index shard → ShardLaw f (HeldIn f w) w.root ops j u index shard
  old_law j u index shard l =
      shard_law_given f (HeldIn f w) w.root w.ops o op d.op_there g op.failed j u index shard l (λ z m e. stays z j m e)
      (base_now f (HeldIn f w) w.root w.ops o op d.op_there g (goes_on k s.ref.id s.number) op.failed index shard u.base l.base)

  ticket_was : (j : ℕ) (u : Ticket) → fin.get (fin.insert w.tickets k v) j ≡ Some u → ((j ≡ k) × (v ≡ u)) ⊎ ((j ≢ k) × (fin.get w.tickets j ≡ Some u))
  ticket_was j u e = get_was nat_cmp_total nat_cmp-IsAntisymmetric w.tickets k v j u e

  old_ticket : (j : ℕ) (u : Ticket) → fin.get w.tickets j ≡ Some u → fin.get (fin.insert w.tickets k v) j ≡ Some u
  old_ticket j u e = get_other nat_cmp_total nat_cmp-IsAntisymmetric w.tickets k v j (λ same. let h : j < w.next_ticket = fresh j u e in omega arith) ∙ e

  shard_same : {a b x y : ℕ} → Shard a b ≡ Shard x y → (a ≡ x) × (b ≡ y)
  shard_same e = (cc, cc)

  pub taken_shard : Carried f (HeldIn f w) w.safe w.term w.root ops (fin.insert w.tickets k v)
  taken_shard =
      record {
        root_is = c.root_is;
        ops = λ p q e. elim (op_was f (HeldIn f w) w.root w.ops o op d.op_there g (goes_on k s.ref.id s.number) op.failed p q e) [
          | inl h ↦ subst (OpLaw f (HeldIn f w) w.root) h.1 (op_law_now f (HeldIn f w) w.root w.ops o op d.op_there g (goes_on k s.ref.id s.number) op.failed law)
          | inr h ↦ c.ops p q h.1
        ];
        together = together_now f (HeldIn f w) w.root w.ops o op d.op_there g (goes_on k s.ref.id s.number) op.failed c.together;
        carries = λ i n x live. carries_now f (HeldIn f w) w.root w.ops o op d.op_there g (goes_on k s.ref.id s.number) op.failed i n x
            (c.carries i n x (live_was f (HeldIn f w) w.root w.ops o op d.op_there g (goes_on k s.ref.id s.number) op.failed i n x live));
        shards = λ j u e out index shard is. elim (ticket_was j u e) [
          | inl h ↦
              let p = shard_same (ap (λ (x : Ticket). x.work) h.1 ∙ is) in
              subst (λ x. ShardLaw f (HeldIn f w) w.root ops j u index x) p.1 (subst (λ x. ShardLaw f (HeldIn f w) w.root ops j u x s.number) p.0
              (subst (λ x. ShardLaw f (HeldIn f w) w.root ops j x s.ref.id s.number) h.1 (subst (λ x. ShardLaw f (HeldIn f w) w.root ops x v s.ref.id s.number) (sym h.0) new_law)))
          | inr h ↦ old_law j u index shard (c.shards j u h.1 out index shard is)
        ];
        one_shard = λ i j t u a b ao bo index shard ai bi. elim (ticket_was i t a) [
          | inl x ↦ elim (ticket_was j u b) [
            | inl y ↦ x.0 ∙ sym y.0
            | inr y ↦ absurd (d.free j u y.1 bo (bi ∙ sym ai ∙ ap (λ (z : Ticket). z.work) (sym x.1)))
          ]
          | inr x ↦ elim (ticket_was j u b) [
            | inl y ↦ absurd (d.free i t x.1 ao (ai ∙ sym bi ∙ ap (λ (z : Ticket). z.work) (sym y.1)))
            | inr y ↦ c.one_shard i j t u x.1 y.1 ao bo index shard ai bi
          ]
        ];
        plans = λ j u e out uns pres uuids x is. elim (ticket_was j u e) [
          | inl h ↦ absurd (shard_deleting (ap (λ (y : Ticket). y.work) h.1 ∙ is))
          | inr h ↦ plan_on w.ops ops (on_with f (HeldIn f w) w.root w.ops o op d.op_there g (goes_on k s.ref.id s.number) op.failed) f w.root x (c.plans j u h.1 out uns pres uuids x is)
        ];
        finals = λ j u e out uns pres info results made is. elim (ticket_was j u e) [
          | inl h ↦ absurd (differ (ap (λ (x : Ticket). x.work) h.1 ∙ is))
          | inr h ↦
              let l = c.finals j u h.1 out uns pres info results made is in
              let not_it : u.op ≢ o = λ same.
              let one : l.op ≡ op = same_Some _ _ (sym l.op_there ∙ ap (fin.get w.ops) same ∙ d.op_there) in
              let (q, state, there) = done_of l.op.shards results l.done s (subst (λ (x : Op). Has x.shards s) (sym one) d.s_there) in
              pending_done (sym d.pending ∙ state) in
              record { op = l.op; op_there = get_other nat_cmp_total nat_cmp-IsAntisymmetric w.ops o now u.op not_it ∙ l.op_there; done = l.done; info_is = l.info_is; made_is = l.made_is; root_is = l.root_is }
        ];
        held = λ p q z j e m state. elim (op_was f (HeldIn f w) w.root w.ops o op d.op_there g (goes_on k s.ref.id s.number) op.failed p q e) [
          | inr h ↦ let x = c.held p q z j h.1 m state in record { t = x.t; there = old_ticket j x.t x.there; out = x.out; op_is = x.op_is; work = x.work }
          | inl h ↦
              let (x, x_there, same) = Has-mapped g op.shards z (subst (λ (y : Op). Has y.shards z) (sym h.1) m) in
              elim (given_is k s.ref.id s.number x) [
                | inl it ↦
                    let z_is : record x { state = Out k } ≡ z = sym it.2 ∙ same in
                    let one : k ≡ j = out_same (ap (λ (y : ShardWork). y.state) z_is ∙ state) in
                    record {
                      t = v;
                      there = ap (fin.get (fin.insert w.tickets k v)) (sym one) ∙ get_same nat_cmp_total nat_cmp-IsAntisymmetric w.tickets k v;
                      out = refl;
                      op_is = sym h.0;
                      work = (λ i. Shard (sym it.0 i) (sym it.1 i)) ∙ ap (λ (y : ShardWork). Shard y.ref.id y.number) z_is;
                    }
                | inr it ↦
                    let z_is : x ≡ z = sym it.1 ∙ same in
                    let y = c.held o op x j d.op_there x_there (ap (λ (y : ShardWork). y.state) z_is ∙ state) in
                    record { t = y.t; there = old_ticket j y.t y.there; out = y.out; op_is = y.op_is ∙ sym h.0; work = y.work ∙ ap (λ (y : ShardWork). Shard y.ref.id y.number) z_is }
              ]
        ];
      }
    where
      differ : {i n : ℕ} {info : SnapInfo} {results : List ShardResult} {made : Command} → Shard i n ≡ Finalize info results made → ⊥
      differ e = cc
