-- What each kind of change leaves of the queue's law.
use Rattle.std.proofs.Common.{◌≡◌, ◌≢◌, ◌⊎◌, ℕ, suc, ◌<◌, List, true, false, Option, Some, refl, sym, ap, ◌∙◌, subst, inl, inr, arith, true≢false}
use Rattle.std.specs.FinMap as fin
use Rattle.std.proofs.lemmas.Option.{same_Some}
use Rattle.esr_core.specs.Laws.NumberMaps.{was_in, same_in, other_in, left_in, stays_in, split_at}
use Rattle.esr_model.specs.Values.{RootData, ShardResult}
use Rattle.esr_model.specs.Image.{Has}
use Rattle.esr_core.specs.World.{Op, Deletion, ShardWork, Pending, Out, GivenUp, Deleting, Drop, Ticket, Swap, AllDone}
use Rattle.esr_core.specs.Ready.{Stopped, Idle, IsMaster, IsShard, SwapIsOut, UnitIsOut}
use Rattle.esr_core.specs.Queue.{DeleteLaw, DropLaw, Sole, Queue, Lists}
use Rattle.esr_model.specs.Shelf.{names_uuid}
use Rattle.esr_core.specs.Laws.Maps.{Ops, Deletes, Tickets}

-- the parts of the queue's law that read its root or its tickets
record QueueTickets (term : ℕ) (root : RootData) (ops : Ops) (deletes : Deletes) (tickets : Tickets) : Type 0 where
  sources : (o : ℕ) (op : Op) (u : ℕ) → fin.get ops o ≡ Some op → op.source ≡ Some u → Lists root u × ((d : ℕ) (x : Deletion) → fin.get deletes d ≡ Some x → names_uuid x.uuids u ≡ false)
  sole : Sole term deletes tickets
  deleting : (k : ℕ) (t : Ticket) → fin.get tickets k ≡ Some t → t.out ≡ true → t.settled ≡ false → t.term ≡ term → (uuids : List ℕ) (plan : Option Swap) → t.work ≡ Deleting uuids plan → DeleteLaw root ops deletes t plan
  drops : (k : ℕ) (t : Ticket) → fin.get tickets k ≡ Some t → t.out ≡ true → t.term ≡ term → t.work ≡ Drop → DropLaw term ops deletes tickets k t
  one_swap : (j k : ℕ) → SwapIsOut tickets term j → SwapIsOut tickets term k → j ≡ k

with_tickets : (term now : ℕ) (root new : RootData) (ops : Ops) (deletes : Deletes) (completed : List ℕ) (next_op : ℕ) (tickets after : Tickets)
    → Queue term root ops deletes completed next_op tickets → QueueTickets now new ops deletes after → Queue now new ops deletes completed next_op after
with_tickets term now root new ops deletes completed next_op tickets after q parts =
    record {
      numbers = q.numbers;
      delete_numbers = q.delete_numbers;
      apart = q.apart;
      behind = q.behind;
      queued = q.queued;
      given_up = q.given_up;
      completes = q.completes;
      completed_numbers = q.completed_numbers;
      completed_done = q.completed_done;
      lone = q.lone;
      sources = parts.sources;
      sole = parts.sole;
      deleting = parts.deleting;
      drops = parts.drops;
      one_swap = parts.one_swap;
    }

-- a ticket given anew, that is a unit or a swap only if it was
pub record Like (t v : Ticket) : Type 0 where
  pub op : v.op ≡ t.op
  pub term : v.term ≡ t.term
  pub out : v.out ≡ true → t.out ≡ true
  pub settled : v.settled ≡ false → t.settled ≡ false
  pub master : IsMaster v.work → IsMaster t.work
  pub shard : IsShard v.work → IsShard t.work
  pub drop : v.work ≡ Drop → t.work ≡ Drop

module _ (term : ℕ) (tickets : Tickets) (k : ℕ) (t v : Ticket) (there : fin.get tickets k ≡ Some t) (like : Like t v) where
  pub swap_back : (j : ℕ) → SwapIsOut (fin.insert tickets k v) term j → SwapIsOut tickets term j
  swap_back j h = elim (was_in tickets k v j h.t h.there) [
    | inl e ↦ record {
      t = t;
      there = ap (fin.get tickets) e.0 ∙ there;
      out = like.out (ap (λ (x : Ticket). x.out) e.1 ∙ h.out);
      unsettled = like.settled (ap (λ (x : Ticket). x.settled) e.1 ∙ h.unsettled);
      present = sym like.term ∙ ap (λ (x : Ticket). x.term) e.1 ∙ h.present;
      swaps = like.master (subst (λ (x : Ticket). IsMaster x.work) (sym e.1) h.swaps);
    }
    | inr e ↦ record { t = h.t; there = e.1; out = h.out; unsettled = h.unsettled; present = h.present; swaps = h.swaps }
  ]

  pub unit_back : (o j : ℕ) → UnitIsOut (fin.insert tickets k v) term o j → UnitIsOut tickets term o j
  unit_back o j h = elim (was_in tickets k v j h.t h.there) [
    | inl e ↦ record {
      t = t;
      there = ap (fin.get tickets) e.0 ∙ there;
      out = like.out (ap (λ (x : Ticket). x.out) e.1 ∙ h.out);
      op_is = sym like.op ∙ ap (λ (x : Ticket). x.op) e.1 ∙ h.op_is;
      counts = elim h.counts [ inl s ↦ inl (like.shard (subst (λ (x : Ticket). IsShard x.work) (sym e.1) s)) | inr p ↦ inr (sym like.term ∙ ap (λ (x : Ticket). x.term) e.1 ∙ p) ];
    }
    | inr e ↦ record { t = h.t; there = e.1; out = h.out; op_is = h.op_is; counts = h.counts }
  ]

  old_of : (i : ℕ) (y : Ticket) → fin.get (fin.insert tickets k v) i ≡ Some y → y.out ≡ true → (a : Ticket) × ((fin.get tickets i ≡ Some a) × (a.out ≡ true))
  old_of i y h out = elim (was_in tickets k v i y h) [
    | inl z ↦ (t, (ap (fin.get tickets) z.0 ∙ there, like.out (ap (λ (x : Ticket). x.out) z.1 ∙ out)))
    | inr z ↦ (y, (z.1, out))
  ]

  master_of : (j : ℕ) (u : Ticket) → fin.get (fin.insert tickets k v) j ≡ Some u → u.out ≡ true → IsMaster u.work → u.term ≡ term
      → (b : Ticket) × (fin.get tickets j ≡ Some b) × (b.out ≡ true) × IsMaster b.work × (b.term ≡ term) × (b.op ≡ u.op)
  master_of j u e out m pres = elim (was_in tickets k v j u e) [
    | inl z ↦ (
      t,
      ap (fin.get tickets) z.0 ∙ there,
      like.out (ap (λ (x : Ticket). x.out) z.1 ∙ out),
      like.master (subst (λ (x : Ticket). IsMaster x.work) (sym z.1) m),
      sym like.term ∙ ap (λ (x : Ticket). x.term) z.1 ∙ pres,
      sym like.op ∙ ap (λ (x : Ticket). x.op) z.1,
    )
    | inr z ↦ (u, z.1, out, m, pres, refl)
  ]

  pub queue_ticket : (root : RootData) (ops : Ops) (deletes : Deletes) (completed : List ℕ) (next_op : ℕ)
      → (v.out ≡ true → v.settled ≡ false → v.term ≡ term → (uuids : List ℕ) (plan : Option Swap) → v.work ≡ Deleting uuids plan → DeleteLaw root ops deletes v plan)
      → Queue term root ops deletes completed next_op tickets → Queue term root ops deletes completed next_op (fin.insert tickets k v)
  queue_ticket root ops deletes completed next_op del q =
      with_tickets term term root root ops deletes completed next_op tickets (fin.insert tickets k v) q (record {
        sources = q.sources;
        sole = λ j u e out m pres x there clean i y h yo.
            let (a, a_out) = old_of i y h yo in
            let (b, b_there, b_out, b_master, b_pres, b_op) = master_of j u e out m pres in
            q.sole j b b_there b_out b_master b_pres x (ap (fin.get deletes) b_op ∙ there) clean i a a_out.0 a_out.1;
        deleting = λ j u e out uns pres uuids plan is. elim (was_in tickets k v j u e) [
          | inl h ↦ subst (λ x. DeleteLaw root ops deletes x plan) h.1
              (del (ap (λ (x : Ticket). x.out) h.1 ∙ out) (ap (λ (x : Ticket). x.settled) h.1 ∙ uns) (ap (λ (x : Ticket). x.term) h.1 ∙ pres) uuids plan (ap (λ (x : Ticket). x.work) h.1 ∙ is))
          | inr h ↦ q.deleting j u h.1 out uns pres uuids plan is
        ];
        drops = λ j u e out pres is. elim (was_in tickets k v j u e) [
          | inl h ↦
              let l = q.drops k t there (like.out (ap (λ (x : Ticket). x.out) h.1 ∙ out)) (sym like.term ∙ ap (λ (x : Ticket). x.term) h.1 ∙ pres) (like.drop (ap (λ (x : Ticket). x.work) h.1 ∙ is)) in
              let same : t.op ≡ u.op = sym like.op ∙ ap (λ (x : Ticket). x.op) h.1 in
              record {
                stopped = subst (λ o. ((op : Op) × (fin.get ops o ≡ Some op) × Stopped op) ⊎ ((x : Deletion) × (fin.get deletes o ≡ Some x) × (x.failed ≡ true))) same l.stopped;
                alone = λ i a. l.alone i (unit_back t.op i (subst (λ o. UnitIsOut (fin.insert tickets k v) term o i) (sym same) a)) ∙ sym h.0;
              }
          | inr h ↦ let l = q.drops j u h.1 out pres is in record { stopped = l.stopped; alone = λ i a. l.alone i (unit_back u.op i a) }
        ];
        one_swap = λ i j a b. q.one_swap i j (swap_back i a) (swap_back j b);
      })

-- a ticket of another number
module _ (term : ℕ) (tickets : Tickets) (k : ℕ) (v : Ticket) where
  pub queue_new : (root : RootData) (ops : Ops) (deletes : Deletes) (completed : List ℕ) (next_op : ℕ)
      → ((uuids : List ℕ) (plan : Option Swap) → v.work ≡ Deleting uuids plan → DeleteLaw root ops deletes v plan)
      → (v.work ≡ Drop → (((op : Op) × (fin.get ops v.op ≡ Some op) × Stopped op) ⊎ ((x : Deletion) × (fin.get deletes v.op ≡ Some x) × (x.failed ≡ true))) × ((j : ℕ) → UnitIsOut tickets term v.op j → ⊥))
      → (IsMaster v.work → (j : ℕ) → SwapIsOut tickets term j → ⊥)
      → ((j : ℕ) (u : Ticket) → fin.get tickets j ≡ Some u → u.out ≡ true → u.term ≡ term → u.work ≡ Drop → u.op ≡ v.op → ⊥)
      → (IsMaster v.work → (x : Deletion) → fin.get deletes v.op ≡ Some x → x.clean ≡ true → (j : ℕ) (u : Ticket) → fin.get tickets j ≡ Some u → u.out ≡ true → ⊥)
      → ((j : ℕ) (u : Ticket) → fin.get tickets j ≡ Some u → u.out ≡ true → IsMaster u.work → u.term ≡ term → (x : Deletion) → fin.get deletes u.op ≡ Some x → x.clean ≡ true → ⊥)
      → Queue term root ops deletes completed next_op tickets → Queue term root ops deletes completed next_op (fin.insert tickets k v)
  queue_new root ops deletes completed next_op del drop idle aside free no_clean q =
      with_tickets term term root root ops deletes completed next_op tickets (fin.insert tickets k v) q (record {
        sources = q.sources;
        sole = λ j u e out m pres x there clean i y h yo. elim (was_in tickets k v j u e) [
          | inl z ↦ elim (was_in tickets k v i y h) [
            | inl o ↦ o.0 ∙ sym z.0
            | inr o ↦ absurd ((free (subst (λ (b : Ticket). IsMaster b.work) (sym z.1) m)) x (ap (λ (b : Ticket). fin.get deletes b.op) z.1 ∙ there) clean i y o.1 yo)
          ]
          | inr z ↦ elim (was_in tickets k v i y h) [
            | inl o ↦ absurd (no_clean j u z.1 out m pres x there clean)
            | inr o ↦ q.sole j u z.1 out m pres x there clean i y o.1 yo
          ]
        ];
        deleting = λ j u e out uns pres uuids plan is. elim (was_in tickets k v j u e) [
          | inl h ↦ subst (λ x. DeleteLaw root ops deletes x plan) h.1 (del uuids plan (ap (λ (x : Ticket). x.work) h.1 ∙ is))
          | inr h ↦ q.deleting j u h.1 out uns pres uuids plan is
        ];
        drops = λ j u e out pres is. elim (was_in tickets k v j u e) [
          | inl h ↦
              let l = drop (ap (λ (x : Ticket). x.work) h.1 ∙ is) in
              let same : v.op ≡ u.op = ap (λ (x : Ticket). x.op) h.1 in
              record {
                stopped = subst (λ o. ((op : Op) × (fin.get ops o ≡ Some op) × Stopped op) ⊎ ((x : Deletion) × (fin.get deletes o ≡ Some x) × (x.failed ≡ true))) same l.0;
                alone = λ i a. elim (was_in tickets k v i a.t a.there) [
                  | inl z ↦ z.0 ∙ sym h.0
                  | inr z ↦ absurd (l.1 i (record { t = a.t; there = z.1; out = a.out; op_is = a.op_is ∙ sym same; counts = a.counts }))
                ];
              }
          | inr h ↦
              let l = q.drops j u h.1 out pres is in
              record {
                stopped = l.stopped;
                alone = λ i a. elim (was_in tickets k v i a.t a.there) [
                  | inl z ↦ absurd (aside j u h.1 out pres is (sym (ap (λ (x : Ticket). x.op) z.1 ∙ a.op_is)))
                  | inr z ↦ l.alone i (record { t = a.t; there = z.1; out = a.out; op_is = a.op_is; counts = a.counts })
                ];
              }
        ];
        one_swap = λ i j a b. elim (was_in tickets k v i a.t a.there) [
          | inl x ↦ elim (was_in tickets k v j b.t b.there) [
            | inl y ↦ x.0 ∙ sym y.0
            | inr y ↦ absurd (idle (subst (λ (z : Ticket). IsMaster z.work) (sym x.1) a.swaps) j (record { t = b.t; there = y.1; out = b.out; unsettled = b.unsettled; present = b.present; swaps = b.swaps }))
          ]
          | inr x ↦ elim (was_in tickets k v j b.t b.there) [
            | inl y ↦ absurd (idle (subst (λ (z : Ticket). IsMaster z.work) (sym y.1) b.swaps) i (record { t = a.t; there = x.1; out = a.out; unsettled = a.unsettled; present = a.present; swaps = a.swaps }))
            | inr y ↦
                q.one_swap i j (record { t = a.t; there = x.1; out = a.out; unsettled = a.unsettled; present = a.present; swaps = a.swaps }) (record { t = b.t; there = y.1; out = b.out; unsettled = b.unsettled; present = b.present; swaps = b.swaps })
          ]
        ];
      })

-- what becomes of an op: its shards one by one
pub record Evolves (old op : Op) : Type 0 where
  pub shards : (z : ShardWork) → Has op.shards z → (s : ShardWork) × Has old.shards s × (s.ref.id ≡ z.ref.id) × (s.number ≡ z.number)
      × (Idle s.state → Idle z.state) × (z.state ≡ Pending → s.state ≡ Pending) × (z.state ≡ GivenUp → (s.state ≡ GivenUp) ⊎ (op.failed ≡ true))
  pub failed : old.failed ≡ true → op.failed ≡ true
  pub stopped : Stopped old → Stopped op
  pub source : op.source ≡ old.source

-- a delete's law, where its entry stays and no op comes before it
delete_law : (root : RootData) (ops now_ops : Ops) (deletes now_deletes : Deletes) (t : Ticket) (plan : Option Swap) (l : DeleteLaw root ops deletes t plan) → fin.get now_deletes t.op ≡ Some l.deletion
    → ((p : ℕ) (op : Op) → p < t.op → fin.get now_ops p ≡ Some op → ⊥) → DeleteLaw root now_ops now_deletes t plan
delete_law root ops now_ops deletes now_deletes t plan l there first =
    record { deletion = l.deletion; there = there; unfailed = l.unfailed; first = first; root_is = l.root_is; planned = l.planned; named = l.named; keeps = l.keeps }

module _ (term : ℕ) (root : RootData) (ops : Ops) (deletes : Deletes) (completed : List ℕ) (next_op : ℕ) (tickets : Tickets) (q : Queue term root ops deletes completed next_op tickets) where
  -- ops that go on one by one
  pub queue_ops : (now : Ops) (completed_now : List ℕ)
      → ((o : ℕ) (op : Op) → fin.get now o ≡ Some op → (old : Op) × (fin.get ops o ≡ Some old) × Evolves old op)
      → ((o : ℕ) (old : Op) → fin.get ops o ≡ Some old → (op : Op) × (fin.get now o ≡ Some op) × Evolves old op)
      → ((o p : ℕ) (a b : Op) (s z : ShardWork) → o < p → fin.get now o ≡ Some a → fin.get now p ≡ Some b → Has a.shards s → Has b.shards z
      → s.ref.id ≡ z.ref.id → s.number ≡ z.number → s.state ≡ Pending → (k : ℕ) → z.state ≡ Out k → ⊥)
      → ((o : ℕ) (op : Op) (results : List ShardResult) → fin.get now o ≡ Some op → AllDone op.shards results → Has completed_now o)
      → ((o : ℕ) → Has completed_now o → o < next_op)
      → ((o : ℕ) (op : Op) → Has completed_now o → fin.get now o ≡ Some op → (results : List ShardResult) × AllDone op.shards results)
      → Queue term root now deletes completed_now next_op tickets
  queue_ops now completed_now back forth queued completes numbers dones =
      record {
        numbers = λ o op e. let (old, there, ev) = back o op e in q.numbers o old there;
        delete_numbers = q.delete_numbers;
        apart = λ o op x e h. let (old, there, ev) = back o op e in q.apart o old x there h;
        behind = λ o op z e b m. let (old, there, ev) = back o op e in let (s, m', i, n, idle, p, g) = ev.shards z m in idle (q.behind o old s there b m');
        queued = queued;
        given_up = λ o op z e m up. let (old, there, ev) = back o op e in let (s, m', i, n, idle, p, g) = ev.shards z m in elim (g up) [ inl was ↦ ev.failed (q.given_up o old s there m' was) | inr f ↦ f ];
        completes = completes;
        completed_numbers = numbers;
        completed_done = dones;
        lone = λ d x e c. let was = q.lone d x e c in ((λ o op h. let (old, there, ev) = back o op h in was.0 o old there), was.1);
        sources = λ o op u e is. let (old, there, ev) = back o op e in q.sources o old u there (sym ev.source ∙ is);
        sole = q.sole;
        deleting = λ k t e out uns pres uuids plan is.
            let l = q.deleting k t e out uns pres uuids plan is in
            delete_law root ops now deletes deletes t plan l l.there (λ p a lt h. let (old, there, ev) = back p a h in l.first p old lt there);
        drops = λ k t e out pres is. let l = q.drops k t e out pres is in record {
          stopped = elim l.stopped [ inl h ↦ let (old, there, st) = h in let (op, now_there, ev) = forth t.op old there in inl (op, now_there, ev.stopped st) | inr h ↦ inr h ];
          alone = l.alone;
        };
        one_swap = q.one_swap;
      }

  -- where no shard goes out, no later one is out while an earlier one waits
  pub queued_back : (now : Ops)
      → ((o : ℕ) (op : Op) → fin.get now o ≡ Some op → (old : Op) × (fin.get ops o ≡ Some old) × Evolves old op)
      → ((o : ℕ) (op : Op) → fin.get now o ≡ Some op → (z : ShardWork) → Has op.shards z → (k : ℕ) → z.state ≡ Out k → (old : Op) × (fin.get ops o ≡ Some old) × Has old.shards z)
      → (o p : ℕ) (a b : Op) (s z : ShardWork) → o < p → fin.get now o ≡ Some a → fin.get now p ≡ Some b → Has a.shards s → Has b.shards z
      → s.ref.id ≡ z.ref.id → s.number ≡ z.number → s.state ≡ Pending → (k : ℕ) → z.state ≡ Out k → ⊥
  queued_back now back outs o p a b s z lt ea eb ma mb i n pend k out =
      let (old, there, ev) = back o a ea in
      let (s', m', i', n', idle, was, g) = ev.shards s ma in
      let (pold, pthere, pm) = outs p b eb z mb k out in
      q.queued o p old pold s' z lt there pthere m' pm (i' ∙ i) (n' ∙ n) (was pend) k out

  -- an op leaves, of which no unit of a master is out
  pub queue_remove : (o : ℕ) → ((k : ℕ) (t : Ticket) → fin.get tickets k ≡ Some t → t.out ≡ true → t.term ≡ term → t.work ≡ Drop → t.op ≢ o)
      → ((k : ℕ) → SwapIsOut tickets term k → (t : Ticket) → fin.get tickets k ≡ Some t → t.op ≢ o)
      → Queue term root (fin.remove ops o) (fin.remove deletes o) completed next_op tickets
  queue_remove o drop swaps =
      record {
        numbers = λ p op e. q.numbers p op (left_in ops o p op e).1;
        delete_numbers = λ p x e. q.delete_numbers p x (left_in deletes o p x e).1;
        apart = λ p op x e h. q.apart p op x (left_in ops o p op e).1 (left_in deletes o p x h).1;
        behind = λ p op s e b m. q.behind p op s (left_in ops o p op e).1 (record { number = b.number; deletion = b.deletion; there = (left_in deletes o b.number b.deletion b.there).1; before = b.before }) m;
        queued = λ p r a b s z lt ea eb. q.queued p r a b s z lt (left_in ops o p a ea).1 (left_in ops o r b eb).1;
        given_up = λ p op s e. q.given_up p op s (left_in ops o p op e).1;
        completes = λ p op results e. q.completes p op results (left_in ops o p op e).1;
        completed_numbers = q.completed_numbers;
        completed_done = λ p op h e. q.completed_done p op h (left_in ops o p op e).1;
        lone = λ d x e c. let was = q.lone d x (left_in deletes o d x e).1 c in ((λ p op h. was.0 p op (left_in ops o p op h).1), (λ p y h. was.1 p y (left_in deletes o p y h).1));
        sources = λ p op u e is. let was = q.sources p op u (left_in ops o p op e).1 is in (was.0, (λ d x h. was.1 d x (left_in deletes o d x h).1));
        sole = λ k t e out m pres x there. q.sole k t e out m pres x (left_in deletes o t.op x there).1;
        deleting = λ k t e out uns pres uuids plan is.
            let l = q.deleting k t e out uns pres uuids plan is in
            let apart : t.op ≢ o = swaps k (record { t = t; there = e; out = out; unsettled = uns; present = pres; swaps = subst IsMaster (sym is) tt }) t e in
            delete_law root ops (fin.remove ops o) deletes (fin.remove deletes o) t plan l (stays_in deletes o t.op apart ∙ l.there)
            (λ p a lt h. l.first p a lt (left_in ops o p a h).1);
        drops = λ k t e out pres is.
            let l = q.drops k t e out pres is in
            let apart : t.op ≢ o = drop k t e out pres is in
            record {
              stopped = elim l.stopped [ inl h ↦ inl (h.0, stays_in ops o t.op apart ∙ h.1, h.2) | inr h ↦ inr (h.0, stays_in deletes o t.op apart ∙ h.1, h.2) ];
              alone = l.alone;
            };
        one_swap = q.one_swap;
      }

  -- the root changes, where no swap is out
  pub queue_root : (new : RootData) → ((k : ℕ) → SwapIsOut tickets term k → ⊥) → ((o : ℕ) (op : Op) (u : ℕ) → fin.get ops o ≡ Some op → op.source ≡ Some u → Lists new u)
      → Queue term new ops deletes completed next_op tickets
  queue_root new idle listed =
      with_tickets term term root new ops deletes completed next_op tickets tickets q (record {
        sources = λ o op u e is. (listed o op u e is, (q.sources o op u e is).1);
        sole = q.sole;
        deleting = λ k t e out uns pres uuids plan is. absurd (idle k (record { t = t; there = e; out = out; unsettled = uns; present = pres; swaps = subst IsMaster (sym is) tt }));
        drops = q.drops;
        one_swap = q.one_swap;
      })

  -- a later term, of which no ticket is
  pub queue_elect : (now : ℕ) → ((k : ℕ) (t : Ticket) → fin.get tickets k ≡ Some t → t.term ≢ now) → Queue now root ops deletes completed next_op tickets
  queue_elect now none =
      with_tickets term now root root ops deletes completed next_op tickets tickets q (record {
        sources = q.sources;
        sole = λ k t e out m pres. absurd (none k t e pres);
        deleting = λ k t e out uns pres uuids plan is. absurd (none k t e pres);
        drops = λ k t e out pres is. absurd (none k t e pres);
        one_swap = λ j k a b. absurd (none j a.t a.there a.present);
      })

  -- a new snapshot
  pub queue_add : (op : Op) (completed_now : List ℕ) → ((s : ShardWork) → Has op.shards s → s.state ≡ Pending) → ((o : ℕ) → Has completed o → Has completed_now o)
      → ((results : List ShardResult) → AllDone op.shards results → Has completed_now next_op)
      → ((o : ℕ) → Has completed_now o → Has completed o ⊎ ((o ≡ next_op) × ((results : List ShardResult) × AllDone op.shards results))) → ((d : ℕ) (x : Deletion) → fin.get deletes d ≡ Some x → x.clean ≡ true → ⊥)
      → ((u : ℕ) → op.source ≡ Some u → Lists root u × ((d : ℕ) (x : Deletion) → fin.get deletes d ≡ Some x → names_uuid x.uuids u ≡ false))
      → Queue term root (fin.insert ops next_op op) deletes completed_now (suc next_op) tickets
  queue_add op completed_now pending more mine was no_clean source =
      record {
        numbers = λ o a e. elim (was_in ops next_op op o a e) [ inl h ↦ omega (arith, h.0) | inr h ↦ let b : o < next_op = q.numbers o a h.1 in omega arith ];
        delete_numbers = λ d x e. let b : d < next_op = q.delete_numbers d x e in omega arith;
        apart = λ o a x e h. elim (was_in ops next_op op o a e) [ inl z ↦ let b : o < next_op = q.delete_numbers o x h in omega (arith, z.0) | inr z ↦ q.apart o a x z.1 h ];
        behind = λ o a s e b m. elim (was_in ops next_op op o a e) [
          | inl h ↦ subst Idle (sym (pending s (subst (λ (x : Op). Has x.shards s) (sym h.1) m))) tt
          | inr h ↦ q.behind o a s h.1 b m
        ];
        queued = λ o p a b s z lt ea eb ma mb i n pend k out. elim (was_in ops next_op op p b eb) [
          | inl h ↦ pending_out (sym (pending z (subst (λ (x : Op). Has x.shards z) (sym h.1) mb)) ∙ out)
          | inr h ↦ elim (was_in ops next_op op o a ea) [
            | inl y ↦ let c : p < next_op = q.numbers p b h.1 in omega (arith, y.0)
            | inr y ↦ q.queued o p a b s z lt y.1 h.1 ma mb i n pend k out
          ]
        ];
        given_up = λ o a s e m up. elim (was_in ops next_op op o a e) [
          | inl h ↦ absurd (pending_up (sym (pending s (subst (λ (x : Op). Has x.shards s) (sym h.1) m)) ∙ up))
          | inr h ↦ q.given_up o a s h.1 m up
        ];
        completes = λ o a results e all. elim (was_in ops next_op op o a e) [
          | inl h ↦ subst (Has completed_now) (sym h.0) (mine results (subst (λ (x : Op). AllDone x.shards results) (sym h.1) all))
          | inr h ↦ more o (q.completes o a results h.1 all)
        ];
        lone = λ d x e c. absurd (no_clean d x e c);
        sources = λ o a u e is. elim (was_in ops next_op op o a e) [ inl z ↦ source u (ap (λ (v : Op). v.source) z.1 ∙ is) | inr z ↦ q.sources o a u z.1 is ];
        sole = q.sole;
        completed_numbers = λ o h. elim (was o h) [ inl x ↦ (let b : o < next_op = q.completed_numbers o x in omega arith) | inr x ↦ omega (arith, x.0) ];
        completed_done = λ o a h e. elim (was_in ops next_op op o a e) [
          | inl z ↦ elim (was o h) [
            | inl x ↦ absurd (let b : o < next_op = q.completed_numbers o x in omega (arith, z.0))
            | inr x ↦ subst (λ (y : Op). (results : List ShardResult) × AllDone y.shards results) z.1 x.1
          ]
          | inr z ↦ elim (was o h) [
            | inl x ↦ q.completed_done o a x z.1
            | inr x ↦ absurd (z.0 x.0)
          ]
        ];
        deleting = λ k t e out uns pres uuids plan is.
            let l = q.deleting k t e out uns pres uuids plan is in
            delete_law root ops (fin.insert ops next_op op) deletes deletes t plan l l.there (λ p a lt h. elim (was_in ops next_op op p a h) [
              | inl z ↦ let b : t.op < next_op = q.delete_numbers t.op l.deletion l.there in omega (arith, z.0)
              | inr z ↦ l.first p a lt z.1
            ]);
        drops = λ k t e out pres is. let l = q.drops k t e out pres is in record {
          stopped = elim l.stopped [ inl h ↦ inl (h.0, other_in ops next_op op t.op (λ same. let b : t.op < next_op = q.numbers t.op h.0 h.1 in omega arith) ∙ h.1, h.2) | inr h ↦ inr h ];
          alone = l.alone;
        };
        one_swap = q.one_swap;
      }
    where
      pending_out : {k : ℕ} → Pending ≡ Out k → ⊥
      pending_out e = cc

      pending_up : Pending ≡ GivenUp → ⊥
      pending_up e = cc

  -- a new delete
  pub queue_add_delete : (x : Deletion) → ((d : ℕ) (y : Deletion) → fin.get deletes d ≡ Some y → (y.clean ≡ false) × (x.clean ≡ false)) → (x.clean ≡ true → (o : ℕ) (op : Op) → fin.get ops o ≡ Some op → ⊥)
      → (x.clean ≡ true → (k : ℕ) (t : Ticket) → fin.get tickets k ≡ Some t → t.out ≡ true → ⊥)
      → ((o : ℕ) (op : Op) (u : ℕ) → fin.get ops o ≡ Some op → op.source ≡ Some u → names_uuid x.uuids u ≡ false) → Queue term root ops (fin.insert deletes next_op x) completed (suc next_op) tickets
  queue_add_delete x plain alone idle spares =
      record {
        numbers = λ o a e. let b : o < next_op = q.numbers o a e in omega arith;
        delete_numbers = λ d y e. elim (was_in deletes next_op x d y e) [ inl h ↦ omega (arith, h.0) | inr h ↦ let b : d < next_op = q.delete_numbers d y h.1 in omega arith ];
        apart = λ o a y e h. elim (was_in deletes next_op x o y h) [ inl z ↦ let b : o < next_op = q.numbers o a e in omega (arith, z.0) | inr z ↦ q.apart o a y e z.1 ];
        behind = λ o a s e b m. elim (was_in deletes next_op x b.number b.deletion b.there) [
          | inl z ↦ absurd (let c : o < next_op = q.numbers o a e in let d : b.number < o = b.before in omega (arith, z.0))
          | inr z ↦ q.behind o a s e (record { number = b.number; deletion = b.deletion; there = z.1; before = b.before }) m
        ];
        queued = q.queued;
        given_up = q.given_up;
        completes = q.completes;
        completed_numbers = λ o h. let b : o < next_op = q.completed_numbers o h in omega arith;
        completed_done = q.completed_done;
        sources = λ o a u e is. let was = q.sources o a u e is in (was.0, (λ d y h. elim (was_in deletes next_op x d y h) [ inl z ↦ subst (λ (v : Deletion). names_uuid v.uuids u ≡ false) z.1 (spares o a u e is) | inr z ↦ was.1 d y z.1 ]));
        sole = λ k t e out m pres y there clean j u h uo. elim (was_in deletes next_op x t.op y there) [
          | inl z ↦ absurd (idle (ap (λ (v : Deletion). v.clean) z.1 ∙ clean) k t e out)
          | inr z ↦ q.sole k t e out m pres y z.1 clean j u h uo
        ];
        lone = λ d y e c. elim (was_in deletes next_op x d y e) [
          | inl z ↦ (
            alone (ap (λ (v : Deletion). v.clean) z.1 ∙ c),
            (λ p v h. elim (was_in deletes next_op x p v h) [
              | inl u ↦ u.0 ∙ sym z.0
              | inr u ↦ absurd (true≢false (sym (ap (λ (v : Deletion). v.clean) z.1 ∙ c) ∙ (plain p v u.1).1))
            ]),
          )
          | inr z ↦ absurd (true≢false (sym c ∙ (plain d y z.1).0))
        ];
        deleting = λ k t e out uns pres uuids plan is.
            let l = q.deleting k t e out uns pres uuids plan is in
            delete_law root ops ops deletes (fin.insert deletes next_op x) t plan l
            (other_in deletes next_op x t.op (λ same. let b : t.op < next_op = q.delete_numbers t.op l.deletion l.there in omega arith) ∙ l.there) l.first;
        drops = λ k t e out pres is. let l = q.drops k t e out pres is in record {
          stopped = elim l.stopped [ inl h ↦ inl h | inr h ↦ inr (h.0, other_in deletes next_op x t.op (λ same. let b : t.op < next_op = q.delete_numbers t.op h.0 h.1 in omega arith) ∙ h.1, h.2) ];
          alone = l.alone;
        };
        one_swap = q.one_swap;
      }

  -- a delete given anew, which no ticket of the present term has
  pub queue_delete : (d : ℕ) (old x : Deletion) → fin.get deletes d ≡ Some old → x.clean ≡ old.clean → (old.failed ≡ true → x.failed ≡ true)
      → ((k : ℕ) → SwapIsOut tickets term k → (t : Ticket) → fin.get tickets k ≡ Some t → t.op ≢ d) → ((o : ℕ) (op : Op) (u : ℕ) → fin.get ops o ≡ Some op → op.source ≡ Some u → names_uuid x.uuids u ≡ false)
      → Queue term root ops (fin.insert deletes d x) completed next_op tickets
  queue_delete d old x there clean failed swaps spares =
      record {
        numbers = q.numbers;
        delete_numbers = λ p y e. elim (was_in deletes d x p y e) [ inl h ↦ subst (λ z. z < next_op) (sym h.0) (q.delete_numbers d old there) | inr h ↦ q.delete_numbers p y h.1 ];
        apart = λ o a y e h. elim (was_in deletes d x o y h) [ inl z ↦ q.apart o a old e (ap (fin.get deletes) z.0 ∙ there) | inr z ↦ q.apart o a y e z.1 ];
        behind = λ o a s e b m. elim (was_in deletes d x b.number b.deletion b.there) [
          | inl z ↦ q.behind o a s e (record { number = b.number; deletion = old; there = ap (fin.get deletes) z.0 ∙ there; before = b.before }) m
          | inr z ↦ q.behind o a s e (record { number = b.number; deletion = b.deletion; there = z.1; before = b.before }) m
        ];
        queued = q.queued;
        given_up = q.given_up;
        completes = q.completes;
        completed_numbers = q.completed_numbers;
        completed_done = q.completed_done;
        sources = λ o a u e is. let was = q.sources o a u e is in (was.0, (λ p y h. elim (was_in deletes d x p y h) [ inl z ↦ subst (λ (v : Deletion). names_uuid v.uuids u ≡ false) z.1 (spares o a u e is) | inr z ↦ was.1 p y z.1 ]));
        sole = λ k t e out m pres y h c. elim (was_in deletes d x t.op y h) [
          | inl z ↦ q.sole k t e out m pres old (ap (fin.get deletes) z.0 ∙ there) (sym clean ∙ ap (λ (v : Deletion). v.clean) z.1 ∙ c)
          | inr z ↦ q.sole k t e out m pres y z.1 c
        ];
        lone = λ p y e c. elim (was_in deletes d x p y e) [
          | inl z ↦
              let was = q.lone d old there (sym clean ∙ ap (λ (v : Deletion). v.clean) z.1 ∙ c) in
              (was.0, (λ r v h. elim (was_in deletes d x r v h) [ inl u ↦ u.0 ∙ sym z.0 | inr u ↦ was.1 r v u.1 ∙ sym z.0 ]))
          | inr z ↦
              let was = q.lone p y z.1 c in
              (was.0, (λ r v h. elim (was_in deletes d x r v h) [ inl u ↦ u.0 ∙ was.1 d old there | inr u ↦ was.1 r v u.1 ]))
        ];
        deleting = λ k t e out uns pres uuids plan is.
            let l = q.deleting k t e out uns pres uuids plan is in
            delete_law root ops ops deletes (fin.insert deletes d x) t plan l
            (other_in deletes d x t.op (swaps k (record { t = t; there = e; out = out; unsettled = uns; present = pres; swaps = subst IsMaster (sym is) tt }) t e) ∙ l.there) l.first;
        drops = λ k t e out pres is. let l = q.drops k t e out pres is in record {
          stopped = elim l.stopped [
            | inl h ↦ inl h
            | inr h ↦ elim (split_at t.op d) [
              | inl same ↦ inr (x, ap (fin.get (fin.insert deletes d x)) same ∙ same_in deletes d x, failed (ap (λ (z : Deletion). z.failed) (same_Some old h.0 (sym there ∙ ap (fin.get deletes) (sym same) ∙ h.1)) ∙ h.2))
              | inr apart ↦ inr (h.0, other_in deletes d x t.op apart ∙ h.1, h.2)
            ]
          ];
          alone = l.alone;
        };
        one_swap = q.one_swap;
      }
