-- Where the tickets of deletes and cleanups, and the open ops, come from by a step.
use Rattle.std.proofs.Common.{◌≡◌, ◌⊎◌, ℕ, ◌≤◌, false, List, Option, Some, None, refl, sym, ap, ◌∙◌, subst, inl, inr, arith, nat_cmp}
use Rattle.std.specs.Cmp.{nat_cmp_total}
use Rattle.std.specs.FinMap.{FinMap, nat_cmp-IsAntisymmetric}
use Rattle.std.specs.FinMap as fin
use Rattle.std.proofs.lemmas.Option.{same_Some}
use Rattle.esr_model.specs.Values.{Has, Formats}
use Rattle.esr_model.specs.Delete.{PrunedShard, left_uuids, uuids_of, deleted_root}
use Rattle.esr_core.specs.World.{Op, Work, Deleting, Swap, Ticket}
use Rattle.esr_core.specs.Pruning.{delete_swap, planned_work, planned}
use Rattle.esr_core.specs.Turns.{Aborts}
use Rattle.esr_core.specs.Laws.Maps.{get_was, get_left}
use Rattle.esr_core.specs.Laws.DeletePlans.{own_is}
use Rattle.esr_repo.specs.Repo.{PlannedBy}

-- ---- tickets of deletes

-- it was given just now, or was there: as it is, before its plan, or before its settle
pub data Came (settles : Option ℕ) (was : FinMap nat_cmp Ticket) (k : ℕ) (v : Ticket) (uuids : List ℕ) (plan : Option Swap) : Type 0 where
  WasGiven : plan ≡ None → v.settled ≡ false → Came settles was k v uuids plan
  Stayed : (t : Ticket) → fin.get was k ≡ Some t → t.work ≡ Deleting uuids plan → v.root ≡ t.root → v.settled ≡ t.settled → Came settles was k v uuids plan
  HasPlanned : (t : Ticket) (before : Option Swap) → fin.get was k ≡ Some t → t.work ≡ Deleting uuids before → v.root ≡ t.root → v.settled ≡ t.settled → ((s : Swap) → plan ≡ Some s → PlannedBy v.root uuids s)
      → Came settles was k v uuids plan
  HasSettled : settles ≡ Some k → (t : Ticket) → fin.get was k ≡ Some t → t.work ≡ Deleting uuids plan → v.root ≡ t.root → Came settles was k v uuids plan

abbrev pub DeletesCome : Option ℕ → FinMap nat_cmp Ticket → FinMap nat_cmp Ticket → Type 0
DeletesCome settles was now = (k : ℕ) (v : Ticket) (uuids : List ℕ) (plan : Option Swap) → fin.get now k ≡ Some v → v.work ≡ Deleting uuids plan → Came settles was k v uuids plan

pub come_same : (b : Option ℕ) (tickets : FinMap nat_cmp Ticket) → DeletesCome b tickets tickets
come_same b tickets k v uuids plan there work = Stayed v there work refl refl

-- a ticket is put
come_put : (b : Option ℕ) (tickets : FinMap nat_cmp Ticket) (k : ℕ) (v : Ticket) → ((uuids : List ℕ) (plan : Option Swap) → v.work ≡ Deleting uuids plan → Came b tickets k v uuids plan) → DeletesCome b tickets (fin.insert tickets k v)
come_put b tickets k v own q t uuids plan there work = elim (get_was nat_cmp_total nat_cmp-IsAntisymmetric tickets k v q t there) [
  | inl s ↦ subst (λ (n : ℕ). Came b tickets n t uuids plan) (sym s.0) (subst (λ (x : Ticket). Came b tickets k x uuids plan) s.1 (own uuids plan (ap (λ (x : Ticket). x.work) s.1 ∙ work)))
  | inr s ↦ Stayed t s.1 work refl refl
]

-- given anew, with its work
pub come_again : (b : Option ℕ) (tickets : FinMap nat_cmp Ticket) (k : ℕ) (t v : Ticket) → fin.get tickets k ≡ Some t → v.work ≡ t.work → v.root ≡ t.root → v.settled ≡ t.settled → DeletesCome b tickets (fin.insert tickets k v)
come_again b tickets k t v there work root settled = come_put b tickets k v (λ uuids plan e. Stayed t there (sym work ∙ e) root settled)

-- settled
pub come_settled : (tickets : FinMap nat_cmp Ticket) (k : ℕ) (t v : Ticket) → fin.get tickets k ≡ Some t → v.work ≡ t.work → v.root ≡ t.root → DeletesCome (Some k) tickets (fin.insert tickets k v)
come_settled tickets k t v there work root = come_put (Some k) tickets k v (λ uuids plan e. HasSettled refl t there (sym work ∙ e) root)

-- of no delete
pub come_plain : (b : Option ℕ) (tickets : FinMap nat_cmp Ticket) (k : ℕ) (v : Ticket) → ((uuids : List ℕ) (plan : Option Swap) → v.work ≡ Deleting uuids plan → ⊥) → DeletesCome b tickets (fin.insert tickets k v)
come_plain b tickets k v plain = come_put b tickets k v (λ uuids plan e. absurd (plain uuids plan e))

pub uuids_same : (us uuids : List ℕ) (p plan : Option Swap) → Deleting us p ≡ Deleting uuids plan → us ≡ uuids
uuids_same us uuids p plan e = cc

plan_same : (us uuids : List ℕ) (p plan : Option Swap) → Deleting us p ≡ Deleting uuids plan → plan ≡ p
plan_same us uuids p plan e = cc

-- of a delete, just given
pub come_given : (b : Option ℕ) (tickets : FinMap nat_cmp Ticket) (k : ℕ) (v : Ticket) (us : List ℕ) → v.work ≡ Deleting us None → v.settled ≡ false → DeletesCome b tickets (fin.insert tickets k v)
come_given b tickets k v us work settled = come_put b tickets k v (λ uuids plan e. WasGiven (plan_same us uuids None plan (sym work ∙ e)) settled)

planned_is : (f : Formats) (t : Ticket) (us uuids : List ℕ) (shards : List PrunedShard) (first : ℕ) (s : Swap) → us ≡ uuids → s ≡ delete_swap f t.clean t.root t.read us shards first → PlannedBy t.root uuids s
planned_is f t us uuids shards first s same is =
    record {
      shards = shards;
      first = first;
      root_is = ap (λ (x : Swap). x.root) is ∙ ap (λ (x : List ℕ). deleted_root t.root x shards first) same;
      own = λ name bytes m.
          let o = own_is f t.read (left_uuids us (uuids_of t.root)) shards first name bytes (subst (λ (x : Swap). Has x.own (name, bytes)) is m) in
          (o.q.index, o.q.number, o.id, o.name_is);
    }

-- with its plan, where it is a delete's
pub come_planned : (f : Formats) (b : Option ℕ) (tickets : FinMap nat_cmp Ticket) (k : ℕ) (t : Ticket) (shards : List PrunedShard) (first : ℕ) → fin.get tickets k ≡ Some t
    → DeletesCome b tickets (fin.insert tickets k (planned f shards first t))
come_planned f b tickets k t shards first there = come_put b tickets k (planned f shards first t) (λ uuids plan e. by_work t.work refl uuids plan e)
  where
    by_work : (work : Work) → t.work ≡ work → (uuids : List ℕ) (plan : Option Swap) → planned_work f t shards first work ≡ Deleting uuids plan → Came b tickets k (planned f shards first t) uuids plan
    by_work (Deleting us p) is uuids plan e =
        let same : us ≡ uuids = uuids_same us uuids (Some (delete_swap f t.clean t.root t.read us shards first)) plan e in
        let new : plan ≡ Some (delete_swap f t.clean t.root t.read us shards first) = plan_same us uuids (Some (delete_swap f t.clean t.root t.read us shards first)) plan e in
        HasPlanned t p there (is ∙ ap (λ (x : List ℕ). Deleting x p) same) refl refl (λ s q. planned_is f t us uuids shards first s same (same_Some s (delete_swap f t.clean t.root t.read us shards first) (sym q ∙ new)))
    by_work work is uuids plan e = absurd (cc)

-- ---- open ops

-- each has the uuid of one that was open, or one that was drawn since
abbrev pub OpsCome : FinMap nat_cmp Op → FinMap nat_cmp Op → ℕ → Type 0
OpsCome was now next = (o : ℕ) (op : Op) → fin.get now o ≡ Some op → ((p : ℕ) × (q : Op) × (fin.get was p ≡ Some q) × (q.uuid ≡ op.uuid)) ⊎ (next ≤ op.uuid)

pub ops_same : (ops : FinMap nat_cmp Op) (next : ℕ) → OpsCome ops ops next
ops_same ops next o op there = inl (o, op, there, refl)

pub ops_put : (ops : FinMap nat_cmp Op) (o : ℕ) (op v : Op) (next : ℕ) → fin.get ops o ≡ Some op → v.uuid ≡ op.uuid → OpsCome ops (fin.insert ops o v) next
ops_put ops o op v next there same p q is = elim (get_was nat_cmp_total nat_cmp-IsAntisymmetric ops o v p q is) [
  | inl s ↦ inl (o, op, there, sym same ∙ ap (λ (x : Op). x.uuid) s.1)
  | inr s ↦ inl (p, q, s.1, refl)
]

above : (next a b : ℕ) → a ≡ next → a ≡ b → next ≤ b
above next a b e same = omega (arith, e, same)

pub ops_new : (ops : FinMap nat_cmp Op) (o : ℕ) (v : Op) (next : ℕ) → v.uuid ≡ next → OpsCome ops (fin.insert ops o v) next
ops_new ops o v next new p q is = elim (get_was nat_cmp_total nat_cmp-IsAntisymmetric ops o v p q is) [
  | inl s ↦ inr (above next v.uuid q.uuid new (ap (λ (x : Op). x.uuid) s.1))
  | inr s ↦ inl (p, q, s.1, refl)
]

pub ops_less : (ops : FinMap nat_cmp Op) (o next : ℕ) → OpsCome ops (fin.remove ops o) next
ops_less ops o next p q is = inl (p, q, (get_left nat_cmp_total nat_cmp-IsAntisymmetric ops o p q is).1, refl)

-- those that a delete aborts keep their uuids
pub ops_aborted : (was now : FinMap nat_cmp Op) (by next : ℕ) → Aborts was now by → OpsCome was now next
ops_aborted was now by next a o op there =
    let (old, is, same) = a.was o op there in
    inl (o, old, is, elim same [ inl e ↦ ap (λ (x : Op). x.uuid) (sym e) | inr e ↦ ap (λ (x : Op). x.uuid) (sym e) ])
