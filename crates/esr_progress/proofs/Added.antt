-- A list with an op or a restore more.
use Rattle.std.proofs.Common.{◌≡◌, ℕ, suc, ◌+◌, ◌^◌, ◌<◌, List, [], ◌∷◌, ◌++◌, None, sym, ap, ◌∙◌, subst, inl, inr, add-one, arith, nat_cmp, Bool, true, false, cond, eqb, refl}
use Rattle.std.specs.FinMap as fin
use Rattle.std.proofs.lemmas.List.{map-append}
use Rattle.esr_model.specs.Values.{Has}
use Rattle.esr_core.specs.World.{Op, Deletion}
use Rattle.esr_core.specs.Steps.{completing}
use Rattle.esr_ops.specs.Plan.{Plan, RestorePlan, TicketMaps}
use Rattle.esr_ops.specs.Inside.{numbers_of, IsProgress, plan_with, AreNumbers}
use Rattle.std.specs.List.{list_any}
use Rattle.esr_model.specs.Lists.{Has-either}
use Rattle.esr_ops.specs.Restores.{is_waiting}
use Rattle.esr_progress.specs.Changes.{put_plan}
use Rattle.esr_ops.specs.Entries.{from_push, eqb_is, get_from, same_maps, get_left}
use Rattle.esr_ops.specs.Numbers.{AreNumbers-next, numbers-push, found_below}

more : (ops : List (ℕ × Op)) (deletes : List (ℕ × Deletion)) (next : ℕ) (restores : List (ℕ × RestorePlan)) (op : Op) → IsProgress ops deletes next restores → next < 2 ^ 62
    → IsProgress (ops ++ (next, op) ∷ []) deletes (suc next) restores
more ops deletes next restores op h room = record {
  ops_numbered = numbers-push ops next op h.first h.ops_numbered;
  deletes_numbered = AreNumbers-next (numbers_of deletes) next (suc next) (omega arith) h.deletes_numbered;
  restores_numbered = AreNumbers-next (numbers_of restores) next (suc next) (omega arith) h.restores_numbered;
  apart = λ n a b.
      let is : numbers_of (ops ++ (next, op) ∷ []) ≡ numbers_of ops ++ next ∷ [] = map-append (λ (e : ℕ × Op). e.0) ops ((next, op) ∷ []) in
      elim (Has-either (numbers_of ops) (next ∷ []) n (subst (λ ns. Has ns n) is a)) [
        | inl m ↦ h.apart n m b
        | inr m ↦ elim m [ inl e ↦ (let lt = h.deletes_numbered.below n b in absurd (omega (arith, e))) | inr z ↦ absurd z ]
      ];
  first = omega arith;
  most = omega arith;
}

pub progress-push : (ops : List (ℕ × Op)) (deletes : List (ℕ × Deletion)) (next : ℕ) (restores : List (ℕ × RestorePlan)) (op : ℕ × Op) (new : List (ℕ × Op)) → IsProgress ops deletes next restores → next < 2 ^ 62
    → op.0 ≡ next → new ≡ ops ++ op ∷ [] → IsProgress new deletes (next + 1) restores
progress-push ops deletes next restores op new h room is pushed =
    subst (λ (es : List (ℕ × Op)). IsProgress es deletes (next + 1) restores) (sym (pushed ∙ λ j. ops ++ (is j, op.1) ∷ []))
    (subst (λ (n : ℕ). IsProgress (ops ++ (next, op.1) ∷ []) deletes n restores) (sym (add-one next)) (more ops deletes next restores op.1 h room))

pub plan-push : (ops : List (ℕ × Op)) (deletes : List (ℕ × Deletion)) (completed now : List ℕ) (seats : TicketMaps) (next : ℕ) (restores : List (ℕ × RestorePlan)) (op : ℕ × Op) (new : List (ℕ × Op)) (p : Plan)
    → IsProgress ops deletes next restores → plan_with ops deletes completed seats next restores ≡ p
    → op.0 ≡ next → new ≡ ops ++ op ∷ [] → now ≡ completing completed op.0 op.1.shards
    → plan_with new deletes now seats (next + 1) restores ≡ record p { ops = fin.insert p.ops op.0 op.1; completed = completing p.completed op.0 op.1.shards; next_op = suc p.next_op }
plan-push ops deletes completed now seats next restores op new p h view is pushed noted =
    let free : fin.find nat_cmp op.0 ops ≡ None = ap (λ (k : ℕ). fin.find nat_cmp k ops) is ∙ found_below ops next h.ops_numbered in
    subst (λ (q : Plan). plan_with new deletes now seats (next + 1) restores ≡ record q { ops = fin.insert q.ops op.0 op.1; completed = completing q.completed op.0 op.1.shards; next_op = suc q.next_op }) view (
    λ j. record {
      ops = (ap (λ (es : List (ℕ × Op)). fin.from_entries {R = nat_cmp} es) pushed ∙ from_push ops op.0 op.1 free) j;
      deletes = fin.from_entries deletes;
      completed = noted j;
      seats = seats.seats;
      restores = fin.from_entries restores;
      readers = seats.readers;
      next_op = add-one next j;
      next_ticket = seats.next;
    }
    )

-- what holds of a list holds of one that is the same
pub valid-same : (ops os : List (ℕ × Op)) (deletes ds : List (ℕ × Deletion)) (next : ℕ) (restores rs : List (ℕ × RestorePlan)) → os ≡ ops → ds ≡ deletes → rs ≡ restores → IsProgress ops deletes next restores
    → IsProgress os ds next rs
valid-same ops os deletes ds next restores rs a b c h =
    subst (λ (x : List (ℕ × Op)). IsProgress x ds next rs) (sym a)
    (subst (λ (x : List (ℕ × Deletion)). IsProgress ops x next rs) (sym b)
    (subst (λ (x : List (ℕ × RestorePlan)). IsProgress ops deletes next x) (sym c) h))

-- a list with the entries that it has is the same
pub plan-same : (ops os : List (ℕ × Op)) (deletes ds : List (ℕ × Deletion)) (completed : List ℕ) (seats : TicketMaps) (next : ℕ) (restores rs : List (ℕ × RestorePlan)) → os ≡ ops → ds ≡ deletes → rs ≡ restores
    → (p : Plan) → plan_with ops deletes completed seats next restores ≡ p → record p { ops = fin.from_entries os; deletes = fin.from_entries ds; restores = fin.from_entries rs; next_op = next } ≡ p
plan-same ops os deletes ds completed seats next restores rs a b c p view =
    subst (λ (q : Plan). record q { ops = fin.from_entries os; deletes = fin.from_entries ds; restores = fin.from_entries rs; next_op = next } ≡ q) view (λ j. plan_with (a j) (b j) completed seats next (c j))

-- with other ops and deletes, and the restores that it has
pub plan-kept : (ops new : List (ℕ × Op)) (deletes kept : List (ℕ × Deletion)) (completed : List ℕ) (seats : TicketMaps) (next after : ℕ) (restores rs : List (ℕ × RestorePlan)) → rs ≡ restores
    → (p : Plan) → plan_with ops deletes completed seats next restores ≡ p
    → record p { ops = fin.from_entries new; deletes = fin.from_entries kept; restores = fin.from_entries rs; next_op = after } ≡ record p { ops = fin.from_entries new; deletes = fin.from_entries kept; next_op = after }
plan-kept ops new deletes kept completed seats next after restores rs c p view =
    subst (λ (q : Plan). record q { ops = fin.from_entries new; deletes = fin.from_entries kept; restores = fin.from_entries rs; next_op = after } ≡ record q { ops = fin.from_entries new; deletes = fin.from_entries kept; next_op = after })
    view (λ j. plan_with new kept completed seats after (c j))

-- ---- a restore more

module _ (ops : List (ℕ × Op)) (deletes : List (ℕ × Deletion)) (completed : List ℕ) (seats : TicketMaps) (next : ℕ) (restores new : List (ℕ × RestorePlan)) (h : IsProgress ops deletes next restores) where
  pub progress_opened : next < 2 ^ 62 → (r : ℕ × RestorePlan) → r.0 ≡ next → (b : Bool) → new ≡ cond b (restores ++ r ∷ []) restores → IsProgress ops deletes (next + 1) new
  progress_opened room r number b are = subst (λ (n : ℕ). IsProgress ops deletes n new) (sym (add-one next)) (record {
    ops_numbered = AreNumbers-next (numbers_of ops) next (suc next) (omega arith) h.ops_numbered;
    deletes_numbered = AreNumbers-next (numbers_of deletes) next (suc next) (omega arith) h.deletes_numbered;
    restores_numbered = go b new are;
    apart = h.apart;
    first = omega arith;
    most = omega arith;
  })
    where
      go : (c : Bool) (xs : List (ℕ × RestorePlan)) → xs ≡ cond c (restores ++ r ∷ []) restores → AreNumbers (numbers_of xs) (suc next)
      go true xs e = subst (λ (z : List (ℕ × RestorePlan)). AreNumbers (numbers_of z) (suc next)) (sym (e ∙ λ j. restores ++ (number j, r.1) ∷ [])) (numbers-push restores next r.1 h.first h.restores_numbered)
      go false xs e = subst (λ (z : List (ℕ × RestorePlan)). AreNumbers (numbers_of z) (suc next)) (sym e) (AreNumbers-next (numbers_of restores) next (suc next) (omega arith) h.restores_numbered)

  free : fin.find nat_cmp next restores ≡ None
  free = found_below restores next h.restores_numbered

  same_left : (q : ℕ) (b : Bool) → (b ≡ true → q ≡ next) → fin.find nat_cmp q restores ≡ cond b None (fin.find nat_cmp q restores)
  same_left q true e = ap (λ (k : ℕ). fin.find nat_cmp k restores) (e refl) ∙ free
  same_left q false e = refl

  remove_free : fin.from_entries {R = nat_cmp} restores ≡ fin.remove (fin.from_entries restores) next
  remove_free = same_maps _ _ (λ q. get_from restores q ∙ same_left q (eqb q next) (λ e. eqb_is q next e) ∙ ap (cond (eqb q next) None) (sym (get_from restores q)) ∙ sym (get_left (fin.from_entries restores) next q))

  opened_map : (r : ℕ × RestorePlan) → r.0 ≡ next → (b : Bool) → new ≡ cond b (restores ++ r ∷ []) restores
      → fin.from_entries {R = nat_cmp} new ≡ cond b (fin.insert (fin.from_entries restores) r.0 r.1) (fin.remove (fin.from_entries restores) r.0)
  opened_map r number true are = ap (λ (es : List (ℕ × RestorePlan)). fin.from_entries {R = nat_cmp} es) are ∙ from_push restores r.0 r.1 (ap (λ (k : ℕ). fin.find nat_cmp k restores) number ∙ free)
  opened_map r number false are = ap (λ (es : List (ℕ × RestorePlan)). fin.from_entries {R = nat_cmp} es) are ∙ remove_free ∙ ap (fin.remove (fin.from_entries {R = nat_cmp} restores)) (sym number)

  pub plan_opened : (r : ℕ × RestorePlan) → r.0 ≡ next → new ≡ cond (list_any is_waiting r.1.shards) (restores ++ r ∷ []) restores → (p : Plan) → plan_with ops deletes completed seats next restores ≡ p
      → plan_with ops deletes completed seats (next + 1) new ≡ record p { restores = put_plan p.restores r.0 r.1; next_op = suc p.next_op }
  plan_opened r number are p view =
      subst (λ (q : Plan). plan_with ops deletes completed seats (next + 1) new ≡ record q { restores = put_plan q.restores r.0 r.1; next_op = suc q.next_op }) view (
      λ j. record {
        ops = fin.from_entries ops;
        deletes = fin.from_entries deletes;
        completed = completed;
        seats = seats.seats;
        restores = opened_map r number (list_any is_waiting r.1.shards) are j;
        readers = seats.readers;
        next_op = add-one next j;
        next_ticket = seats.next;
      }
      )
