-- The list after a delete was asked for, in a world of which the list tells.
use Rattle.std.proofs.Common.{◌≡◌, ℕ, suc, ◌+◌, ◌<◌, ◌^◌, Bool, true, false, ◌&&◌, cond, eqb, List, [], ◌∷◌, ◌++◌, Option, Some, None, option_map, map, length, get_or, take, refl, sym, ap, ◌∙◌, subst, inl, inr, true≢false, add-one, arith, nat_cmp}
use Rattle.std.specs.Prelude.{not, is_some}
use Rattle.std.specs.FinMap as fin
use Rattle.std.proofs.lemmas.Bool.Decides.{eqb_tells}
use Rattle.std.proofs.lemmas.List.{map-append, take_more}
use Rattle.esr_model.specs.Lists.{Has-either}
use Rattle.esr_model.specs.Values.{Bytes, Has}
use Rattle.esr_model.specs.Shelf.{names_uuid}
use Rattle.esr_core.specs.World.{World, Op, Deletion}
use Rattle.esr_core.specs.Deletes.{named_uuids, aborts_op, aborting, aborted_ops, delete_opened, delete_merged}
use Rattle.esr_ops.specs.Deletes.{kept_delete, with_uuids, grown}
use Rattle.esr_ops.specs.Plan.{Plan, RestorePlan, IsPlanOf, TicketMaps}
use Rattle.esr_ops.specs.Inside.{plan_with, numbers_of, AreNumbers, IsProgress}
use Rattle.esr_accept.specs.AskedDeletes.{is_swapped, growing, aborts, aborted_by}
use Rattle.esr_ops.specs.Entries.{find-cons, eqb_is, get_from, get_put, same_maps, from_push}
use Rattle.esr_ops.specs.Numbers.{entries_from, AreNumbers-next, numbers-push, found_below}
use Rattle.esr_accept.proofs.NamedUuids.{with_uuids-named}
use Rattle.esr_accept.proofs.DeleteTickets.{and_apart, unaborted_is, swapped_is}

-- ---- lists changed one by one

-- the number stays, whatever is chosen
choice_number : {A : Type 0} (b : Bool) (x : A) (e : ℕ × A) → (cond {A = ℕ × A} b (e.0, x) e).0 ≡ e.0
choice_number true x e = refl
choice_number false x e = refl

numbers-map : {A : Type 0} (g : ℕ × A → ℕ × A) → ((e : ℕ × A) → (g e).0 ≡ e.0) → (es : List (ℕ × A)) → numbers_of (map g es) ≡ numbers_of es
numbers-map g same [] = refl
numbers-map g same (e ∷ es) = λ j. same e j ∷ numbers-map g same es j

map-same : {A B : Type 0} (f g : A → B) → ((x : A) → f x ≡ g x) → (xs : List A) → map f xs ≡ map g xs
map-same f g same [] = refl
map-same f g same (x ∷ xs) = λ j. same x j ∷ map-same f g same xs j

-- one more was copied
pub map_more : {A : Type 0} (g : A → A) (xs : List A) (i : ℕ) (x : A) → i < length xs → x ≡ get_or xs i x → (now : List A) (y : A) (new : List A) → now ≡ map g (take i xs) → y ≡ g x → new ≡ now ++ y ∷ []
    → new ≡ map g (take (i + 1) xs)
map_more {A} g xs i x lt is now y new was made pushed =
    pushed ∙ (λ j. was j ++ (made ∙ ap g is) j ∷ []) ∙ sym (map-append g (take i xs) (get_or xs i x ∷ [])) ∙ ap (map g) (sym (take_more xs i x lt))

aborted_numbers : (seats : TicketMaps) (term : ℕ) (uuids : List ℕ) (by : ℕ) (ops : List (ℕ × Op)) → numbers_of (map (aborted_by seats term uuids by) ops) ≡ numbers_of ops
aborted_numbers seats term uuids by ops = numbers-map (aborted_by seats term uuids by) (λ e. choice_number (aborts seats term uuids e) (record e.1 { aborted = Some by }) e) ops

grown_numbers : (uuids : List ℕ) (d : ℕ) (deletes : List (ℕ × Deletion)) → numbers_of (map (growing uuids d) deletes) ≡ numbers_of deletes
grown_numbers uuids d deletes = numbers-map (growing uuids d) (λ e. choice_number (eqb e.0 d) (grown uuids e.1) e) deletes

-- ---- a delete that names more

module _ (uuids : List ℕ) where
  some_either : (b : Bool) (e : ℕ × Deletion) → ◌≡◌ {A = Option Deletion} (Some (cond {A = ℕ × Deletion} b (e.0, grown uuids e.1) e).1) (cond b (Some (grown uuids e.1)) (Some e.1))
  some_either true e = refl
  some_either false e = refl

  grown_at : (d q : ℕ) (e : ℕ × Deletion) (rest more : Option Deletion) → more ≡ cond (eqb q d) (option_map (grown uuids) rest) rest
      → cond (eqb q e.0) (Some (growing uuids d e).1) more ≡ cond (eqb q d) (option_map (grown uuids) (cond (eqb q e.0) (Some e.1) rest)) (cond (eqb q e.0) (Some e.1) rest)
  grown_at d q e rest more same = elim (eqb_tells q e.0) [
    | inl t ↦ ap (λ b. cond b (Some (growing uuids d e).1) more) t.0 ∙ some_either (eqb e.0 d) e ∙ ap (λ (k : ℕ). cond (eqb k d) (Some (grown uuids e.1)) (Some e.1)) (sym t.1)
        ∙ sym (ap (λ b. cond (eqb q d) (option_map (grown uuids) (cond b (Some e.1) rest)) (cond b (Some e.1) rest)) t.0)
    | inr t ↦ ap (λ b. cond b (Some (growing uuids d e).1) more) t.0 ∙ same ∙ sym (ap (λ b. cond (eqb q d) (option_map (grown uuids) (cond b (Some e.1) rest)) (cond b (Some e.1) rest)) t.0)
  ]

  find-grown : (d q : ℕ) (es : List (ℕ × Deletion)) → fin.find nat_cmp q (map (growing uuids d) es) ≡ cond (eqb q d) (option_map (grown uuids) (fin.find nat_cmp q es)) (fin.find nat_cmp q es)
  find-grown d q [] = elim (eqb q d) as (λ b. ◌≡◌ {A = Option Deletion} None (cond b None None)) [ true ↦ refl | false ↦ refl ]
  find-grown d q (e ∷ es) =
      find-cons q (growing uuids d e) (map (growing uuids d) es)
      ∙ ap (λ (k : ℕ). cond (eqb q k) (Some (growing uuids d e).1) (fin.find nat_cmp q (map (growing uuids d) es))) (choice_number (eqb e.0 d) (grown uuids e.1) e)
      ∙ grown_at d q e (fin.find nat_cmp q es) (fin.find nat_cmp q (map (growing uuids d) es)) (find-grown d q es)
      ∙ ap (λ (o : Option Deletion). cond (eqb q d) (option_map (grown uuids) o) o) (sym (find-cons q e es))

  put_here : (x : Deletion) (b : Bool) (o : Option Deletion) → (b ≡ true → o ≡ Some x) → cond b (option_map (grown uuids) o) o ≡ cond b (Some (grown uuids x)) o
  put_here x true o h = ap (option_map (grown uuids)) (h refl)
  put_here x false o h = refl

  from_grown : (d : ℕ) (x : Deletion) (deletes : List (ℕ × Deletion)) → fin.find nat_cmp d deletes ≡ Some x → fin.from_entries {R = nat_cmp} (map (growing uuids d) deletes) ≡ fin.insert (fin.from_entries deletes) d (grown uuids x)
  from_grown d x deletes there = same_maps _ _ (λ q. get_from (map (growing uuids d) deletes) q ∙ find-grown d q deletes
      ∙ put_here x (eqb q d) (fin.find nat_cmp q deletes) (λ e. ap (λ (k : ℕ). fin.find nat_cmp k deletes) (eqb_is q d e) ∙ there)
      ∙ sym (get_put (fin.from_entries deletes) d (grown uuids x) q ∙ ap (cond (eqb q d) (Some (grown uuids x))) (get_from deletes q)))

-- ---- the lists

module _ (ops : List (ℕ × Op)) (deletes : List (ℕ × Deletion)) (completed : List ℕ) (seats : TicketMaps) (next : ℕ)
    (restores : List (ℕ × RestorePlan)) (now : Plan) (view : plan_with ops deletes completed seats next restores ≡ now) (h : IsProgress ops deletes next restores)
    (term : ℕ) (uuids : List ℕ) (by : ℕ) (new_ops : List (ℕ × Op)) (ops_are : new_ops ≡ map (aborted_by seats term uuids by) ops) where
  numbers_stay : numbers_of new_ops ≡ numbers_of ops
  numbers_stay = ap numbers_of ops_are ∙ aborted_numbers seats term uuids by ops

  restores_are : restores ≡ fin.entries now.restores
  restores_are = sym (entries_from restores h.restores_numbered.rise) ∙ ap (λ (p : Plan). fin.entries p.restores) view

  -- the list in which a delete names more
  pub merged_keeps : (new_deletes : List (ℕ × Deletion)) → new_deletes ≡ map (growing uuids by) deletes → IsProgress new_ops new_deletes next (fin.entries now.restores)
  merged_keeps new_deletes deletes_are =
      let same : numbers_of new_deletes ≡ numbers_of deletes = ap numbers_of deletes_are ∙ grown_numbers uuids by deletes in
      subst (IsProgress new_ops new_deletes next) restores_are (record {
        ops_numbered = subst (λ (ns : List ℕ). AreNumbers ns next) (sym numbers_stay) h.ops_numbered;
        deletes_numbered = subst (λ (ns : List ℕ). AreNumbers ns next) (sym same) h.deletes_numbered;
        restores_numbered = h.restores_numbered;
        apart = λ n a b. h.apart n (subst (λ (ns : List ℕ). Has ns n) numbers_stay a) (subst (λ (ns : List ℕ). Has ns n) same b);
        first = h.first;
        most = h.most;
      })

  -- with a delete more
  one_more : (x : Deletion) → next < 2 ^ 62 → IsProgress new_ops (deletes ++ (next, x) ∷ []) (suc next) restores
  one_more x room = record {
    ops_numbered = AreNumbers-next (numbers_of new_ops) next (suc next) (omega arith) (subst (λ (ns : List ℕ). AreNumbers ns next) (sym numbers_stay) h.ops_numbered);
    deletes_numbered = numbers-push deletes next x h.first h.deletes_numbered;
    restores_numbered = AreNumbers-next (numbers_of restores) next (suc next) (omega arith) h.restores_numbered;
    apart = λ n a b.
        let was : Has (numbers_of ops) n = subst (λ (ns : List ℕ). Has ns n) numbers_stay a in
        let is : numbers_of (deletes ++ (next, x) ∷ []) ≡ numbers_of deletes ++ next ∷ [] = map-append (λ (e : ℕ × Deletion). e.0) deletes ((next, x) ∷ []) in
        elim (Has-either (numbers_of deletes) (next ∷ []) n (subst (λ (ns : List ℕ). Has ns n) is b)) [
          | inl m ↦ h.apart n was m
          | inr m ↦ elim m [ inl e ↦ (let lt = h.ops_numbered.below n was in absurd (omega (arith, e))) | inr z ↦ absurd z ]
        ];
    first = omega arith;
    most = omega arith;
  }

  pub opened_keeps : (new_deletes : List (ℕ × Deletion)) (e : ℕ × Deletion) → e.0 ≡ next → new_deletes ≡ deletes ++ e ∷ [] → next < 2 ^ 62 → IsProgress new_ops new_deletes (next + 1) (fin.entries now.restores)
  opened_keeps new_deletes e number deletes_are room =
      subst (IsProgress new_ops new_deletes (next + 1)) restores_are
      (subst (λ (ds : List (ℕ × Deletion)). IsProgress new_ops ds (next + 1) restores) (sym (deletes_are ∙ λ j. deletes ++ (number j, e.1) ∷ []))
      (subst (λ (n : ℕ). IsProgress new_ops (deletes ++ (next, e.1) ∷ []) n restores) (sym (add-one next)) (one_more e.1 room)))

-- ---- the plans

module _ (ops : List (ℕ × Op)) (deletes : List (ℕ × Deletion)) (completed : List ℕ) (seats : TicketMaps) (next : ℕ)
    (restores : List (ℕ × RestorePlan)) (now : Plan) (view : plan_with ops deletes completed seats next restores ≡ now) (h : IsProgress ops deletes next restores)
    (term : ℕ) (w : World) (is : IsPlanOf w now) (term_is : w.term ≡ term) where
  ops_in : fin.from_entries {R = nat_cmp} ops ≡ w.ops
  ops_in = ap (λ (p : Plan). p.ops) view ∙ is.ops

  deletes_in : fin.from_entries {R = nat_cmp} deletes ≡ w.deletes
  deletes_in = ap (λ (p : Plan). p.deletes) view ∙ is.deletes

  next_is : next ≡ w.next_op
  next_is = ap (λ (p : Plan). p.next_op) view ∙ is.next_op

  aborts_is : (uuids : List ℕ) (e : ℕ × Op) → aborts seats term uuids e ≡ aborts_op w uuids e
  aborts_is uuids e =
      and_apart (names_uuid uuids e.1.uuid) (not (is_some e.1.aborted)) (not (is_swapped seats term e.0))
      ∙ (λ j. names_uuid uuids e.1.uuid && (unaborted_is e.1.aborted j && not (sym (swapped_is ops deletes completed seats next restores now view h term w is term_is e.0) j)))

  aborted_is : (uuids : List ℕ) (by : ℕ) (e : ℕ × Op) → aborted_by seats term uuids by e ≡ aborting w uuids by e
  aborted_is uuids by e = ap (λ (b : Bool). cond {A = ℕ × Op} b (e.0, record e.1 { aborted = Some by }) e) (aborts_is uuids e)

  ops_after : (uuids : List ℕ) (by : ℕ) → fin.from_entries {R = nat_cmp} (map (aborted_by seats term uuids by) ops) ≡ aborted_ops w uuids by
  ops_after uuids by =
      let entries : ops ≡ fin.entries w.ops = sym (entries_from ops h.ops_numbered.rise) ∙ ap fin.entries ops_in in
      ap (λ (es : List (ℕ × Op)). fin.from_entries {R = nat_cmp} es) (map-same (aborted_by seats term uuids by) (aborting w uuids by) (aborted_is uuids by) ops ∙ ap (map (aborting w uuids by)) entries)

  -- with these ops, and a delete or cleanup more
  pub one_opened : (now_ops : fin.FinMap nat_cmp Op) (new_ops : List (ℕ × Op)) → fin.from_entries {R = nat_cmp} new_ops ≡ now_ops → (x : Deletion) (new_deletes : List (ℕ × Deletion)) → new_deletes ≡ deletes ++ (next, x) ∷ []
      → IsPlanOf (record w { ops = now_ops; deletes = fin.insert w.deletes w.next_op x; next_op = suc w.next_op }) (record now { ops = fin.from_entries new_ops; deletes = fin.from_entries new_deletes; next_op = next + 1 })
  one_opened now_ops new_ops ops_are x new_deletes deletes_are =
      record {
        ops = ops_are;
        deletes = ap (λ (es : List (ℕ × Deletion)). fin.from_entries {R = nat_cmp} es) deletes_are ∙ from_push deletes next x (found_below deletes next h.deletes_numbered) ∙ (λ j. fin.insert (deletes_in j) (next_is j) x);
        completed = is.completed;
        seats = is.seats;
        next_op = add-one next ∙ ap suc next_is;
        next_ticket = is.next_ticket;
        restores = is.restores;
        restore_count = is.restore_count;
        readers = is.readers;
      }

  module _ (uuids : List ℕ) (by : ℕ) (new_ops : List (ℕ × Op)) (ops_are : new_ops ≡ map (aborted_by seats term uuids by) ops) (new_deletes : List (ℕ × Deletion)) where
    merged_by : (names : List Bytes) → uuids ≡ named_uuids w names → new_deletes ≡ map (growing uuids by) deletes → (o : Option Deletion) → fin.get w.deletes by ≡ o → is_some o ≡ true
        → IsPlanOf (delete_merged w names by o) (record now { ops = fin.from_entries new_ops; deletes = fin.from_entries new_deletes; next_op = next })
    merged_by names named deletes_are None there some = absurd (true≢false (sym some))
    merged_by names named deletes_are (Some x) there some =
        let found : fin.find nat_cmp by deletes ≡ Some x = sym (get_from deletes by) ∙ ap (λ (m : fin.FinMap nat_cmp Deletion). fin.get m by) deletes_in ∙ there in
        record {
          ops = ap (λ (es : List (ℕ × Op)). fin.from_entries {R = nat_cmp} es) ops_are ∙ ops_after uuids by ∙ ap (λ (us : List ℕ). aborted_ops w us by) named;
          deletes = ap (λ (es : List (ℕ × Deletion)). fin.from_entries {R = nat_cmp} es) deletes_are ∙ from_grown uuids by x deletes found
              ∙ (λ j. fin.insert (deletes_in j) by (record x { uuids = (ap (with_uuids x.uuids) named ∙ with_uuids-named w x.uuids [] names) j }));
          completed = is.completed;
          seats = is.seats;
          next_op = next_is;
          next_ticket = is.next_ticket;
          restores = is.restores;
          restore_count = is.restore_count;
          readers = is.readers;
        }

    pub merged_is : (names : List Bytes) → uuids ≡ named_uuids w names → new_deletes ≡ map (growing uuids by) deletes → is_some (fin.get w.deletes by) ≡ true
        → (new : Plan) → new ≡ record now { ops = fin.from_entries new_ops; deletes = fin.from_entries new_deletes; next_op = next } → IsPlanOf (delete_merged w names by (fin.get w.deletes by)) new
    merged_is names named deletes_are some new new_is = subst (IsPlanOf (delete_merged w names by (fin.get w.deletes by))) (sym new_is) (merged_by names named deletes_are (fin.get w.deletes by) refl some)

    pub opened_is : by ≡ next → new_deletes ≡ deletes ++ (next, kept_delete uuids) ∷ [] → (new : Plan) → new ≡ record now { ops = fin.from_entries new_ops; deletes = fin.from_entries new_deletes; next_op = next + 1 }
        → IsPlanOf (delete_opened w uuids) new
    opened_is by_is deletes_are new new_is =
        let ops_now : fin.from_entries {R = nat_cmp} new_ops ≡ aborted_ops w uuids w.next_op = ap (λ (es : List (ℕ × Op)). fin.from_entries {R = nat_cmp} es) ops_are ∙ ops_after uuids by ∙ ap (aborted_ops w uuids) (by_is ∙ next_is) in
        subst (IsPlanOf (delete_opened w uuids)) (sym new_is) (one_opened (aborted_ops w uuids w.next_op) new_ops ops_now (kept_delete uuids) new_deletes deletes_are)
