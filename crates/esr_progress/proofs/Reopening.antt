-- The list that opening makes of a record's ops.
use Rattle.std.proofs.Common.{◌≡◌, ℕ, suc, ◌+◌, ◌<◌, ◌≤◌, ◌^◌, cond, eqb, List, [], ◌∷◌, ◌++◌, Some, map, length, get_or, drop, length-append, refl, sym, ap, ◌∙◌, subst, inl, inr, arith, nat_cmp}
use Rattle.std.specs.FinMap as fin
use Rattle.std.proofs.lemmas.List.{append-nil, append_assoc, drop_all}
use Rattle.std.proofs.lemmas.Option.{slice_get-get_or}
use Rattle.esr_model.specs.Values.{Has, RecordWork, DeletingOf}
use Rattle.esr_record.specs.declared.op.RecordOp.{RecordOp}
use Rattle.esr_record.specs.declared.op.OpWork.{OpWork}
use Rattle.esr_record.specs.declared.op.OpWork.TheVariants as works
use Rattle.esr_record.specs.Op.{IsWork, AreOps}
use Rattle.esr_core.specs.World.{Op, Deletion, kept_deletes, numbered_deletes}
use Rattle.esr_formats.specs.Clusters.{op_of, work_of_code}
use Rattle.esr_ops.specs.Plan.{RestorePlan, TicketMaps, no_plan}
use Rattle.esr_ops.specs.Deletes.{kept_delete, with_kept, kept_from, kept_plan}
use Rattle.esr_ops.specs.Inside.{plan_with, numbers_of, Rise, AreNumbers, IsProgress}
use Rattle.esr_ops.specs.Between.{from_place}
use Rattle.esr_ops.specs.Entries.{find-cons, get_from, get_put, same_maps}
use Rattle.esr_ops.specs.Lists.{Has-at}
use Rattle.esr_progress.specs.TicketMaps.{no_tickets}

-- ---- their numbers

length_kept : (n : ℕ) (kept : List (List ℕ)) → length (kept_from n kept) ≡ length kept
length_kept n [] = refl
length_kept n (uuids ∷ kept) = ap suc (length_kept (suc n) kept)

within_kept : (n : ℕ) (kept : List (List ℕ)) (k : ℕ) → Has (numbers_of (kept_from n kept)) k → (n ≤ k) × (k < n + length kept)
within_kept n [] k m = absurd m
within_kept n (uuids ∷ kept) k (inl e) = (omega (arith, e), omega (arith, e))
within_kept n (uuids ∷ kept) k (inr m) = let at = within_kept (suc n) kept k m in (omega (arith, at.0), omega (arith, at.1))

rise_kept : (n : ℕ) (kept : List (List ℕ)) → Rise (numbers_of (kept_from n kept))
rise_kept n [] = tt
rise_kept n (uuids ∷ kept) = ((λ k m. let above = (within_kept (suc n) kept k m).0 in omega (arith, above)), rise_kept (suc n) kept)

kept_numbers : (kept : List (List ℕ)) → AreNumbers (numbers_of (kept_from 1 kept)) (suc (length kept))
kept_numbers kept = record { rise = rise_kept 1 kept; least = λ n m. (within_kept 1 kept n m).0; below = λ n m. let under = (within_kept 1 kept n m).1 in omega (arith, under) }

-- ---- as a map

kept_map : (n : ℕ) (kept : List (List ℕ)) → fin.from_entries {R = nat_cmp} (kept_from n kept) ≡ numbered_deletes n kept
kept_map n [] = refl
kept_map n (uuids ∷ kept) =
    same_maps _ _ (λ q. get_from (kept_from n (uuids ∷ kept)) q ∙ find-cons q (n, kept_delete uuids) (kept_from (suc n) kept)
    ∙ ap (cond (eqb q n) (Some (kept_delete uuids))) (sym (get_from (kept_from (suc n) kept) q)) ∙ sym (get_put (fin.from_entries (kept_from (suc n) kept)) n (kept_delete uuids) q))
    ∙ ap (λ (m : fin.FinMap nat_cmp Deletion). fin.insert m n (kept_delete uuids)) (kept_map (suc n) kept)

module _ (kept : List (List ℕ)) (deletes : List (ℕ × Deletion)) (next : ℕ) (are : deletes ≡ kept_from 1 kept) (next_is : next ≡ length deletes + 1) where
  number : next ≡ suc (length kept)
  number = let long : length deletes ≡ length kept = ap length are ∙ length_kept 1 kept in omega (arith, next_is, long)

  kept_alone : length deletes ≤ 2 ^ 60 → IsProgress [] deletes next []
  kept_alone few = record {
    ops_numbered = record { rise = tt; least = λ n m. absurd m; below = λ n m. absurd m };
    deletes_numbered = subst (λ (ds : List (ℕ × Deletion)). AreNumbers (numbers_of ds) next) (sym are) (subst (AreNumbers (numbers_of (kept_from 1 kept))) (sym number) (kept_numbers kept));
    restores_numbered = record { rise = tt; least = λ n m. absurd m; below = λ n m. absurd m };
    apart = λ n a b. absurd a;
    first = omega (arith, next_is);
    most = omega (arith, next_is, few);
  }

  pub kept_progress : length deletes ≤ 2 ^ 60 → (ops : List (ℕ × Op)) → ops ≡ [] → (restores : List (ℕ × RestorePlan)) → restores ≡ [] → IsProgress ops deletes next restores
  kept_progress few ops no_ops restores no_restores =
      subst (λ (es : List (ℕ × Op)). IsProgress es deletes next restores) (sym no_ops) (subst (λ (rs : List (ℕ × RestorePlan)). IsProgress [] deletes next rs) (sym no_restores) (kept_alone few))

  pub kept_is : (ops : List (ℕ × Op)) → ops ≡ [] → (completed : List ℕ) → completed ≡ [] → (seats : TicketMaps) → seats ≡ no_tickets → (restores : List (ℕ × RestorePlan)) → restores ≡ []
      → plan_with ops deletes completed seats next restores ≡ kept_plan kept
  kept_is ops no_ops completed none_completed seats no_seats restores no_restores =
      (λ j. plan_with (no_ops j) deletes (none_completed j) (no_seats j) next (no_restores j))
      ∙ (λ j. record no_plan { deletes = (ap (λ (ds : List (ℕ × Deletion)). fin.from_entries {R = nat_cmp} ds) are ∙ kept_map 1 kept) j; next_op = number j })

-- ---- the loop

-- an op that is no delete
pub none_kept : (deletes : List (ℕ × Deletion)) (work : OpWork) → ((uuids : _) → work ≡ works.Delete uuids → ⊥) → deletes ≡ with_kept deletes (work_of_code work)
none_kept deletes (works.Delete uuids) other = absurd (other uuids refl)
none_kept deletes work other = refl

works_of : (last : ℕ) (ops : List RecordOp) → AreOps last ops → (x : RecordOp) → Has ops x → IsWork x.work
works_of last [] are x m = absurd m
works_of last (o ∷ ops) are x (inl e) = subst (λ (z : RecordOp). IsWork z.work) e are.0.work
works_of last (o ∷ ops) are x (inr m) = works_of o.op ops are.1 x m

-- so many ops were looked at
pub record AreKept (ops : List RecordOp) (i : ℕ) (deletes : List (ℕ × Deletion)) : Type 0 where
  pub rest : deletes ++ kept_from (suc (length deletes)) (kept_deletes (map op_of (drop i ops))) ≡ kept_from 1 (kept_deletes (map op_of ops))
  pub few : length deletes ≤ 2 ^ 60

-- the next op
next_kept : (deletes : List (ℕ × Deletion)) (op : ℕ) (work : RecordWork) (rest : List (ℕ × RecordWork))
    → with_kept deletes work ++ kept_from (suc (length (with_kept deletes work))) (kept_deletes rest) ≡ deletes ++ kept_from (suc (length deletes)) (kept_deletes ((op, work) ∷ rest))
next_kept deletes op (DeletingOf uuids) rest =
    let one : List (ℕ × Deletion) = (suc (length deletes), kept_delete uuids) ∷ [] in
    let long : length (deletes ++ one) ≡ suc (length deletes) = omega (arith, length-append deletes one) in
    ap (λ (n : ℕ). (deletes ++ one) ++ kept_from (suc n) (kept_deletes rest)) long ∙ append_assoc deletes one (kept_from (suc (suc (length deletes))) (kept_deletes rest))
next_kept deletes op work rest = refl

module _ (ops : List RecordOp) (i : ℕ) (deletes : List (ℕ × Deletion)) (x : RecordOp) (lt : i < length ops) (is : x ≡ get_or ops i x) where
  pub work_here : AreOps 0 ops → IsWork x.work
  work_here are = works_of 0 ops are x (subst (λ (r : RecordOp). Has ops r) (sym is) (has_place ops i x lt))
    where
      has_place : (ops : List RecordOp) (i : ℕ) (d : RecordOp) → i < length ops → Has ops (get_or ops i d)
      has_place ops i d lt = Has-at ops i (get_or ops i d) (slice_get-get_or ops i d lt)

  pub more_kept : AreKept ops i deletes → (new : List (ℕ × Deletion)) → new ≡ with_kept deletes (work_of_code x.work) → (length deletes ≤ 2 ^ 60 → length new ≤ 2 ^ 60) → AreKept ops (i + 1) new
  more_kept k new new_is few = record {
    rest = ap (λ (ds : List (ℕ × Deletion)). ds ++ kept_from (suc (length ds)) (kept_deletes (map op_of (drop (i + 1) ops)))) new_is
        ∙ next_kept deletes x.op (work_of_code x.work) (map op_of (drop (i + 1) ops))
        ∙ ap (λ (os : List RecordOp). deletes ++ kept_from (suc (length deletes)) (kept_deletes (map op_of os))) (sym (from_place ops i x lt is))
        ∙ k.rest;
    few = few k.few;
  }

pub all_kept : (ops : List RecordOp) (i : ℕ) (deletes : List (ℕ × Deletion)) → AreKept ops i deletes → length ops ≤ i → deletes ≡ kept_from 1 (kept_deletes (map op_of ops))
all_kept ops i deletes k past =
    sym (append-nil deletes) ∙ ap (λ (os : List RecordOp). deletes ++ kept_from (suc (length deletes)) (kept_deletes (map op_of os))) (sym (drop_all i ops past)) ∙ k.rest
