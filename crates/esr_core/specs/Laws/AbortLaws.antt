-- What a map of ops has after a delete aborts some of them.
use Rattle.std.proofs.Common.{◌≡◌, ℕ, Bool, true, false, cond, List, [], ◌∷◌, map, Some, refl, sym, ap, ◌∙◌, subst, inl, inr, nat_cmp}
use Rattle.std.specs.Prelude.{option_map, if◌then◌else◌}
use Rattle.std.specs.Ordering.{eq_by_cmp}
use Rattle.std.specs.Cmp.{nat_cmp_total, eq_by_cmp_equiv}
use Rattle.std.specs.FinMap.Entries.{find}
use Rattle.std.specs.FinMap as fin
use Rattle.esr_core.specs.World.{World, Op}
use Rattle.esr_core.specs.Deletes.{aborts_op, aborting, aborted_ops}
use Rattle.esr_core.specs.Laws.NumberMaps.{split}

module _ (w : World) (uuids : List ℕ) (by : ℕ) where
  -- the op of this number after it
  abbrev now_at : ℕ → Op → Op
  now_at o op = (aborting w uuids by (o, op)).1

  entry_at : (e : ℕ × Op) → aborting w uuids by e ≡ (e.0, now_at e.0 e.1)
  entry_at e = choose (aborts_op w uuids e)
    where
      choose : (b : Bool) → (if b then (e.0, record e.1 { aborted = Some by }) else e) ≡ (e.0, (if b then (e.0, record e.1 { aborted = Some by }) else e).1)
      choose true = refl
      choose false = refl

  find_at : (q : ℕ) (es : List (ℕ × Op)) → find nat_cmp q (map (aborting w uuids by) es) ≡ option_map (now_at q) (find nat_cmp q es)
  find_at q [] = refl
  find_at q (e ∷ es) =
      ap (λ (x : ℕ × Op). cond (eq_by_cmp nat_cmp q x.0) (Some x.1) (find nat_cmp q (map (aborting w uuids by) es))) (entry_at e)
      ∙ elim (split q e.0) [
        | inl same ↦
            let tied : eq_by_cmp nat_cmp q e.0 ≡ true = subst (λ k. eq_by_cmp nat_cmp q k ≡ true) same ((eq_by_cmp_equiv nat_cmp_total).refl q) in
            ap (λ b. cond b (Some (now_at e.0 e.1)) (find nat_cmp q (map (aborting w uuids by) es))) tied
            ∙ ap (λ k. Some (now_at k e.1)) (sym same)
            ∙ sym (ap (λ b. option_map (now_at q) (cond b (Some e.1) (find nat_cmp q es))) tied)
        | inr away ↦
            ap (λ b. cond b (Some (now_at e.0 e.1)) (find nat_cmp q (map (aborting w uuids by) es))) away.1
            ∙ find_at q es
            ∙ sym (ap (λ b. option_map (now_at q) (cond b (Some e.1) (find nat_cmp q es))) away.1)
      ]

  pub aborted_at : (o : ℕ) → fin.get (aborted_ops w uuids by) o ≡ option_map (λ (op : Op). (aborting w uuids by (o, op)).1) (fin.get w.ops o)
  aborted_at o = fin.get-from_entries nat_cmp_total (map (aborting w uuids by) (fin.entries w.ops)) o ∙ find_at o (fin.entries w.ops) ∙ ap (option_map (now_at o)) (sym (fin.get-entries w.ops o))
