-- A history asks for few ids: each step for no more than 2 ^ 32 and one for each shard that there is, and a snapshot besides for one for each of its indices.
use Rattle.std.proofs.Common.{◌≡◌, ℕ, suc, ◌+◌, ◌*◌, ◌^◌, ◌≤◌, List, [], ◌∷◌, ◌++◌, append-nil, append_assoc, length, Bool, true, false, Option, Some, refl, sym, ap, ◌∙◌, subst, inl, arith}
use Rattle.std.specs.Prelude.{if◌then◌else◌}
use Rattle.std.specs.FinMap as fin
use Rattle.esr_model.specs.Lists.{Has-right}
use Rattle.esr_model.specs.Values.{Has, IsOneEach, Formats}
use Rattle.esr_model.specs.Image.{Image}
use Rattle.esr_model.specs.Delete.{PrunedShard, kept_count}
use Rattle.esr_core.specs.World.{World, Ticket}
use Rattle.esr_core.specs.Pruning.{AreOfRoot}
use Rattle.esr_core.specs.Entry.{Snapshot, Clone, DrawTest, Prune, PlanShards, Step, AskStep, DrawStep, ReadStep, PruneStep, Reply, Moment}
use Rattle.esr_core.specs.Numbers.{ids_by}
use Rattle.esr_core.specs.Allowed as allowed
use Rattle.esr_core.specs.Allowed.{PruneAllows, Allows}
use Rattle.esr_core.specs.History.{world_from, IsLegal, AllKnown, AreTold}
use Rattle.esr_core.specs.Laws.Histories.{legal_parts, told_parts}
use Rattle.esr_law.specs.Spent.{ids_in}
use Rattle.esr_bounds.specs.Keys.{IsUnheard, IsHeard}
use Rattle.esr_bounds.specs.Others.{most_shards}
use Rattle.esr_bounds.specs.Clones.{bare_step, bare_steps, indices_by, sum_of}
use Rattle.esr_bounds.specs.Laws.{StepLaws, MasterLaws}
use Rattle.esr_bounds.proofs.Few.{zero_le}
use Rattle.esr_bounds.proofs.Once.{looked_at}
use Rattle.esr_bounds.proofs.Items.{all_items}
use Rattle.esr_bounds.proofs.Totals.{times_more}
use Rattle.esr_bounds.proofs.RootShards.{places_of, first_places, placed_last}
use Rattle.esr_bounds.proofs.FewShards.{pruned_few, length_of}
use Rattle.esr_bounds.proofs.RestoredShards.{front_heard, most_front}

-- ---- what a draw tells

-- a plan is of shards of the root that its ticket copied
abbrev PlanTells : World → ℕ → Prune → Type 0
PlanTells w who (PlanShards shards) = (t : Ticket) × (fin.get w.tickets who ≡ Some t) × AreOfRoot t.root shards
PlanTells w who prune = Unit {0}

abbrev DrawTells : World → ℕ → Step → Type 0
DrawTells w who (DrawStep count) = count ≤ 2 ^ 32
DrawTells w who (PruneStep prune) = PlanTells w who prune
DrawTells w who step = Unit {0}

plan_tells : (f : Formats) (w : World) (who : ℕ) (prune : Prune) (reply : Reply) (image : Option Image) → PruneAllows f w who prune reply image → PlanTells w who prune
plan_tells f w who prune reply image (allowed.Planning k shards im p fits back same) = (p.t, p.deleting.out.there, p.of_root)
plan_tells f w who prune reply image (allowed.PlanSpent k shards im p spent same) = (p.t, p.deleting.out.there, p.of_root)
plan_tells f w who prune reply image a = tt

draw_tells : (f : Formats) (size : ℕ) (w : World) (who : ℕ) (step : Step) (reply : Reply) (image : Option Image) → Allows f size w who step reply image → DrawTells w who step
draw_tells f size w who step reply image (allowed.Drawing k n first im d same) = d.may.few
draw_tells f size w who step reply image (allowed.DrawSpent k n im may spent same) = may.few
draw_tells f size w who step reply image (allowed.Pruning k prune rep im a) = plan_tells f w k prune rep im a
draw_tells f size w who step reply image a = tt

-- ---- one step

kept_few : (shards : List PrunedShard) → kept_count shards ≤ length shards
kept_few [] = zero_le 0
kept_few (p ∷ shards) = by p.kept (kept_count shards) (length shards) (kept_few shards)
  where
    by : (kept : Bool) (a b : ℕ) → a ≤ b → (if kept then suc a else a) ≤ suc b
    by true a b h = let less : a ≤ b = h in let is : suc a ≤ suc b = omega (arith, less) in is
    by false a b h = let less : a ≤ b = h in let is : a ≤ suc b = omega (arith, less) in is

of_snapshot : (indices most : ℕ) → suc indices ≤ (2 ^ 32 + most) + indices
of_snapshot indices most = omega arith

of_one : (most : ℕ) → 1 ≤ (2 ^ 32 + most) + 0
of_one most = omega arith

of_draw : (count most : ℕ) → count ≤ 2 ^ 32 → count ≤ (2 ^ 32 + most) + 0
of_draw count most h = let few : count ≤ 2 ^ 32 = h in omega (arith, few)

of_plan : (kept shards most : ℕ) → kept ≤ shards → shards ≤ most → kept ≤ (2 ^ 32 + most) + 0
of_plan kept shards most p q = let first : kept ≤ shards = p in let second : shards ≤ most = q in omega (arith, first, second)

-- where no root of a ticket has more shards
step_ids : (w : World) (who : ℕ) (step : Step) (most : ℕ) → DrawTells w who step
    → ((t : Ticket) (shards : List PrunedShard) → fin.get w.tickets who ≡ Some t → AreOfRoot t.root shards → length shards ≤ most) → ids_by step ≤ (2 ^ 32 + most) + indices_by (bare_step step)
step_ids w who (AskStep (Snapshot name indices moment)) most tells few = of_snapshot (length indices) most
step_ids w who (AskStep (Clone source name names moment taken)) most tells few = of_one most
step_ids w who (DrawStep count) most tells few = of_draw count most tells
step_ids w who (ReadStep DrawTest) most tells few = of_one most
step_ids w who (PruneStep (PlanShards shards)) most tells few = of_plan (kept_count shards) (length shards) most (kept_few shards) (few tells.0 shards tells.1 tells.2)
step_ids w who step most tells few = zero_le ((2 ^ 32 + most) + indices_by (bare_step step))

-- ---- all of them

sum_ids : (k more a b i j : ℕ) → a ≤ k + i → b ≤ more * k + j → a + b ≤ suc more * k + (i + j)
sum_ids k more a b i j one rest = plain k (more * k) (suc more * k) (times_more more k) one rest
  where
    plain : (k p q : ℕ) → k + p ≡ q → a ≤ k + i → b ≤ p + j → a + b ≤ q + (i + j)
    plain k p q e one rest =
        let both : k + p ≡ q = e in
        let first : a ≤ k + i = one in
        let second : b ≤ p + j = rest in
        omega (arith, both, first, second)

module _ (f : Formats) (size : ℕ) (known : AllKnown f) (laws : StepLaws f size) (masters : MasterLaws f size) (w : World) (log : List Moment) (last : Moment) (h : IsHeard f size w (log ++ last ∷ []))
    (told : AreTold (log ++ last ∷ [])) (one_each : IsOneEach w.root.indices) where
  abbrev most : ℕ
  most = most_shards w log

  step_few : (front back : List Moment) (m : Moment) → front ++ m ∷ back ≡ log ++ last ∷ [] → most_shards w front ≤ most → ids_by m.entry.step ≤ (2 ^ 32 + most) + indices_by (bare_step m.entry.step)
  step_few front back m is fewer =
      let legal = (legal_parts f size front (m ∷ back) w (subst (IsLegal f size w) (sym is) h.legal)).1 in
      let heard : IsUnheard m.entry.reply → ⊥ = h.heard m (subst (λ (l : List Moment). Has l m) is (Has-right front (m ∷ back) m (inl refl))) in
      let now : World = world_from f w front in
      let placed = placed_last f size laws masters known w front (front_heard f size w (log ++ last ∷ []) h front (m ∷ back) is) (told_parts front (m ∷ back) (subst AreTold (sym is) told)).0 one_each in
      let among : List (ℕ × ℕ) = places_of (first_places w.root) (all_items f w front) in
      step_ids now m.entry.who m.entry.step most (draw_tells f size now m.entry.who m.entry.step m.entry.reply m.image (looked_at f size laws now m legal.0 heard).1)
      (λ t shards there of_root. both (length shards) (length among) (most_shards w front) most (pruned_few among t.root shards (placed.tickets m.entry.who t there).0 of_root) (length_of f w front) fewer)
    where
      both : (a b c d : ℕ) → a ≤ b → b ≡ c → c ≤ d → a ≤ d
      both a b c d p q r =
          let first : a ≤ b = p in
          let second : b ≡ c = q in
          let third : c ≤ d = r in
          omega (arith, first, second, third)

  ids_from : (front rest : List Moment) → front ++ rest ≡ log → ids_in (rest ++ last ∷ []) ≤ suc (length rest) * (2 ^ 32 + most) + sum_of indices_by (bare_steps (rest ++ last ∷ []))
  ids_from front [] is =
      sum_ids (2 ^ 32 + most) 0 (ids_by last.entry.step) 0 (indices_by (bare_step last.entry.step)) 0
      (step_few front [] last (ap (λ (l : List Moment). l ++ last ∷ []) (sym (append-nil front) ∙ is)) (most_front w log front [] is)) (zero_le (0 * (2 ^ 32 + most) + 0))
  ids_from front (m ∷ rest) is =
      sum_ids (2 ^ 32 + most) (suc (length rest)) (ids_by m.entry.step) (ids_in (rest ++ last ∷ [])) (indices_by (bare_step m.entry.step)) (sum_of indices_by (bare_steps (rest ++ last ∷ [])))
      (step_few front (rest ++ last ∷ []) m (sym (append_assoc front (m ∷ rest) (last ∷ [])) ∙ ap (λ (l : List Moment). l ++ last ∷ []) is) (most_front w log front (m ∷ rest) is))
      (ids_from (front ++ m ∷ []) rest (append_assoc front (m ∷ []) rest ∙ is))

  pub ids_few : ids_in (log ++ last ∷ []) ≤ suc (length log) * (2 ^ 32 + most_shards w log) + sum_of indices_by (bare_steps (log ++ last ∷ []))
  ids_few = ids_from [] log refl
