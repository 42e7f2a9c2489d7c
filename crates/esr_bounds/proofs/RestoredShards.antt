-- An accepted restore has no more shards than there are: those of the first root, and those that were asked.
use Rattle.std.proofs.Common.{◌≡◌, ℕ, suc, ◌+◌, ◌*◌, ◌≤◌, List, [], ◌∷◌, ◌++◌, append_assoc, length, refl, sym, ap, ◌∙◌, subst, arith}
use Rattle.std.proofs.Math.Nat.{zero-mul}
use Rattle.esr_model.specs.Lists.{Has-left}
use Rattle.esr_model.specs.Values.{Bytes, Has, IndexRef, IsOneEach, Formats}
use Rattle.esr_model.specs.Shelf.{Shelved}
use Rattle.esr_core.specs.World.{World}
use Rattle.esr_core.specs.Ids.{Law}
use Rattle.esr_core.specs.Entry.{Restore, Step, AskStep, Reply, AcceptedRestore, Moment}
use Rattle.esr_core.specs.Causes.{RestoreBegan}
use Rattle.esr_core.specs.Allowed.{Allowed}
use Rattle.esr_core.specs.History.{world_from, IsLegal, AllKnown, AreTold}
use Rattle.esr_core.specs.Laws.Histories.{legal_parts, told_parts}
use Rattle.esr_bounds.specs.Keys.{IsHeard}
use Rattle.esr_bounds.specs.Units.{shards_by, shards_in}
use Rattle.esr_bounds.specs.Work.{count_of_shards, restores_by, restores_in, asks_by, asks_in}
use Rattle.esr_bounds.specs.Others.{generation_names, most_shards}
use Rattle.esr_bounds.specs.Laws.{StepLaws, MasterLaws}
use Rattle.esr_bounds.proofs.Items.{all_items}
use Rattle.esr_bounds.proofs.Totals.{times_more}
use Rattle.esr_bounds.proofs.RootShards.{by_generation, places_of, first_places, placed_last}
use Rattle.esr_bounds.proofs.FewShards.{length_of}
use Rattle.esr_bounds.proofs.ListedShards.{listed_generations, shards_few}

-- ---- sums

abbrev FewOf : ℕ → Step → ℕ → Type 0
FewOf n step most = n ≤ asks_by step * most

one_more : (n : ℕ) → suc n ≡ 1 + n
one_more n = omega arith

none_more : (n : ℕ) → n ≡ 0 + n
none_more n = omega arith

sum_first : (n rest a b c most : ℕ) → n ≤ a → rest ≤ b → a ≡ most + 0 → most + b ≡ c → n + rest ≤ c
sum_first n rest a b c most p q r s =
    let first : n ≤ a = p in
    let second : rest ≤ b = q in
    let third : a ≡ most + 0 = r in
    let fourth : most + b ≡ c = s in
    omega (arith, first, second, third, fourth)

sum_rest : (n rest a b : ℕ) → n ≤ a → rest ≤ b → a ≡ 0 → n + rest ≤ b
sum_rest n rest a b p q r =
    let first : n ≤ a = p in
    let second : rest ≤ b = q in
    let third : a ≡ 0 = r in
    omega (arith, first, second, third)

once_most : (most : ℕ) → 1 * most ≡ most + 0
once_most most = sym (times_more 0 most) ∙ ap (λ (k : ℕ). most + k) (zero-mul most)

sum_asked : (n more rest most : ℕ) → n ≤ 1 * most → rest ≤ more * most → n + rest ≤ (1 + more) * most
sum_asked n more rest most few fewer =
    subst (λ (k : ℕ). n + rest ≤ k * most) (one_more more) (sum_first n rest (1 * most) (more * most) (suc more * most) most few fewer (once_most most) (times_more more most))

sum_none : (n more rest most : ℕ) → n ≤ 0 * most → rest ≤ more * most → n + rest ≤ (0 + more) * most
sum_none n more rest most few fewer = subst (λ (k : ℕ). n + rest ≤ k * most) (none_more more) (sum_rest n rest (0 * most) (more * most) few fewer (zero-mul most))

sum_step : (step : Step) (n more rest most : ℕ) → FewOf n step most → rest ≤ more * most → n + rest ≤ (asks_by step + more) * most
sum_step (AskStep command) n more rest most few fewer = sum_asked n more rest most few fewer
sum_step step n more rest most few fewer = sum_none n more rest most few fewer

once_few : (n most : ℕ) → n ≤ most → n ≤ 1 * most
once_few n most few = subst (λ (k : ℕ). n ≤ k) (sym (once_most most)) (plain n most few)
  where
    plain : (n most : ℕ) → n ≤ most → n ≤ most + 0
    plain n most few = let less : n ≤ most = few in omega (arith, less)

none_few : (n : ℕ) → 0 ≤ n
none_few n = omega arith

-- ---- fronts

pub front_heard : (f : Formats) (size : ℕ) (w : World) (log : List Moment) → IsHeard f size w log → (front back : List Moment) → front ++ back ≡ log → IsHeard f size w front
front_heard f size w log h front back is = record {
  tracked = h.tracked;
  readers = h.readers;
  untouched = h.untouched;
  legal = (legal_parts f size front back w (subst (IsLegal f size w) (sym is) h.legal)).0;
  heard = λ m has. h.heard m (subst (λ (l : List Moment). Has l m) is (Has-left front back m has));
}

shards_front : (front back : List Moment) → shards_in front ≤ shards_in (front ++ back)
shards_front [] back = none_few (shards_in back)
shards_front (m ∷ front) back = more (shards_by m.entry.step) (shards_in front) (shards_in (front ++ back)) (shards_front front back)
  where
    more : (a b c : ℕ) → b ≤ c → a + b ≤ a + c
    more a b c p = let less : b ≤ c = p in omega (arith, less)

pub most_front : (w : World) (log front back : List Moment) → front ++ back ≡ log → most_shards w front ≤ most_shards w log
most_front w log front back is =
    more (length (generation_names w.root.indices)) (shards_in front) (shards_in log) (subst (λ (l : List Moment). shards_in front ≤ shards_in l) is (shards_front front back))
  where
    more : (a b c : ℕ) → b ≤ c → a + b ≤ a + c
    more a b c p = let less : b ≤ c = p in omega (arith, less)

module _ (f : Formats) (size : ℕ) (known : AllKnown f) (laws : StepLaws f size) (masters : MasterLaws f size)
    (began : (v : World) (m : Moment) (o uuid : ℕ) (indices : List IndexRef) → Allowed f size v m → m.entry.reply ≡ AcceptedRestore o uuid indices → RestoreBegan f v m.entry.who m.entry.step o uuid indices m.image) (w : World)
    (log : List Moment) (h : IsHeard f size w log) (told : AreTold log)
    (lawful : (before rest : List Moment) → before ++ rest ≡ log → (now : List Shelved) × Law f (world_from f w before) now) (one_each : IsOneEach w.root.indices) where
  -- the shards of one that is accepted
  accepted_few : (front back : List Moment) (m : Moment) → front ++ m ∷ back ≡ log → (o uuid : ℕ) (indices : List IndexRef) → m.entry.reply ≡ AcceptedRestore o uuid indices → count_of_shards indices ≤ most_shards w log
  accepted_few front back m is o uuid indices reply =
      let legal = (legal_parts f size front (m ∷ back) w (subst (IsLegal f size w) (sym is) h.legal)).1 in
      let image = (told_parts front (m ∷ back) (subst AreTold (sym is) told)).1.0 in
      let now : World = world_from f w front in
      let b = began now m o uuid indices legal.0 reply in
      let law = lawful front (m ∷ back) is in
      let placed = placed_last f size laws masters known w front (front_heard f size w log h front (m ∷ back) is) (told_parts front (m ∷ back) (subst AreTold (sym is) told)).0 one_each in
      let among : List (ℕ × ℕ) = places_of (first_places w.root) (all_items f w front) in
      let few : count_of_shards indices ≤ length among =
      shards_few among indices b.accepts.indices_of.within.apart
      (λ r k has below.
      let g = listed_generations f now law.0 law.1 uuid (b.accepts.listed.0, b.accepts.listed.1, b.accepts.listed.3) indices m.image image.0 image.1 b.accepts.indices_of r k has below in
      by_generation among now.root placed.root r.id k g.0 g.1) in
      both (count_of_shards indices) (length among) (most_shards w front) (most_shards w log) few (length_of f w front) (most_front w log front (m ∷ back) is)
    where
      both : (a b c d : ℕ) → a ≤ b → b ≡ c → c ≤ d → a ≤ d
      both a b c d p q r =
          let first : a ≤ b = p in
          let second : b ≡ c = q in
          let third : c ≤ d = r in
          omega (arith, first, second, third)

  abbrev most : ℕ
  most = most_shards w log

  -- of one step
  asked_few : (n : ℕ) (step : Step) (name place : Bytes) → n ≤ most → step ≡ AskStep (Restore name place) → FewOf n step most
  asked_few n step name place few is = subst (λ (x : Step). FewOf n x most) (sym is) (once_few n most few)

  step_few : (front back : List Moment) (m : Moment) → front ++ m ∷ back ≡ log → (reply : Reply) → m.entry.reply ≡ reply → FewOf (restores_by reply) m.entry.step most
  step_few front back m is (AcceptedRestore o uuid indices) same =
      let legal = (legal_parts f size front (m ∷ back) w (subst (IsLegal f size w) (sym is) h.legal)).1 in
      let b = began (world_from f w front) m o uuid indices legal.0 same in
      asked_few (count_of_shards indices) m.entry.step b.name b.place (accepted_few front back m is o uuid indices same) b.step_is
  step_few front back m is reply same = none_few (asks_by m.entry.step * most)

  few_from : (front rest : List Moment) → front ++ rest ≡ log → restores_in rest ≤ asks_in rest * most
  few_from front [] is = none_few (0 * most)
  few_from front (m ∷ rest) is =
      sum_step m.entry.step (restores_by m.entry.reply) (asks_in rest) (restores_in rest) most (step_few front rest m is m.entry.reply refl) (few_from (front ++ m ∷ []) rest (append_assoc front (m ∷ []) rest ∙ is))

  pub restores_few : restores_in log ≤ asks_in log * most_shards w log
  restores_few = few_from [] log refl
