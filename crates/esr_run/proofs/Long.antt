-- What a front of a history over quiet objects asks for that has 2 ^ 33 entries at most, by the lines: it makes no more steps than these may ask for.
use Rattle.std.proofs.Common.{◌≡◌, ℕ, zero, suc, ◌+◌, ◌*◌, ◌^◌, ◌≤◌, true, List, [], ◌∷◌, ◌++◌, append_assoc, length, refl, sym, ap, ◌∙◌, subst, arith}
use Rattle.std.proofs.Math.Nat.{mul-le-mul}
use Rattle.esr_model.specs.Lists.{Has-left}
use Rattle.esr_model.specs.Values.{Has}
use Rattle.esr_core.specs.Entry.{Step, Moment}
use Rattle.esr_law.specs.Reach.{RefusesUnlisted}
use Rattle.esr_bounds.specs.Units.{shards_by, shards_in}
use Rattle.esr_bounds.specs.Work.{work_of_step, work_of, asks_in, elections_in, restores_in}
use Rattle.esr_bounds.specs.Clones.{bare_steps, indices_by, sum_of, most_asked_shards, most_asked_work}
use Rattle.esr_bounds.specs.Counts.{counts_in, most_by}
use Rattle.esr_bounds.specs.CountsMore.{IsWithin, most_more}
use Rattle.esr_bounds.specs.Clients.{commands_in, draws_in, looks_in, empty_in}
use Rattle.esr_bounds.specs.Others.{generation_names, lost_in, most_shards, most_of_all}
use Rattle.esr_script.specs.declared.item.ScriptLine.{ScriptLine}
use Rattle.esr_desk.specs.Start.{Start, formats_of}
use Rattle.esr_drive.specs.Takes.{idle_takes}
use Rattle.esr_drive.specs.Elections.{elections}
use Rattle.esr_quiet.specs.Asked.{asked_steps}
use Rattle.esr_quiet.specs.Smooth.{IsSmooth, AreUnspent}
use Rattle.esr_quiet.specs.Refusals.{AreByRule}
use Rattle.esr_complete.specs.Lines.{steps_of, failovers_of}
use Rattle.esr_run.specs.Complete.{AreOfClient, counts_of, AsksMuch}
use Rattle.esr_run.specs.Laws.{QuietLaws}
use Rattle.esr_run.specs.Made.{MadeFirst}
use Rattle.esr_run.specs.Waits.{waits_of, AreFew}
use Rattle.esr_run.proofs.Fronts.{of_client, asks_of_client, elections_of_client, takes_of_client, fewer_elections, fewer_takes, fewer_asked}
use Rattle.esr_run.proofs.Sums.{WeighsCommands, weighs_shards, weighs_indices, weighs_work, lined_weight, lined_shards, lined_work, up_by, more_terms}

-- ---- the front of so many moments

pub record Cut (n : ℕ) (log : List Moment) : Type 0 where
  pub front : List Moment
  pub back : List Moment
  pub is : log ≡ front ++ back
  pub just : length front ≡ n

cut : (n : ℕ) (log : List Moment) → n ≤ length log → Cut n log
cut zero log many = record { front = []; back = log; is = refl; just = refl }
cut (suc n) [] many = let most : suc n ≤ 0 = many in absurd (omega (arith, most))
cut (suc n) (m ∷ log) many =
    let most : suc n ≤ suc (length log) = many in
    let c = cut n log (omega (arith, most)) in
    record { front = m ∷ c.front; back = c.back; is = ap (λ (l : List Moment). m ∷ l) c.is; just = ap suc c.just }

-- a front of at most 2 ^ 33 entries, in which no number was spent
pub record QuietFront (log : List Moment) : Type 0 where
  pub front : List Moment
  pub back : List Moment
  pub is : log ≡ front ++ back
  pub few : length front ≤ 2 ^ 33
  pub unspent : AreUnspent front

-- ---- what it asks for

through : (a b c : ℕ) → a ≤ b → b ≤ c → a ≤ c
through a b c p q = let first : a ≤ b = p in let second : b ≤ c = q in omega (arith, first, second)

module _ {S F H T : Type 0} (laws : QuietLaws S F H T) (s : Start) (log : List Moment) (alone : s.alone ≡ true) (smooth : (c : QuietFront log) → IsSmooth s c.front) (workers moment : ℕ)
    (lines : List ScriptLine) (few : AreFew workers lines log) (made : MadeFirst s (steps_of moment lines) [] log) where
  pub asked : asked_steps log ++ made.rest ≡ steps_of moment lines
  asked =
      let first : asked_steps log ≡ made.first = ap asked_steps made.grew.is ∙ made.grew.asked alone in
      ap (λ (steps : List Step). steps ++ made.rest) first ∙ made.is

  asks : (c : QuietFront log) → asks_in c.front ≡ commands_in c.front → asks_in c.front + (looks_in c.front + draws_in c.front) ≤ length (steps_of moment lines)
  asks c same =
      let own : asks_in c.front ≡ commands_in c.front = same in
      let here : commands_in c.front + (looks_in c.front + draws_in c.front) ≤ length (asked_steps c.front) = laws.asks c.front in
      let fewer : length (asked_steps c.front) ≤ length (steps_of moment lines) = fewer_asked c.front c.back log made.rest (steps_of moment lines) c.is asked in
      omega (arith, own, here, fewer)

  elects : (c : QuietFront log) → elections_in c.front ≡ elections c.front → elections_in c.front ≤ failovers_of lines
  elects c same =
      let own : elections_in c.front ≡ elections c.front = same in
      let fewer : elections c.front ≤ failovers_of lines = fewer_elections c.front c.back log (failovers_of lines) c.is few.elects in
      omega (arith, own, fewer)

  takes : (c : QuietFront log) → empty_in c.front ≡ idle_takes c.front → empty_in c.front ≤ waits_of workers lines + workers
  takes c same =
      let own : empty_in c.front ≡ idle_takes c.front = same in
      let fewer : idle_takes c.front ≤ waits_of workers lines + workers = fewer_takes c.front c.back log (waits_of workers lines + workers) c.is few.takes in
      omega (arith, own, fewer)

  commands : (c : QuietFront log) → asks_in c.front ≡ commands_in c.front → asks_in c.front ≤ length (steps_of moment lines)
  commands c same = let all : asks_in c.front + (looks_in c.front + draws_in c.front) ≤ length (steps_of moment lines) = asks c same in omega (arith, all)

  weighs : (c : QuietFront log) (weight : Step → ℕ) → WeighsCommands weight → AreOfClient c.front → sum_of weight (bare_steps c.front) ≤ sum_of weight (steps_of moment lines)
  weighs c weight of own = lined_weight weight of c.front c.back log made.rest (steps_of moment lines) own c.is asked

  rules : (c : QuietFront log) → AreByRule s c.front
  rules c = laws.rules s c.front (smooth c)

  pub own : (c : QuietFront log) → AreOfClient c.front
  own c = of_client s c.front (smooth c) (rules c)

  few_asks : (c : QuietFront log) → asks_in c.front ≤ length (steps_of moment lines)
  few_asks c = commands c (asks_of_client s c.front (smooth c) (rules c))

  pub shards : (c : QuietFront log) → shards_in c.front ≤ most_asked_shards (length (steps_of moment lines)) s.world (steps_of moment lines)
  shards c = lined_shards s.world c.front (steps_of moment lines) (laws.shards s c.front (smooth c)) (few_asks c) (weighs c shards_by weighs_shards (own c))

  work : (c : QuietFront log) (terms : ℕ) → work_of (formats_of s) s.part_size terms c.front ≤ most_asked_work (formats_of s) s.part_size terms (length (steps_of moment lines)) s.world (steps_of moment lines)
  work c terms =
      lined_work (formats_of s) s.part_size terms s.world c.front (steps_of moment lines) (laws.work s c.front terms (smooth c)) (few_asks c) (weighs c shards_by weighs_shards (own c)) (weighs c indices_by weighs_indices (own c))
      (weighs c (work_of_step (formats_of s) s.part_size terms) (weighs_work (formats_of s) s.part_size terms) (own c))

  -- no more than the lines may ask for
  within : (c : QuietFront log) → IsWithin (counts_in (formats_of s) s.part_size c.front) (counts_of (formats_of s) s.part_size workers moment s.world lines)
  within c =
      let same : asks_in c.front ≡ commands_in c.front = asks_of_client s c.front (smooth c) (rules c) in
      let all : asks_in c.front + (looks_in c.front + draws_in c.front) ≤ length (steps_of moment lines) = asks c same in
      let elects_few : elections_in c.front ≤ failovers_of lines = elects c (elections_of_client s c.front (smooth c) (rules c)) in
      let commands_few : commands_in c.front ≤ length (steps_of moment lines) = omega (arith, same, all) in
      let looks_few : looks_in c.front ≤ length (steps_of moment lines) = omega (arith, all) in
      let draws_few : draws_in c.front ≤ length (steps_of moment lines) = omega (arith, all) in
      record {
        commands = commands_few;
        looks = looks_few;
        draws = draws_few;
        elections = elects_few;
        empty = takes c (takes_of_client s c.front (smooth c) (rules c));
        lost = none (lost_in c.front) (laws.found s c.front (smooth c));
        asks = few_asks c;
        restores =
            through (restores_in c.front) (asks_in c.front * most_shards s.world c.front)
            (length (steps_of moment lines) * (length (generation_names s.world.root.indices) + most_asked_shards (length (steps_of moment lines)) s.world (steps_of moment lines)))
            (laws.restored s c.front (smooth c))
            (mul-le-mul (few_asks c)
            (up_by (length (generation_names s.world.root.indices)) (shards_in c.front) (most_asked_shards (length (steps_of moment lines)) s.world (steps_of moment lines)) (shards c)));
        shards = shards c;
        work =
            more_terms (formats_of s) s.part_size (suc (elections_in c.front)) (suc (failovers_of lines)) (length (steps_of moment lines)) s.world (steps_of moment lines)
            (work_of (formats_of s) s.part_size (suc (elections_in c.front)) c.front) (work c (suc (elections_in c.front))) (up (elections_in c.front) (failovers_of lines) elects_few);
      }
    where
      none : (n : ℕ) → n ≡ 0 → n ≤ 0
      none n e = let is : n ≡ 0 = e in omega (arith, is)

      up : (a b : ℕ) → a ≤ b → suc a ≤ suc b
      up a b p = let less : a ≤ b = p in omega (arith, less)

  -- so it makes no more steps than they may
  much : RefusesUnlisted (formats_of s) → (c : QuietFront log) → length c.front ≤ most_of_all (formats_of s) s.part_size s.world c.front
  much unlisted c = laws.short s c.front (smooth c) unlisted

  pub lined : RefusesUnlisted (formats_of s) → (c : QuietFront log) → length c.front ≤ most_by s.world (counts_of (formats_of s) s.part_size workers moment s.world lines)
  lined unlisted c =
      through (length c.front) (most_of_all (formats_of s) s.part_size s.world c.front) (most_by s.world (counts_of (formats_of s) s.part_size workers moment s.world lines)) (much unlisted c)
      (most_more s.world (counts_in (formats_of s) s.part_size c.front) (counts_of (formats_of s) s.part_size workers moment s.world lines) (within c))

  asks_all : RefusesUnlisted (formats_of s) → (c : QuietFront log) → length c.front ≡ 2 ^ 33 → AsksMuch (formats_of s) s.part_size workers moment s.world lines log
  asks_all unlisted c just =
      record {
        front = c.front;
        back = c.back;
        is = c.is;
        just = just;
        own = own c;
        asks = asks c (asks_of_client s c.front (smooth c) (rules c));
        elects = elects c (elections_of_client s c.front (smooth c) (rules c));
        takes = takes c (takes_of_client s c.front (smooth c) (rules c));
        restores = laws.restored s c.front (smooth c);
        shards = shards c;
        work = work c;
        found = laws.found s c.front (smooth c);
        much = subst (λ (n : ℕ). n ≤ most_of_all (formats_of s) s.part_size s.world c.front) just (much unlisted c);
        lined = subst (λ (n : ℕ). n ≤ most_by s.world (counts_of (formats_of s) s.part_size workers moment s.world lines)) just (lined unlisted c);
      }

  -- where 2 ^ 33 entries were made before a number was spent
  pub asks_much : RefusesUnlisted (formats_of s) → (front back : List Moment) → log ≡ front ++ back → AreUnspent front → 2 ^ 33 ≤ length front → AsksMuch (formats_of s) s.part_size workers moment s.world lines log
  asks_much unlisted front back is unspent many =
      let c : Cut (2 ^ 33) front = cut (2 ^ 33) front many in
      let quiet : QuietFront log = record {
        front = c.front;
        back = c.back ++ back;
        is = is ∙ ap (λ (l : List Moment). l ++ back) c.is ∙ append_assoc c.front c.back back;
        few = let just : length c.front ≡ 2 ^ 33 = c.just in omega (arith, just);
        unspent = λ m has. unspent m (subst (λ (l : List Moment). Has l m) (sym c.is) (Has-left c.front c.back m has));
      } in
      asks_all unlisted quiet c.just
