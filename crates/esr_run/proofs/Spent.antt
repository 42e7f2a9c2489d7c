-- Where the first number is spent that a history over quiet objects asks for, the lines may ask for as many.
use Rattle.std.proofs.Common.{◌≡◌, ◌⊎◌, ℕ, zero, suc, ◌+◌, ◌*◌, ◌^◌, ◌≤◌, true, List, [], ◌∷◌, ◌++◌, append_assoc, length, length-append, refl, sym, ap, ◌∙◌, subst, inl, inr, ⊎_elim, arith}
use Rattle.std.proofs.Math.Nat.{mul-le-mul}
use Rattle.esr_model.specs.Lists.{Has-append}
use Rattle.esr_model.specs.Values.{Has, Formats}
use Rattle.esr_model.specs.Image.{Image}
use Rattle.esr_model.specs.Kept.{first_id}
use Rattle.esr_core.specs.World.{World, Opened, OpenedEmpty, OpenedRecord}
use Rattle.esr_core.specs.Entry.{Step, RaiseStep, ElectStep, Refusal, Reply, Refused, IdsSpent, GenerationsSpent, TermsSpent, Moment}
use Rattle.esr_core.specs.History.{AreTold}
use Rattle.esr_core.specs.Allowed.{Blocks, ByFailedSwap, ByDelete}
use Rattle.esr_law.specs.Reach.{RefusesUnlisted}
use Rattle.esr_law.specs.Spent.{terms_by, generations_by, terms_in, generations_in, ids_in, SpentSo}
use Rattle.esr_bounds.specs.Units.{shards_in}
use Rattle.esr_bounds.specs.Others.{generation_names, most_shards}
use Rattle.esr_bounds.specs.Clones.{bare_steps, indices_by, sum_of, most_asked_shards}
use Rattle.esr_bounds.specs.Counts.{Counts, shards_of, most_by}
use Rattle.esr_script.specs.declared.item.ScriptLine.{ScriptLine}
use Rattle.esr_desk.specs.Start.{Start, Legal, formats_of, world_of}
use Rattle.esr_drive.specs.Elections.{election, elections}
use Rattle.esr_quiet.specs.Askers.{AsksOrElects, asker}
use Rattle.esr_quiet.specs.Smooth.{IsSmooth, IsSpent, AreUnspent}
use Rattle.esr_quiet.specs.PrefixLaws.{has_at, told_front}
use Rattle.esr_complete.specs.Lines.{steps_of, failovers_of}
use Rattle.esr_run.specs.Complete.{AreOfClient, counts_of, most_ids, SpentBy}
use Rattle.esr_run.specs.Laws.{QuietLaws}
use Rattle.esr_run.specs.Made.{MadeFirst}
use Rattle.esr_run.specs.Waits.{AreFew}
use Rattle.esr_run.proofs.Long.{QuietFront, asked, own, shards, lined}
use Rattle.esr_run.proofs.Making.{legal_one, legal_front}
use Rattle.esr_run.proofs.Sums.{weighs_indices, lined_weight, up_by}

-- ---- the first step that is refused so

spent_or_not : (reply : Reply) → IsSpent reply ⊎ (IsSpent reply → ⊥)
spent_or_not (Refused (IdsSpent next)) = inl tt
spent_or_not (Refused (GenerationsSpent pending)) = inl tt
spent_or_not (Refused (TermsSpent term)) = inl tt
spent_or_not reply = inr (λ h. h)

pub record FirstSpent (log : List Moment) : Type 0 where
  pub front : List Moment
  pub back : List Moment
  pub moment : Moment
  pub is : log ≡ front ++ moment ∷ back
  pub unspent : AreUnspent front
  pub spent : IsSpent moment.entry.reply

unspent_more : (m : Moment) (log : List Moment) → (IsSpent m.entry.reply → ⊥) → AreUnspent log → AreUnspent (m ∷ log)
unspent_more m log none rest n (inl is) spent = none (subst (λ (x : Moment). IsSpent x.entry.reply) (sym is) spent)
unspent_more m log none rest n (inr has) spent = rest n has spent

pub find_spent : (log : List Moment) → FirstSpent log ⊎ AreUnspent log
find_spent [] = inr (λ m has spent. has)
find_spent (m ∷ log) = ⊎_elim
    (λ (spent : IsSpent m.entry.reply). inl (record { front = []; back = log; moment = m; is = refl; unspent = λ n has some. has; spent = spent }))
    (λ (none : IsSpent m.entry.reply → ⊥). ⊎_elim
    (λ (more : FirstSpent log).
    inl (record { front = m ∷ more.front; back = more.back; moment = more.moment; is = ap (λ (l : List Moment). m ∷ l) more.is; unspent = unspent_more m more.front none more.unspent; spent = more.spent }))
    (λ (rest : AreUnspent log). inr (unspent_more m log none rest))
    (find_spent log))
    (spent_or_not m.entry.reply)

-- ---- what each number goes by

opened_first : (f : Formats) (image : Image) (w : World) → Opened f image w → w.next_id ≡ first_id w.term
opened_first f image w (OpenedEmpty none) = refl
opened_first f image w (OpenedRecord cluster text root is reads safe) = refl

same_election : (who : ℕ) (step : Step) → terms_by who step ≡ election who step
same_election zero ElectStep = refl
same_election who step = refl

same_elections : (log : List Moment) → terms_in log ≡ elections log
same_elections [] = refl
same_elections (m ∷ log) = ap (λ (n : ℕ). n + terms_in log) (same_election m.entry.who m.entry.step) ∙ ap (λ (n : ℕ). election m.entry.who m.entry.step + n) (same_elections log)

few_terms : (term : ℕ) (log : List Moment) (lines : List ScriptLine) → elections log ≤ failovers_of lines → 2 ^ 63 ≤ term + terms_in log → 2 ^ 63 ≤ term + failovers_of lines
few_terms term log lines few past =
    let same : terms_in log ≡ elections log = same_elections log in
    let fewer : elections log ≤ failovers_of lines = few in
    let reached : 2 ^ 63 ≤ term + terms_in log = past in
    omega (arith, same, fewer, reached)

-- each step asks for one generation at most
one_raise : (step : Step) → generations_by step ≤ 1
one_raise RaiseStep = let is : 1 ≤ 1 = omega arith in is
one_raise step = let is : 0 ≤ 1 = omega arith in is

few_raises : (log : List Moment) → generations_in log ≤ length log
few_raises [] = let is : 0 ≤ 0 = omega arith in is
few_raises (m ∷ log) = both (generations_by m.entry.step) (generations_in log) (length log) (one_raise m.entry.step) (few_raises log)
  where
    both : (a b c : ℕ) → a ≤ 1 → b ≤ c → a + b ≤ suc c
    both a b c p q = let one : a ≤ 1 = p in let rest : b ≤ c = q in omega (arith, one, rest)

raises_up : (pending raises entries front most : ℕ) → 2 ^ 63 ≤ pending + raises → raises ≤ entries → entries ≡ front + 1 → front ≤ most → 2 ^ 63 ≤ pending + suc most
raises_up pending raises entries front most past few same fewer =
    let reached : 2 ^ 63 ≤ pending + raises = past in
    let steps : raises ≤ entries = few in
    let all : entries ≡ front + 1 = same in
    let less : front ≤ most = fewer in
    omega (arith, reached, steps, all, less)

up_one : (a b : ℕ) → a ≤ b → suc a ≤ suc b
up_one a b p = let less : a ≤ b = p in omega (arith, less)

ids_up : (ids a b x y : ℕ) → 2 ^ 64 ≤ ids → ids ≤ a + x → a ≤ b → x ≤ y → 2 ^ 64 ≤ b + y
ids_up ids a b x y past few p q =
    let reached : 2 ^ 64 ≤ ids = past in
    let all : ids ≤ a + x = few in
    let first : a ≤ b = p in
    let second : x ≤ y = q in
    omega (arith, reached, all, first, second)

-- ---- a step that was refused so was looked at

unblocked : (w : World) (who : ℕ) (step : Step) (refusal : Refusal) → Blocks w who step refusal → IsSpent (Refused refusal) → ⊥
unblocked w who step refusal (ByFailedSwap place deposed) spent = spent
unblocked w who step refusal (ByDelete by alive aborted) spent = spent

module _ {S F H T : Type 0} (laws : QuietLaws S F H T) (s : Start) (log : List Moment) (alone : s.alone ≡ true) (smooth : (c : QuietFront log) → IsSmooth s c.front) (workers moment : ℕ)
    (lines : List ScriptLine) (few : AreFew workers lines log) (made : MadeFirst s (steps_of moment lines) [] log) (legal : Legal s log) (told : AreTold log) where
  module _ (unlisted : RefusesUnlisted (formats_of s)) (first : FirstSpent log) (short : length first.front ≤ 2 ^ 33) where
    abbrev front : List Moment
    front = first.front

    abbrev last : Moment
    last = first.moment

    abbrev upto : List Moment
    upto = front ++ last ∷ []

    abbrev steps : List Step
    steps = steps_of moment lines

    abbrev counts : Counts
    counts = counts_of (formats_of s) s.part_size workers moment s.world lines

    abbrev quiet : QuietFront log
    quiet = record { front = first.front; back = first.moment ∷ first.back; is = first.is; few = short; unspent = first.unspent }

    with_last : log ≡ upto ++ first.back
    with_last = first.is ∙ sym (append_assoc front (last ∷ []) first.back)

    legal_upto : Legal s upto
    legal_upto = legal_front (formats_of s) s.part_size upto first.back s.world (subst (Legal s) with_last legal)

    there : Has log last
    there = subst (λ (l : List Moment). Has l last) (sym first.is) (has_at front first.back last)

    -- what the whole history asks for, and what it asks for up to there
    so_whole : (refusal : Refusal) → last.entry.reply ≡ Refused refusal → SpentSo s.world log refusal
    so_whole refusal is = laws.spent (formats_of s) s.part_size s.world log last refusal (opened_first (formats_of s) (smooth quiet).image s.world (smooth quiet).opened) legal there is

    so_upto : (refusal : Refusal) → last.entry.reply ≡ Refused refusal → SpentSo s.world upto refusal
    so_upto refusal is =
        laws.spent (formats_of s) s.part_size s.world upto last refusal (opened_first (formats_of s) (smooth quiet).image s.world (smooth quiet).opened) legal_upto (has_at front [] last) is

    own_last : AsksOrElects last.entry.step → last.entry.who ≡ 0
    own_last asks = elim (asker (formats_of s) s.part_size (world_of s front) last (legal_one (formats_of s) s.part_size s.world front last legal_upto).1.0 asks) [
      | inl client ↦ client
      | inr dead ↦ absurd (unblocked (world_of s front) last.entry.who last.entry.step dead.refusal dead.blocks (subst IsSpent dead.refused first.spent))
    ]

    own_upto : AreOfClient upto
    own_upto m has asks = elim (Has-append front last m has) [
      | inl was ↦ own laws s log alone smooth workers moment lines few made quiet m was asks
      | inr is ↦ let moved : AsksOrElects m.entry.step → m.entry.who ≡ 0 = subst (λ (x : Moment). AsksOrElects x.entry.step → x.entry.who ≡ 0) is own_last in moved asks
    ]

    few_steps : length front ≤ most_by s.world counts
    few_steps = lined laws s log alone smooth workers moment lines few made unlisted quiet

    few_indices : sum_of indices_by (bare_steps upto) ≤ sum_of indices_by steps
    few_indices = lined_weight indices_by weighs_indices upto first.back log made.rest steps own_upto with_last (asked laws s log alone smooth workers moment lines few made)

    few_shards : most_shards s.world front ≤ shards_of s.world counts
    few_shards =
        up_by (length (generation_names s.world.root.indices)) (shards_in front) (most_asked_shards (length steps) s.world steps) (shards laws s log alone smooth workers moment lines few made quiet)

    raises : 2 ^ 63 ≤ s.world.pending + generations_in upto → 2 ^ 63 ≤ s.world.pending + suc (most_by s.world counts)
    raises past = raises_up s.world.pending (generations_in upto) (length upto) (length front) (most_by s.world counts) past (few_raises upto) (length-append front (last ∷ [])) few_steps

    ids : 2 ^ 64 ≤ ids_in upto → 2 ^ 64 ≤ most_ids s.world counts steps
    ids past =
        ids_up (ids_in upto) (suc (length front) * (2 ^ 32 + most_shards s.world front)) (suc (most_by s.world counts) * (2 ^ 32 + shards_of s.world counts)) (sum_of indices_by (bare_steps upto)) (sum_of indices_by steps) past
        (laws.ids s front last (smooth quiet) legal_upto (told_front upto first.back (subst AreTold with_last told)) first.spent)
        (mul-le-mul (up_one (length front) (most_by s.world counts) few_steps) (up_by (2 ^ 32) (most_shards s.world front) (shards_of s.world counts) few_shards)) few_indices

    by_reply : (reply : Reply) → last.entry.reply ≡ reply → IsSpent reply → SpentBy (formats_of s) s.part_size workers moment s.world lines log reply
    by_reply (Refused (IdsSpent next)) is spent = (so_whole (IdsSpent next) is, ids (so_upto (IdsSpent next) is))
    by_reply (Refused (GenerationsSpent pending)) is spent = (so_whole (GenerationsSpent pending) is, raises (so_upto (GenerationsSpent pending) is))
    by_reply (Refused (TermsSpent term)) is spent = few_terms s.world.term log lines few.elects (so_whole (TermsSpent term) is)
    by_reply reply is spent = absurd spent

    pub number_spent : (m : Moment) × Has log m × SpentBy (formats_of s) s.part_size workers moment s.world lines log m.entry.reply
    number_spent = (last, there, by_reply last.entry.reply refl first.spent)
