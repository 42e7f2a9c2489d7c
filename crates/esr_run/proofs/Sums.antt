-- What a history in which nothing fails asks for, its clones with it, by the steps for which lines ask.
use Rattle.std.proofs.Common.{◌≡◌, ℕ, zero, suc, ◌+◌, ◌*◌, ◌≤◌, Bool, true, false, List, [], ◌∷◌, ◌++◌, length, refl, sym, ap, ◌∙◌, inl, inr, arith}
use Rattle.std.specs.Prelude.{◌==◌, ◌&&◌, if◌then◌else◌}
use Rattle.std.proofs.Math.Nat.{mul-le-mul, mul-le-mul_left, mul-le-mul_right}
use Rattle.esr_model.specs.Values.{Formats}
use Rattle.esr_core.specs.World.{World}
use Rattle.esr_core.specs.Entry.{Snapshot, Step, AskStep, Moment}
use Rattle.esr_bounds.specs.Most.{most_of_final}
use Rattle.esr_bounds.specs.Units.{shards_by, shards_in}
use Rattle.esr_bounds.specs.Work.{shards_work, op_work, work_of_step, work_of, most_of_copy, asks_in}
use Rattle.esr_bounds.specs.Others.{generation_names}
use Rattle.esr_bounds.specs.Clones.{bare_step, bare_steps, indices_by, sum_of, clone_shards, clone_indices, clone_work, most_asked_shards, most_asked_work}
use Rattle.esr_quiet.specs.Asked.{is_line_ask, as_asked, asked_steps}
use Rattle.esr_quiet.specs.Asking.{asked_append}
use Rattle.esr_quiet.specs.Askers.{AsksOrElects}
use Rattle.esr_run.specs.Complete.{AreOfClient}
use Rattle.esr_run.proofs.Fronts.{nobody}

-- ---- what weighs commands alone

abbrev pub IsNoCommand : Step → Type 0
IsNoCommand (AskStep command) = ⊥
IsNoCommand step = Unit {0}

abbrev pub WeighsCommands : (Step → ℕ) → Type 0
WeighsCommands weight = (step : Step) → IsNoCommand step → weight step ≡ 0

pub weighs_shards : WeighsCommands shards_by
weighs_shards (AskStep command) none = absurd none
weighs_shards step none = refl

pub weighs_indices : WeighsCommands indices_by
weighs_indices (AskStep command) none = absurd none
weighs_indices step none = refl

pub weighs_work : (f : Formats) (size terms : ℕ) → WeighsCommands (work_of_step f size terms)
weighs_work f size terms (AskStep command) none = absurd none
weighs_work f size terms step none = nothing terms
  where
    nothing : (n : ℕ) → 0 + n * 0 ≡ 0
    nothing n = omega arith

-- ---- the steps of a history as lines ask for them

no_weight : (weight : Step → ℕ) (b : Bool) (x : Step) (rest : List Step) (n : ℕ) → weight x ≡ 0 → n ≡ 0 → n + sum_of weight rest ≡ sum_of weight (if b then x ∷ rest else rest)
no_weight weight true x rest n p q = ap (λ (k : ℕ). k + sum_of weight rest) (q ∙ sym p)
no_weight weight false x rest n p q = plain n (sum_of weight rest) q
  where
    plain : (a b : ℕ) → a ≡ 0 → a + b ≡ b
    plain a b e = let is : a ≡ 0 = e in omega (arith, is)

one_weight : (weight : Step → ℕ) → WeighsCommands weight → (who : ℕ) (step : Step) (rest : List Step) → (AsksOrElects step → who ≡ 0)
    → weight (bare_step step) + sum_of weight rest ≡ sum_of weight (if (who == 0) && is_line_ask step then as_asked step ∷ rest else rest)
one_weight weight of zero (AskStep (Snapshot name indices moment)) rest own = refl
one_weight weight of zero (AskStep other) rest own = refl
one_weight weight of zero step rest own = no_weight weight (is_line_ask step) (as_asked step) rest (weight (bare_step step)) (of (as_asked step) tt) (of (bare_step step) tt)
one_weight weight of (suc k) (AskStep command) rest own = absurd (nobody k (own tt))
one_weight weight of (suc k) step rest own = no_weight weight ((suc k == 0) && is_line_ask step) (as_asked step) rest (weight (bare_step step)) (of (as_asked step) tt) (of (bare_step step) tt)

own_weight : (weight : Step → ℕ) → WeighsCommands weight → (log : List Moment) → AreOfClient log → sum_of weight (bare_steps log) ≡ sum_of weight (asked_steps log)
own_weight weight of [] own = refl
own_weight weight of (m ∷ log) own =
    ap (λ (n : ℕ). weight (bare_step m.entry.step) + n) (own_weight weight of log (λ n has. own n (inr has))) ∙ one_weight weight of m.entry.who m.entry.step (asked_steps log) (own m (inl refl))

sum_append : (weight : Step → ℕ) (a b : List Step) → sum_of weight (a ++ b) ≡ sum_of weight a + sum_of weight b
sum_append weight [] b = none_first (sum_of weight b)
  where
    none_first : (n : ℕ) → n ≡ 0 + n
    none_first n = omega arith
sum_append weight (x ∷ a) b = ap (λ (n : ℕ). weight x + n) (sum_append weight a b) ∙ shift (weight x) (sum_of weight a) (sum_of weight b)
  where
    shift : (x y z : ℕ) → x + (y + z) ≡ (x + y) + z
    shift x y z = omega arith

-- a front of it asks for no more than the lines
pub lined_weight : (weight : Step → ℕ) → WeighsCommands weight → (front back log : List Moment) (rest wanted : List Step) → AreOfClient front → log ≡ front ++ back → asked_steps log ++ rest ≡ wanted
    → sum_of weight (bare_steps front) ≤ sum_of weight wanted
lined_weight weight of front back log rest wanted own is asked =
    let both : asked_steps log ≡ asked_steps front ++ asked_steps back = ap asked_steps is ∙ asked_append front back in
    within (sum_of weight (bare_steps front)) (sum_of weight (asked_steps front)) (sum_of weight (asked_steps back)) (sum_of weight (asked_steps log)) (sum_of weight rest) (sum_of weight wanted) (own_weight weight of front own)
    (ap (sum_of weight) both ∙ sum_append weight (asked_steps front) (asked_steps back)) (ap (sum_of weight) (sym asked) ∙ sum_append weight (asked_steps log) rest)
  where
    within : (bare a b all more most : ℕ) → bare ≡ a → all ≡ a + b → most ≡ all + more → bare ≤ most
    within bare a b all more most p q r =
        let first : bare ≡ a = p in
        let parts : all ≡ a + b = q in
        let whole : most ≡ all + more = r in
        omega (arith, first, parts, whole)

-- ---- the bounds go by the lines

add_both : (one a b x y : ℕ) → one ≤ a + x → a ≤ b → x ≤ y → one ≤ b + y
add_both one a b x y p q r =
    let first : one ≤ a + x = p in
    let second : a ≤ b = q in
    let third : x ≤ y = r in
    omega (arith, first, second, third)

pub up_by : (a b c : ℕ) → b ≤ c → a + b ≤ a + c
up_by a b c p = let less : b ≤ c = p in omega (arith, less)

pub lined_shards : (w : World) (front : List Moment) (steps : List Step) → shards_in front ≤ most_asked_shards (asks_in front) w (bare_steps front) → asks_in front ≤ length steps
    → sum_of shards_by (bare_steps front) ≤ sum_of shards_by steps → shards_in front ≤ most_asked_shards (length steps) w steps
lined_shards w front steps few asks shards =
    add_both (shards_in front) (sum_of shards_by (bare_steps front)) (sum_of shards_by steps) (asks_in front * clone_shards w (bare_steps front)) (length steps * clone_shards w steps) few shards
    (mul-le-mul asks (up_by (length (generation_names w.root.indices)) (sum_of shards_by (bare_steps front)) (sum_of shards_by steps) shards))

-- of a clone
clone_more : (terms a b x y : ℕ) → a ≤ b → x ≤ y → a * most_of_copy + terms * suc (most_of_final x) ≤ b * most_of_copy + terms * suc (most_of_final y)
clone_more terms a b x y few fewer = plain a b (terms * suc (most_of_final x)) (terms * suc (most_of_final y)) few (mul-le-mul_left terms (final_more x y fewer))
  where
    final_more : (n m : ℕ) → n ≤ m → suc (most_of_final n) ≤ suc (most_of_final m)
    final_more n m p = let less : n ≤ m = p in let is : suc (12 + 2 * (3 + n)) ≤ suc (12 + 2 * (3 + m)) = omega (arith, less) in is

    plain : (n m p q : ℕ) → n ≤ m → p ≤ q → n * 21 + p ≤ m * 21 + q
    plain n m p q one two = let less : n ≤ m = one in let also : p ≤ q = two in omega (arith, less, also)

pub lined_work : (f : Formats) (size terms : ℕ) (w : World) (front : List Moment) (steps : List Step) → work_of f size terms front ≤ most_asked_work f size terms (asks_in front) w (bare_steps front) → asks_in front ≤ length steps
    → sum_of shards_by (bare_steps front) ≤ sum_of shards_by steps → sum_of indices_by (bare_steps front) ≤ sum_of indices_by steps
    → sum_of (work_of_step f size terms) (bare_steps front) ≤ sum_of (work_of_step f size terms) steps → work_of f size terms front ≤ most_asked_work f size terms (length steps) w steps
lined_work f size terms w front steps few asks shards indices work =
    add_both (work_of f size terms front) (sum_of (work_of_step f size terms) (bare_steps front)) (sum_of (work_of_step f size terms) steps) (asks_in front * clone_work terms w (bare_steps front))
    (length steps * clone_work terms w steps) few work
    (mul-le-mul asks
    (clone_more terms (clone_shards w (bare_steps front)) (clone_shards w steps) (clone_indices w (bare_steps front)) (clone_indices w steps)
    (up_by (length (generation_names w.root.indices)) (sum_of shards_by (bare_steps front)) (sum_of shards_by steps) shards)
    (up_by (length w.root.indices) (sum_of indices_by (bare_steps front)) (sum_of indices_by steps) indices)))

-- ---- more terms ask for no less

terms_sum : (f : Formats) (size a b : ℕ) (steps : List Step) → a ≤ b → sum_of (work_of_step f size a) steps ≤ sum_of (work_of_step f size b) steps
terms_sum f size a b [] more = none_less
  where
    none_less : 0 ≤ 0
    none_less = omega arith
terms_sum f size a b (step ∷ steps) more =
    both (work_of_step f size a step) (work_of_step f size b step) (sum_of (work_of_step f size a) steps) (sum_of (work_of_step f size b) steps)
    (up_by (shards_work f size step) (a * op_work step) (b * op_work step) (mul-le-mul_right (op_work step) more)) (terms_sum f size a b steps more)
  where
    both : (n m p q : ℕ) → n ≤ m → p ≤ q → n + p ≤ m + q
    both n m p q one two = let first : n ≤ m = one in let second : p ≤ q = two in omega (arith, first, second)

pub more_terms : (f : Formats) (size a b commands : ℕ) (w : World) (steps : List Step) (n : ℕ) → n ≤ most_asked_work f size a commands w steps → a ≤ b → n ≤ most_asked_work f size b commands w steps
more_terms f size a b commands w steps n few more =
    add_both n (sum_of (work_of_step f size a) steps) (sum_of (work_of_step f size b) steps) (commands * clone_work a w steps) (commands * clone_work b w steps) few (terms_sum f size a b steps more)
    (mul-le-mul_left commands
    (up_by (clone_shards w steps * most_of_copy) (a * suc (most_of_final (clone_indices w steps))) (b * suc (most_of_final (clone_indices w steps))) (mul-le-mul_right (suc (most_of_final (clone_indices w steps))) more)))
