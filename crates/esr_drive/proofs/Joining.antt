-- Two passes made one: what their workers and elections have made together.
use Rattle.std.proofs.Common.{◌≡◌, ◌⊎◌, inl, inr, ⊎_elim, ℕ, ◌+◌, ◌≤◌, List, ◌++◌, length, OnOk, IfErr, Ok, Err, length-append, append_assoc, sym, ap, ◌∙◌, subst, arith}
use Rattle.esr_model.specs.Values.{Has}
use Rattle.esr_core.specs.Entry.{Moment}
use Rattle.esr_turns.specs.Passes.{LockId}
use Rattle.esr_turns.specs.Places.{merged}
use Rattle.esr_turns.specs.Histories.{StartsWith, longer}
use Rattle.esr_model.specs.Lists.{Has-left}
use Rattle.esr_desk.specs.declared.refusal.StepRefusal.{StepRefusal}
use Rattle.esr_desk.specs.declared.refusal.StepRefusal.TheVariants as steps
use Rattle.esr_desk.specs.Start.{Start, Legal}
use Rattle.esr_desk.specs.Calls.{Call}
use Rattle.esr_desk.specs.Evidence.{NeverFailed}
use Rattle.esr_drive.specs.Over.{IsOver}
use Rattle.esr_drive.specs.Ended.{EachOver}
use Rattle.esr_drive.specs.Stopped.{StoppedIn}
use Rattle.esr_drive.specs.Takes.{idle_call}
use Rattle.esr_handle.specs.Owned.{AreBelow, calls_in}
use Rattle.esr_handle.specs.Turned.{Seen, IsFit}
use Rattle.esr_drive.specs.Worked.{weigh, election_call, Answer, AreElected, AreWorked, graver, OverStays, IsBack}
use Rattle.esr_drive.proofs.Places.{below_merged, below_more, longer_has}
use Rattle.esr_drive.proofs.Weights.{weigh_merged, has_merged, calls_stay}

-- ---- answers

least_made : (answer : Answer) (made wanted : ℕ) → AreElected answer made wanted → made ≤ wanted
least_made (Ok x) made wanted h = omega (arith, h)
least_made (Err steps.Memory) made wanted h = h
least_made (Err steps.TurnsSpent) made wanted h = h
least_made (Err (steps.Refused refusal)) made wanted h = omega (arith, h)

elected_both : (one other : Answer) (a b k l : ℕ) → AreElected one a k → AreElected other b l → AreElected (graver one other) (a + b) (k + l)
elected_both (Err steps.Memory) other a b k l h g = let least : b ≤ l = least_made other b l g in omega (arith, h, least)
elected_both (Err steps.TurnsSpent) other a b k l h g = let least : b ≤ l = least_made other b l g in omega (arith, h, least)
elected_both one (Err steps.TurnsSpent) a b k l h g = omega (arith, h, g)
elected_both one other a b k l h g = omega (arith, h, g)

ok_both : (P Q R : Type 0) (one other : Answer) → (P → Q → R) → OnOk one P → OnOk other Q → OnOk (graver one other) R
ok_both P Q R (Ok x) (Ok y) both h g = both h g
ok_both P Q R (Ok x) (Err e) both h g = tt
ok_both P Q R (Err steps.Memory) other both h g = tt
ok_both P Q R (Err steps.TurnsSpent) other both h g = tt
ok_both P Q R (Err (steps.Refused refusal)) (Ok y) both h g = tt
ok_both P Q R (Err (steps.Refused refusal)) (Err e) both h g = tt

err_both : (P Q R : StepRefusal → Type 0) (one other : Answer) → ((e : StepRefusal) → P e → R e) → ((e : StepRefusal) → Q e → R e) → IfErr one P → IfErr other Q → IfErr (graver one other) R
err_both P Q R (Ok x) (Ok y) first second h g = tt
err_both P Q R (Ok x) (Err e) first second h g = second e g
err_both P Q R (Err steps.Memory) other first second h g = first steps.Memory h
err_both P Q R (Err steps.TurnsSpent) other first second h g = first steps.TurnsSpent h
err_both P Q R (Err (steps.Refused refusal)) (Ok y) first second h g = first (steps.Refused refusal) h
err_both P Q R (Err (steps.Refused refusal)) (Err e) first second h g = second e g

-- ---- as the history goes on

pub stopped_on : (s : Start) (old all : List Moment) (e : StepRefusal) → StartsWith all old → StoppedIn s old e → StoppedIn s all e
stopped_on s old all steps.Memory starts h = tt
stopped_on s old all steps.TurnsSpent starts h =
    let whole : length all ≡ length old + length starts.0 = ap length starts.1 ∙ length-append old starts.0 in
    omega (arith, whole, h)
stopped_on s old all (steps.Refused refusal) starts h = record {
  moment = h.moment;
  there = subst (λ (l : List Moment). Has l h.moment) (sym starts.1) (Has-left old starts.0 h.moment h.there);
  same = h.same;
  step = h.step;
  stops = h.stops;
}

over_on : OverStays → (s : Start) (old all : List Moment) (calls : List Call) → StartsWith all old → EachOver s old calls → EachOver s all calls
over_on stays s old all calls starts h c k o u has gave = subst (λ (l : List Moment). IsOver s l k) (sym starts.1) (stays s old starts.0 k (h c k o u has gave))

starts_before : (before all seen : List Moment) → StartsWith all seen → StartsWith (before ++ all) (before ++ seen)
starts_before before all seen starts = (starts.0, ap (λ (l : List Moment). before ++ l) starts.1 ∙ sym (append_assoc before seen starts.0))

-- ---- both

module _ (stays : OverStays) (s : Start) (before : List Moment) (one other all : Seen) (seen : all.seen ≡ longer one.seen other.seen)
    (starts : StartsWith all.seen one.seen × StartsWith all.seen other.seen) (mine : all.mine ≡ merged one.mine other.mine)
    (first : IsFit s before one) (second : IsFit s before other) where
  fit_both : IsFit s before all
  fit_both = record {
    below = subst (AreBelow (length all.seen)) (sym mine)
        (below_merged (length all.seen) one.mine other.mine (below_more (length one.seen) (length all.seen) one.mine (no_shorter one.seen starts.0) first.below)
        (below_more (length other.seen) (length all.seen) other.mine (no_shorter other.seen starts.1) second.below));
    legal = subst (λ (l : List Moment). Legal s (before ++ l)) (sym seen) (longer_has (λ (l : List Moment). Legal s (before ++ l)) one.seen other.seen first.legal second.legal);
    never = λ quiet. subst (λ (l : List Moment). NeverFailed (before ++ l)) (sym seen) (longer_has (λ (l : List Moment). NeverFailed (before ++ l)) one.seen other.seen (first.never quiet) (second.never quiet));
  }
    where
      no_shorter : (seen : List Moment) → StartsWith all.seen seen → length seen ≤ length all.seen
      no_shorter seen starts = let whole : length all.seen ≡ length seen + length starts.0 = ap length starts.1 ∙ length-append seen starts.0 in omega (arith, whole)

  abbrev calls_of : Seen → List Call
  calls_of p = calls_in (length before) p.seen p.mine

  one_calls : calls_in (length before) all.seen one.mine ≡ calls_of one
  one_calls = calls_stay (length before) all.seen one.seen one.mine starts.0 first.below

  other_calls : calls_in (length before) all.seen other.mine ≡ calls_of other
  other_calls = calls_stay (length before) all.seen other.seen other.mine starts.1 second.below

  -- a call is one of either's
  of_either : (c : Call) → Has (calls_of all) c → Has (calls_of one) c ⊎ Has (calls_of other) c
  of_either c has =
      ⊎_elim (λ (h : Has (calls_in (length before) all.seen one.mine) c). inl (subst (λ (calls : List Call). Has calls c) one_calls h))
      (λ (h : Has (calls_in (length before) all.seen other.mine) c). inr (subst (λ (calls : List Call). Has calls c) other_calls h))
      (has_merged (length before) all.seen one.mine other.mine c (subst (λ (p : List ℕ). Has (calls_in (length before) all.seen p) c) mine has))

  weigh_all : (h : Call → ℕ) → weigh h (calls_of all) ≡ weigh h (calls_of one) + weigh h (calls_of other)
  weigh_all h =
      let whole : weigh h (calls_of all) ≡ weigh h (calls_in (length before) all.seen one.mine) + weigh h (calls_in (length before) all.seen other.mine) =
      ap (λ (p : List ℕ). weigh h (calls_in (length before) all.seen p)) mine ∙ weigh_merged (length before) all.seen h one.mine other.mine in
      let a : weigh h (calls_in (length before) all.seen one.mine) ≡ weigh h (calls_of one) = ap (weigh h) one_calls in
      let b : weigh h (calls_in (length before) all.seen other.mine) ≡ weigh h (calls_of other) = ap (weigh h) other_calls in
      omega (arith, whole, a, b)

  module _ (m n k l : ℕ) (r t : Answer) (a : AreWorked s (before ++ one.seen) (calls_of one) m k r) (b : AreWorked s (before ++ other.seen) (calls_of other) n l t) where
    abbrev log : List Moment
    log = before ++ all.seen

    to_one : StartsWith log (before ++ one.seen)
    to_one = starts_before before all.seen one.seen starts.0

    to_other : StartsWith log (before ++ other.seen)
    to_other = starts_before before all.seen other.seen starts.1

    over_all : EachOver s (before ++ one.seen) (calls_of one) → EachOver s (before ++ other.seen) (calls_of other) → EachOver s log (calls_of all)
    over_all h g c number o u has gave =
        ⊎_elim (λ (in_one : Has (calls_of one) c). over_on stays s (before ++ one.seen) log (calls_of one) to_one h c number o u in_one gave)
        (λ (in_other : Has (calls_of other) c). over_on stays s (before ++ other.seen) log (calls_of other) to_other g c number o u in_other gave) (of_either c has)

    idle_all : weigh idle_call (calls_of one) ≡ m → weigh idle_call (calls_of other) ≡ n → weigh idle_call (calls_of all) ≡ m + n
    idle_all x y = let whole = weigh_all idle_call in omega (arith, whole, x, y)

    worked_both : AreWorked s log (calls_of all) (m + n) (k + l) (graver r t)
    worked_both = record {
      only = λ c has. ⊎_elim (λ (h : Has (calls_of one) c). a.only c h) (λ (h : Has (calls_of other) c). b.only c h) (of_either c has);
      idle = (let whole = weigh_all idle_call in let x = a.idle in let y = b.idle in omega (arith, whole, x, y));
      all = ok_both (weigh idle_call (calls_of one) ≡ m) (weigh idle_call (calls_of other) ≡ n) (weigh idle_call (calls_of all) ≡ m + n) r t idle_all a.all b.all;
      elected = subst (λ (made : ℕ). AreElected (graver r t) made (k + l)) (sym (weigh_all election_call)) (elected_both r t (weigh election_call (calls_of one)) (weigh election_call (calls_of other)) k l a.elected b.elected);
      over = ok_both (EachOver s (before ++ one.seen) (calls_of one)) (EachOver s (before ++ other.seen) (calls_of other)) (EachOver s log (calls_of all)) r t over_all a.over b.over;
      stopped = err_both (StoppedIn s (before ++ one.seen)) (StoppedIn s (before ++ other.seen)) (StoppedIn s log) r t
          (λ e h. stopped_on s (before ++ one.seen) log e to_one h) (λ e h. stopped_on s (before ++ other.seen) log e to_other h) a.stopped b.stopped;
    }

-- the pass that two passes make, of which the whole was split
pub back_both : OverStays → (s : Start) (before : List Moment) (lock : LockId) (whole first second one other all : Seen) (m n k l w e : ℕ) (r t answer : Answer)
    → (first.left + first.used) + (second.left + second.used) ≡ whole.left + whole.used
    → IsBack s before lock first one m k r → IsBack s before lock second other n l t
    → all.lock ≡ lock → all.seen ≡ longer one.seen other.seen → StartsWith all.seen one.seen × StartsWith all.seen other.seen → all.mine ≡ merged one.mine other.mine
    → (all.left ≡ one.left + other.left) × (all.used ≡ one.used + other.used)
    → m + n ≡ w → k + l ≡ e → answer ≡ graver r t
    → IsBack s before lock whole all w e answer
back_both stays s before lock whole first second one other all m n k l w e r t answer split a b own seen starts mine turns workers elects is = record {
  own = own;
  turns = (
      let x : one.left + one.used ≡ first.left + first.used = a.turns in
      let y : other.left + other.used ≡ second.left + second.used = b.turns in
      let left : all.left ≡ one.left + other.left = turns.0 in
      let used : all.used ≡ one.used + other.used = turns.1 in
      omega (arith, split, x, y, left, used));
  fit = fit_both stays s before one other all seen starts mine a.fit b.fit;
  worked =
      subst (λ (given : Answer). AreWorked s (before ++ all.seen) (calls_in (length before) all.seen all.mine) w e given) (sym is)
      (subst (λ (made : ℕ). AreWorked s (before ++ all.seen) (calls_in (length before) all.seen all.mine) w made (graver r t)) elects
      (subst (λ (crew : ℕ). AreWorked s (before ++ all.seen) (calls_in (length before) all.seen all.mine) crew (k + l) (graver r t)) workers (worked_both stays s before one other all seen starts mine a.fit b.fit m n k l r t a.worked b.worked)));
}
