-- Looks into a container, one after another.
use Rattle.std.proofs.Common.{◌≡◌, ◌⊎◌, inl, inr, List, ℕ, ◌+◌, ◌-◌, ◌^◌, ◌≤◌, min, true, false, Option, Some, None, Result, Ok, Err, refl, sym, ◌∙◌, subst, arith}
use Rattle.esr_depot.specs.Image.{Image as Held, with_text, swap_known}
use Rattle.esr_depot.specs.Changes.{Swapped, SwapMay}
use Rattle.esr_depot.specs.Look.{Look, now}
use Rattle.esr_depot.specs.declared.error.CallError.{CallError}
use Rattle.esr_depot.specs.declared.error.CallError.TheVariants.{Memory, Failed}
use Rattle.esr_depot.specs.Calls.{Change, Called}
use Rattle.esr_depot.specs.Moments.{LeavesOnly, started, goes_on, joined}
use Rattle.esr_opening.specs.Opening.{IsAsBefore}
use Rattle.esr_opening.specs.Looked.{Looked}
use Rattle.esr_opening.specs.Terms.{MayHave}

-- since now there is no image but that of now
abbrev pub OnlyNow : Look → Type 0
OnlyNow l = (i : Held) → l.since l.clock i → now l ≡ Some i

-- it counts as one, or as none
pub call_counts : {T : Type 0} (old new : Look) (ok : T → Change) (may : Change) (result : Result T CallError) → Called old new ok may result → new.clock ≤ old.clock + 1
call_counts old new ok may (Ok x) called = let one : new.clock ≡ min (old.clock + 1) (2 ^ 64 - 1) = (called.passed refl).ticked in omega (arith, one)
call_counts old new ok may (Err Memory) called = let none : new.clock ≡ old.clock = (called.stays refl).clock in omega (arith, none)
call_counts old new ok may (Err Failed) called = let one : new.clock ≡ min (old.clock + 1) (2 ^ 64 - 1) = (called.passed refl).ticked in omega (arith, one)

-- two looks, one after the other
pub looked_on : (a b c : Look) (x y z : ℕ) → Looked a b x y → Looked b c y z → Looked a c x z
looked_on a b c x y z first second = record {
  kept = record {
    same = second.kept.same ∙ first.kept.same;
    left = joined a b c (λ i. now a ≡ Some i) (λ i. now b ≡ Some i) first.kept.left second.kept.left (λ i is. sym first.kept.same ∙ is);
  };
  later = omega (arith, first.later, second.later);
}

-- ---- the swap of the record

put_text : (before : Option Held) (text : List ℕ) (i : Held) → Some i ≡ swap_known before text → MayHave before text i
put_text None text i is = absurd cc
put_text (Some j) text i is = inr (j, refl, cc)

may_have : (before : Option Held) (text : List ℕ) (i : Held) → SwapMay text before (Some i) → MayHave before text i
may_have before text i (inl same) = inl (sym same)
may_have before text i (inr put) = put_text before text i put

pub left_swap : (old new : Look) (text own : List ℕ) (result : Result (Unit {0}) CallError) → OnlyNow old → Called old new (λ _. Swapped text) (SwapMay text) result → text ≡ own → LeavesOnly old new (MayHave (now old) own)
left_swap old new text own result only called is =
    let P : Held → Type 0 = MayHave (now old) text in
    subst (λ (t : List ℕ). LeavesOnly old new (MayHave (now old) t)) is
    (goes_on old old new P (λ _. Swapped text) (SwapMay text) result (started old P (λ i left. inl (only i left))) called (may_have (now old) text))
