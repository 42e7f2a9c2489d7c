-- Histories that go on.
use Rattle.std.specs.Prelude.{◌≡◌, ℕ, true, false, List, [], ◌∷◌, ◌++◌, Option, Some, None, Result, Ok, Err}
use Rattle.std.proofs.Common.{append-nil, append_assoc, refl, sym, ap, ◌∙◌, subst}
use Rattle.esr_core.specs.Entry.{Step, Reply, Refusal, Refused, Moment}
use Rattle.esr_desk.specs.declared.refusal.StepRefusal.{StepRefusal}
use Rattle.esr_desk.specs.Refusals.{told_refusal}
use Rattle.esr_desk.specs.Start.{Start, Legal, ticket_of}
use Rattle.esr_desk.specs.Outcome.{Stepped, Refusing, Outcome}

-- each of these steps is of the ticket
abbrev pub AllOf : ℕ → List Moment → Type 0
AllOf who [] = Unit {0}
AllOf who (m ∷ ms) = (m.entry.who ≡ who) × AllOf who ms

-- by legal steps, which are of this ticket where nobody else makes a step
pub record GrewBy (s : Start) (who : ℕ) (old new : List Moment) : Type 0 where
  pub more : List Moment
  pub is : new ≡ old ++ more
  pub legal : Legal s old → Legal s new
  pub own : s.alone ≡ true → AllOf who more

-- no ticket is out
abbrev pub NoneOut : Start → List Moment → Type 0
NoneOut s log = (k : ℕ) → (ticket_of s log k).out ≡ false

-- ---- how it goes on

all_of_both : (who : ℕ) (a b : List Moment) → AllOf who a → AllOf who b → AllOf who (a ++ b)
all_of_both who [] b of_a of_b = of_b
all_of_both who (m ∷ a) b of_a of_b = (of_a.0, all_of_both who a b of_a.1 of_b)

pub grew_by_none : (s : Start) (who : ℕ) (log : List Moment) → GrewBy s who log log
grew_by_none s who log = record { more = []; is = sym (append-nil log); legal = λ was. was; own = λ alone. tt }

pub grew_by_on : (s : Start) (who : ℕ) (old mid new : List Moment) → GrewBy s who old mid → GrewBy s who mid new → GrewBy s who old new
grew_by_on s who old mid new first second = record {
  more = first.more ++ second.more;
  is = second.is ∙ ap (λ (log : List Moment). log ++ second.more) first.is ∙ append_assoc old first.more second.more;
  legal = λ was. second.legal (first.legal was);
  own = λ alone. all_of_both who first.more second.more (first.own alone) (second.own alone);
}

-- ---- what a step says

pub stepped_grew_by : (s : Start) (old new : List Moment) (who : ℕ) (step : Step) (reply : Reply) → Stepped s old new who step reply → GrewBy s who old new
stepped_grew_by s old new who step reply h =
    let last : Moment = record { entry = record { who = who; step = step; reply = reply }; image = h.image } in
    record {
      more = h.waited.others ++ last ∷ [];
      is = h.is ∙ ap (λ (log : List Moment). log ++ last ∷ []) h.waited.grew ∙ append_assoc old h.waited.others (last ∷ []);
      legal = λ was. h.legal;
      own = λ alone. subst (λ (others : List Moment). AllOf who (others ++ last ∷ [])) (sym (h.waited.nobody alone)) (refl, tt);
    }

pub refusing_grew_by : (s : Start) (old new : List Moment) (who : ℕ) (step : Step) (refusal : Option Refusal) → Refusing s old new who step refusal → GrewBy s who old new
refusing_grew_by s old new who step None h = record {
  more = h.others;
  is = h.grew;
  legal = λ was. h.legal;
  own = λ alone. subst (AllOf who) (sym (h.nobody alone)) tt;
}
refusing_grew_by s old new who step (Some refusal) h = stepped_grew_by s old new who step (Refused refusal) h

pub outcome_grew_by : {X : Type 0} (s : Start) (old new : List Moment) (who : ℕ) (step : Step) (ok : X → Reply) (result : Result X StepRefusal) → Outcome s old new who step ok result → GrewBy s who old new
outcome_grew_by s old new who step ok (Ok x) h = stepped_grew_by s old new who step (ok x) h
outcome_grew_by s old new who step ok (Err e) h = refusing_grew_by s old new who step (told_refusal e) h.0
