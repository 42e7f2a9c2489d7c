-- Histories that go on by steps of tickets and by takes.
use Rattle.std.proofs.Common.{◌≡◌, ◌≢◌, ℕ, true, List, [], ◌∷◌, ◌++◌, Option, Some, None, append-nil, append_assoc, refl, sym, ap, ◌∙◌, subst, inl, inr}
use Rattle.esr_core.specs.Entry.{TakeStep, Reply, Refusal, Refused, Moment}
use Rattle.esr_desk.specs.Start.{Start}
use Rattle.esr_desk.specs.Outcome.{Stepped, Refusing}
use Rattle.esr_desk.specs.Grew.{AllOf, GrewBy}
use Rattle.esr_drive.specs.Works.{AllWork, WorksOnly}

pub works_none : (log : List Moment) → WorksOnly log log
works_none log = record { more = []; is = sym (append-nil log); all = tt }

all_both : (a b : List Moment) → AllWork a → AllWork b → AllWork (a ++ b)
all_both [] b of_a of_b = of_b
all_both (m ∷ a) b of_a of_b = (of_a.0, all_both a b of_a.1 of_b)

pub works_on : (old mid new : List Moment) → WorksOnly old mid → WorksOnly mid new → WorksOnly old new
works_on old mid new first second = record {
  more = first.more ++ second.more;
  is = second.is ∙ ap (λ (log : List Moment). log ++ second.more) first.is ∙ append_assoc old first.more second.more;
  all = all_both first.more second.more first.all second.all;
}

-- each step is of a ticket
of_ticket : (who : ℕ) (more : List Moment) → who ≢ 0 → AllOf who more → AllWork more
of_ticket who [] some own = tt
of_ticket who (m ∷ more) some own = (inl (λ e. some (sym own.0 ∙ e)), of_ticket who more some own.1)

pub works_by : (s : Start) (who : ℕ) (old new : List Moment) → s.alone ≡ true → who ≢ 0 → GrewBy s who old new → WorksOnly old new
works_by s who old new alone some g = record { more = g.more; is = g.is; all = of_ticket who g.more some (g.own alone) }

-- a take
pub works_took : (s : Start) (old new : List Moment) (reply : Reply) → s.alone ≡ true → Stepped s old new 0 TakeStep reply → WorksOnly old new
works_took s old new reply alone h =
    let last : Moment = record { entry = record { who = 0; step = TakeStep; reply = reply }; image = h.image } in
    record {
      more = h.waited.others ++ last ∷ [];
      is = h.is ∙ ap (λ (log : List Moment). log ++ last ∷ []) h.waited.grew ∙ append_assoc old h.waited.others (last ∷ []);
      all = subst (λ (others : List Moment). AllWork (others ++ last ∷ [])) (sym (h.waited.nobody alone)) (inr refl, tt);
    }

pub works_refused : (s : Start) (old new : List Moment) (refusal : Option Refusal) → s.alone ≡ true → Refusing s old new 0 TakeStep refusal → WorksOnly old new
works_refused s old new None alone h = record { more = h.others; is = h.grew; all = subst AllWork (sym (h.nobody alone)) tt }
works_refused s old new (Some refusal) alone h = works_took s old new (Refused refusal) alone h
