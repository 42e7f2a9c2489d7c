-- What histories ask, as they go on.
use Rattle.std.specs.Prelude.{◌≡◌, ◌≢◌, ℕ, ◌==◌, Bool, true, false, ◌&&◌, if◌then◌else◌, List, [], ◌∷◌, ◌++◌, Option, Some, None}
use Rattle.std.proofs.Common.{append-nil, append_assoc, refl, sym, ap, ◌∙◌}
use Rattle.std.proofs.lemmas.Bool.{eqb-true}
use Rattle.esr_core.specs.Entry.{Step, TakeStep, Reply, Refused, Refusal, Moment}
use Rattle.esr_desk.specs.Start.{Start}
use Rattle.esr_desk.specs.Outcome.{Stepped, Refusing}
use Rattle.esr_desk.specs.Grew.{AllOf, GrewBy}
use Rattle.esr_quiet.specs.Asked.{is_line_ask, is_asked, as_asked, asked_steps, GrewAsking}

one_append : (m : Moment) (a b : List Moment) (t : Bool) → asked_steps (a ++ b) ≡ asked_steps a ++ asked_steps b
    → (if t then as_asked m.entry.step ∷ asked_steps (a ++ b) else asked_steps (a ++ b)) ≡ (if t then as_asked m.entry.step ∷ asked_steps a else asked_steps a) ++ asked_steps b
one_append m a b true rest = ap (λ (l : List Step). as_asked m.entry.step ∷ l) rest
one_append m a b false rest = rest

pub asked_append : (a b : List Moment) → asked_steps (a ++ b) ≡ asked_steps a ++ asked_steps b
asked_append [] b = refl
asked_append (m ∷ a) b = one_append m a b (is_asked m.entry) (asked_append a b)

is_nobody : (who : ℕ) → who ≢ 0 → (who == 0) ≡ false
is_nobody who some = go (who == 0) refl
  where
    go : (b : Bool) → (who == 0) ≡ b → b ≡ false
    go true e = absurd (some (eqb-true who 0 e))
    go false e = refl

-- steps of a ticket ask for nothing
pub none_asked : (who : ℕ) (more : List Moment) → who ≢ 0 → AllOf who more → asked_steps more ≡ []
none_asked who [] some own = refl
none_asked who (m ∷ more) some own =
    ap (λ (b : Bool). if b && is_line_ask m.entry.step then as_asked m.entry.step ∷ asked_steps more else asked_steps more) (ap (λ (k : ℕ). k == 0) own.0 ∙ is_nobody who some) ∙ none_asked who more some own.1

pub asking_none : (s : Start) (log : List Moment) → GrewAsking s [] log log
asking_none s log = record { more = []; is = sym (append-nil log); legal = λ was. was; asked = λ alone. refl }

pub asking_on : (s : Start) (first second : List Step) (old mid new : List Moment) → GrewAsking s first old mid → GrewAsking s second mid new → GrewAsking s (first ++ second) old new
asking_on s first second old mid new a b = record {
  more = a.more ++ b.more;
  is = b.is ∙ ap (λ (log : List Moment). log ++ b.more) a.is ∙ append_assoc old a.more b.more;
  legal = λ was. b.legal (a.legal was);
  asked = λ alone. asked_append a.more b.more ∙ ap (λ (l : List Step). l ++ asked_steps b.more) (a.asked alone) ∙ ap (λ (l : List Step). first ++ l) (b.asked alone);
}

pub asking_by : (s : Start) (who : ℕ) (old new : List Moment) → who ≢ 0 → GrewBy s who old new → GrewAsking s [] old new
asking_by s who old new some g = record { more = g.more; is = g.is; legal = g.legal; asked = λ alone. none_asked who g.more some (g.own alone) }

-- a step of who 0 asks for itself where a line asks for it: what takes a unit, or is a further step of a verification, asks for nothing
abbrev pub asks_of : Step → List Step
asks_of step = if is_line_ask step then as_asked step ∷ [] else []

pub asking_stepped : (s : Start) (old new : List Moment) (step : Step) (reply : Reply) → Stepped s old new 0 step reply → GrewAsking s (asks_of step) old new
asking_stepped s old new step reply h =
    let last : Moment = record { entry = record { who = 0; step = step; reply = reply }; image = h.image } in
    record {
      more = h.waited.others ++ last ∷ [];
      is = h.is ∙ ap (λ (log : List Moment). log ++ last ∷ []) h.waited.grew ∙ append_assoc old h.waited.others (last ∷ []);
      legal = λ was. h.legal;
      asked = λ alone. ap (λ (others : List Moment). asked_steps (others ++ last ∷ [])) (h.waited.nobody alone);
    }

-- a step that was refused asks for itself where the history tells it
abbrev pub asks_refused : Step → Option Refusal → List Step
asks_refused step None = []
asks_refused step (Some refusal) = asks_of step

pub asking_refused : (s : Start) (old new : List Moment) (step : Step) (refusal : Option Refusal) → Refusing s old new 0 step refusal → GrewAsking s (asks_refused step refusal) old new
asking_refused s old new step None h = record { more = h.others; is = h.grew; legal = λ was. h.legal; asked = λ alone. ap asked_steps (h.nobody alone) }
asking_refused s old new step (Some refusal) h = asking_stepped s old new step (Refused refusal) h

-- a take that was refused asks for nothing
pub asking_taking : (s : Start) (old new : List Moment) (refusal : Option Refusal) → Refusing s old new 0 TakeStep refusal → GrewAsking s [] old new
asking_taking s old new None h = asking_refused s old new TakeStep None h
asking_taking s old new (Some refusal) h = asking_stepped s old new TakeStep (Refused refusal) h
