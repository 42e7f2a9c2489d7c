-- What a wait adds to a history, and how many elections.
use Rattle.std.specs.Prelude.{◌≢◌, ◌⊎◌}
use Rattle.std.proofs.Common.{◌≡◌, ℕ, zero, suc, ◌+◌, ◌≤◌, List, [], ◌∷◌, ◌++◌, Result, Ok, Err, append-nil, append_assoc, refl, sym, ap, ◌∙◌, inl, inr, arith}
use Rattle.esr_core.specs.Entry.{Step, TakeStep, ElectStep, Moment}
use Rattle.esr_desk.specs.declared.refusal.StepRefusal.{StepRefusal}
use Rattle.esr_desk.specs.declared.refusal.StepRefusal.TheVariants as steps
use Rattle.esr_drive.specs.Works.{IsWork, AllWork, WorksOnly}

-- a step of a ticket, a take, or an election
abbrev pub IsOfWait : Moment → Type 0
IsOfWait m = (m.entry.who ≢ 0) ⊎ ((m.entry.step ≡ TakeStep) ⊎ (m.entry.step ≡ ElectStep))

abbrev pub AllOfWait : List Moment → Type 0
AllOfWait [] = Unit {0}
AllOfWait (m ∷ more) = IsOfWait m × AllOfWait more

-- the history has gone on by these alone
pub record WaitsOnly (old new : List Moment) : Type 0 where
  pub more : List Moment
  pub is : new ≡ old ++ more
  pub all : AllOfWait more

abbrev pub AllElect : List Moment → Type 0
AllElect [] = Unit {0}
AllElect (m ∷ more) = (m.entry.step ≡ ElectStep) × AllElect more

-- ... by elections alone
pub record ElectsOnly (old new : List Moment) : Type 0 where
  pub more : List Moment
  pub is : new ≡ old ++ more
  pub all : AllElect more

-- ... by elections, and by steps of tickets and takes after them
pub record ElectsFirst (old new : List Moment) : Type 0 where
  pub mid : List Moment
  pub elects : ElectsOnly old mid
  pub works : WorksOnly mid new

-- whether a step is an election, whatever it was answered: 1, or 0
abbrev pub election : ℕ → Step → ℕ
election zero ElectStep = 1
election who step = 0

-- how many of a history are
abbrev pub elections : List Moment → ℕ
elections [] = 0
elections (m ∷ log) = election m.entry.who m.entry.step + elections log

-- so many were made, or some, where memory was wanting or turns were spent
abbrev pub HasElected : {X : Type 0} → ℕ → List Moment → List Moment → Result X StepRefusal → Type 0
HasElected times old new (Ok x) = elections new ≡ elections old + times
HasElected times old new (Err steps.Memory) = elections new ≤ elections old + times
HasElected times old new (Err steps.TurnsSpent) = elections new ≤ elections old + times
HasElected times old new (Err (steps.Refused refusal)) = elections new ≡ elections old + times

-- ---- as a history goes on

elections_both : (a b : List Moment) → elections (a ++ b) ≡ elections a + elections b
elections_both [] b = omega arith
elections_both (m ∷ a) b = let rest : elections (a ++ b) ≡ elections a + elections b = elections_both a b in omega (arith, rest)

pub elections_more : (old more new : List Moment) → new ≡ old ++ more → elections new ≡ elections old + elections more
elections_more old more new is = ap elections is ∙ elections_both old more

all_both : (a b : List Moment) → AllOfWait a → AllOfWait b → AllOfWait (a ++ b)
all_both [] b of_a of_b = of_b
all_both (m ∷ a) b of_a of_b = (of_a.0, all_both a b of_a.1 of_b)

pub waits_on : (old mid new : List Moment) → WaitsOnly old mid → WaitsOnly mid new → WaitsOnly old new
waits_on old mid new first second = record {
  more = first.more ++ second.more;
  is = second.is ∙ ap (λ (log : List Moment). log ++ second.more) first.is ∙ append_assoc old first.more second.more;
  all = all_both first.more second.more first.all second.all;
}

-- ---- by elections alone

pub elects_none : (log : List Moment) → ElectsOnly log log
elects_none log = record { more = []; is = sym (append-nil log); all = tt }

elect_both : (a b : List Moment) → AllElect a → AllElect b → AllElect (a ++ b)
elect_both [] b of_a of_b = of_b
elect_both (m ∷ a) b of_a of_b = (of_a.0, elect_both a b of_a.1 of_b)

pub elects_on : (old mid new : List Moment) → ElectsOnly old mid → ElectsOnly mid new → ElectsOnly old new
elects_on old mid new first second = record {
  more = first.more ++ second.more;
  is = second.is ∙ ap (λ (log : List Moment). log ++ second.more) first.is ∙ append_assoc old first.more second.more;
  all = elect_both first.more second.more first.all second.all;
}

elect_all : (more : List Moment) → AllElect more → AllOfWait more
elect_all [] all = tt
elect_all (m ∷ more) all = (inr (inr all.0), elect_all more all.1)

pub elects_wait : (old new : List Moment) → ElectsOnly old new → WaitsOnly old new
elects_wait old new e = record { more = e.more; is = e.is; all = elect_all e.more e.all }

-- ---- by work alone

work_one : (m : Moment) → IsWork m → IsOfWait m
work_one m (inl some) = inl some
work_one m (inr take) = inr (inl take)

work_all : (more : List Moment) → AllWork more → AllOfWait more
work_all [] all = tt
work_all (m ∷ more) all = (work_one m all.0, work_all more all.1)

pub works_wait : (old new : List Moment) → WorksOnly old new → WaitsOnly old new
works_wait old new w = record { more = w.more; is = w.is; all = work_all w.more w.all }

no_election : (m : Moment) → IsWork m → election m.entry.who m.entry.step ≡ 0
no_election m (inl some) = of_ticket m.entry.who m.entry.step some
  where
    of_ticket : (who : ℕ) (step : Step) → who ≢ 0 → election who step ≡ 0
    of_ticket zero step some = absurd (some refl)
    of_ticket (suc n) step some = refl
no_election m (inr take) = ap (election m.entry.who) take ∙ of_take m.entry.who
  where
    of_take : (who : ℕ) → election who TakeStep ≡ 0
    of_take zero = refl
    of_take (suc n) = refl

none_elected : (more : List Moment) → AllWork more → elections more ≡ 0
none_elected [] all = refl
none_elected (m ∷ more) all =
    let one : election m.entry.who m.entry.step ≡ 0 = no_election m all.0 in
    let rest : elections more ≡ 0 = none_elected more all.1 in
    omega (arith, one, rest)

pub works_elect_none : (old new : List Moment) → WorksOnly old new → elections new ≡ elections old
works_elect_none old new w =
    let whole : elections new ≡ elections old + elections w.more = elections_more old w.more new w.is in
    let none : elections w.more ≡ 0 = none_elected w.more w.all in
    omega (arith, whole, none)
