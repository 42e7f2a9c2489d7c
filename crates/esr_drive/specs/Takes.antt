-- How often takes found no unit ready.
use Rattle.std.proofs.Common.{◌≡◌, ◌≢◌, ℕ, zero, suc, ◌+◌, true, List, [], ◌∷◌, ◌++◌, Option, Some, None, append-nil, refl, sym, ap, ◌∙◌, arith}
use Rattle.esr_core.specs.Entry.{Given, Step, TakeStep, Reply, Gave, NothingReady, Refusal, Refused, Moment}
use Rattle.esr_desk.specs.Calls.{Call}
use Rattle.esr_desk.specs.Start.{Start}
use Rattle.esr_desk.specs.Outcome.{Stepped, Refusing}
use Rattle.esr_desk.specs.Grew.{AllOf, GrewBy}

-- whether a step is such a take: 1, or 0
abbrev pub idle_take : ℕ → Step → Reply → ℕ
idle_take zero TakeStep NothingReady = 1
idle_take who step reply = 0

-- how many of a history are
abbrev pub idle_takes : List Moment → ℕ
idle_takes [] = 0
idle_takes (m ∷ log) = idle_take m.entry.who m.entry.step m.entry.reply + idle_takes log

-- ... and of the calls of a desk
abbrev pub idle_call : Call → ℕ
idle_call c = idle_take c.entry.who c.entry.step c.entry.reply

abbrev pub idle_calls : List Call → ℕ
idle_calls [] = 0
idle_calls (c ∷ calls) = idle_call c + idle_calls calls

-- ---- as a history goes on

takes_both : (a b : List Moment) → idle_takes (a ++ b) ≡ idle_takes a + idle_takes b
takes_both [] b = omega arith
takes_both (m ∷ a) b = let rest : idle_takes (a ++ b) ≡ idle_takes a + idle_takes b = takes_both a b in omega (arith, rest)

pub takes_more : (old more new : List Moment) → new ≡ old ++ more → idle_takes new ≡ idle_takes old + idle_takes more
takes_more old more new is = ap idle_takes is ∙ takes_both old more

-- by one step of who 0
pub stepped_takes : (s : Start) (old new : List Moment) (step : Step) (reply : Reply) → s.alone ≡ true → Stepped s old new 0 step reply → idle_takes new ≡ idle_takes old + idle_take 0 step reply
stepped_takes s old new step reply alone h =
    let last : Moment = record { entry = record { who = 0; step = step; reply = reply }; image = h.image } in
    let front : h.front ≡ old = h.waited.grew ∙ ap (λ (l : List Moment). old ++ l) (h.waited.nobody alone) ∙ append-nil old in
    let before : idle_takes h.front ≡ idle_takes old = ap idle_takes front in
    let whole : idle_takes new ≡ idle_takes h.front + idle_takes (last ∷ []) = takes_more h.front (last ∷ []) new h.is in
    let one : idle_takes (last ∷ []) ≡ idle_take 0 step reply + 0 = refl in
    omega (arith, before, whole, one)

-- by one that is refused
pub refused_takes : (s : Start) (old new : List Moment) (step : Step) (refusal : Option Refusal) → s.alone ≡ true → ((r : Refusal) → idle_take 0 step (Refused r) ≡ 0) → Refusing s old new 0 step refusal
    → idle_takes new ≡ idle_takes old
refused_takes s old new step None alone none h = ap idle_takes (h.grew ∙ ap (λ (l : List Moment). old ++ l) (h.nobody alone) ∙ append-nil old)
refused_takes s old new step (Some r) alone none h =
    let whole : idle_takes new ≡ idle_takes old + idle_take 0 step (Refused r) = stepped_takes s old new step (Refused r) alone h in
    let one : idle_take 0 step (Refused r) ≡ 0 = none r in
    omega (arith, whole, one)

-- ---- by a unit

of_ticket : (who : ℕ) (step : Step) (reply : Reply) → who ≢ 0 → idle_take who step reply ≡ 0
of_ticket zero step reply some = absurd (some refl)
of_ticket (suc n) step reply some = refl

own_takes : (who : ℕ) (more : List Moment) → who ≢ 0 → AllOf who more → idle_takes more ≡ 0
own_takes who [] some own = refl
own_takes who (m ∷ more) some own =
    let one : idle_take m.entry.who m.entry.step m.entry.reply ≡ 0 = of_ticket m.entry.who m.entry.step m.entry.reply (λ e. some (sym own.0 ∙ e)) in
    let rest : idle_takes more ≡ 0 = own_takes who more some own.1 in
    omega (arith, one, rest)

unit_takes : (s : Start) (who : ℕ) (old new : List Moment) → s.alone ≡ true → who ≢ 0 → GrewBy s who old new → idle_takes new ≡ idle_takes old
unit_takes s who old new alone some g =
    let whole : idle_takes new ≡ idle_takes old + idle_takes g.more = takes_more old g.more new g.is in
    let none : idle_takes g.more ≡ 0 = own_takes who g.more some (g.own alone) in
    omega (arith, whole, none)

-- a unit is taken and worked
pub round_takes : (s : Start) (old mid took new : List Moment) (ticket op : ℕ) (given : Given) → s.alone ≡ true → ticket ≢ 0 → idle_takes mid ≡ idle_takes old → Stepped s mid took 0 TakeStep (Gave ticket op given)
    → GrewBy s ticket took new → idle_takes new ≡ idle_takes old
round_takes s old mid took new ticket op given alone some was gave g =
    let one : idle_takes took ≡ idle_takes mid + 0 = stepped_takes s mid took TakeStep (Gave ticket op given) alone gave in
    let unit : idle_takes new ≡ idle_takes took = unit_takes s ticket took new alone some g in
    omega (arith, was, one, unit)
