-- What a verification adds to a history.
use Rattle.std.proofs.Common.{◌≡◌, true, List, [], ◌∷◌, ◌++◌, append_assoc, Result, Err, refl, sym, ap, ◌∙◌, subst}
use Rattle.esr_core.specs.Entry.{Reply, Refused, ReadStep, DrawTest, Moment}
use Rattle.esr_desk.specs.declared.unit.UnitRefusal.{UnitRefusal}
use Rattle.esr_desk.specs.declared.unit.UnitRefusal.TheVariants as units
use Rattle.esr_desk.specs.declared.refusal.StepRefusal.{StepRefusal}
use Rattle.esr_desk.specs.declared.refusal.StepRefusal.TheVariants as steps
use Rattle.esr_desk.specs.declared.hand.Hand.TheVariants as hands
use Rattle.esr_desk.specs.Refusals.{refusal_of}
use Rattle.esr_desk.specs.Start.{Start}
use Rattle.esr_desk.specs.Outcome.{Stepped}
use Rattle.esr_desk.specs.Evidence.{Evidence}
use Rattle.esr_unit.specs.declared.trouble.Trouble.TheVariants as troubles
use Rattle.esr_unit.specs.declared.ending.Ending.{Ending}
use Rattle.esr_unit.specs.declared.ending.Ending.TheVariants as endings
use Rattle.esr_unit.specs.Ending.{ending_by}
use Rattle.esr_unit.specs.Fetch.{IsRefusedBy}
use Rattle.esr_unit.specs.Fail.{GivenUp, IsReported}
use Rattle.esr_verify.specs.Began.{HasBegun, BeganOne, NotBegun, Begun, AsksOne}
use Rattle.esr_verify.specs.Went.{GrewFurther}
use Rattle.esr_verify.proofs.Going.{further_both, front_is, moment_of, stepped_is, report_further}

-- ---- by a draw

drawn_begun : (s : Start) (old new : List Moment) (reply : Reply) → s.alone ≡ true → Stepped s old new 0 (ReadStep DrawTest) reply → HasBegun old new
drawn_begun s old new reply alone h = record {
  draw = moment_of s old new (ReadStep DrawTest) reply alone h;
  rest = [];
  is = stepped_is s old new (ReadStep DrawTest) reply alone h;
  drawer = refl;
  drew = refl;
  all = tt;
}

-- and further steps
pub begun_on : (s : Start) (old mid new : List Moment) → HasBegun old mid → GrewFurther s mid new → HasBegun old new
begun_on s old mid new h g = record {
  draw = h.draw;
  rest = h.rest ++ g.more;
  is = g.is ∙ ap (λ (log : List Moment). log ++ g.more) h.is ∙ append_assoc old (h.draw ∷ h.rest) g.more;
  drawer = h.drawer;
  drew = h.drew;
  all = further_both h.rest g.more h.all g.all;
}

pub steps_begun : (s : Start) (old mid new : List Moment) (reply : Reply) → s.alone ≡ true → Stepped s old mid 0 (ReadStep DrawTest) reply → GrewFurther s mid new → HasBegun old new
steps_begun s old mid new reply alone h g = begun_on s old mid new (drawn_begun s old mid reply alone h) g

-- ---- by its answer

begun_one : (old new : List Moment) → HasBegun old new → BeganOne old new
begun_one old new h = Begun h.draw h.rest h.is h.drawer h.drew h.all

-- a verification has no term
given_present : {S F H T : Type 0} (e : Evidence S F H T) (s : Start) (old new : List Moment) (ending : Ending S F H T) (result : UnitRefusal) → GivenUp hands.Verify e s old new 0 ending result → result ≡ units.Stale → ⊥
given_present e s old new endings.Own result h is = h
given_present e s old new endings.Stale result h is = h
given_present e s old new ending (units.Failed why) h is = cc
given_present e s old new ending (units.Stopped refusal) h is = cc
given_present e s old new ending result h is = h

err_is : {X : Type 0} (one two : UnitRefusal) → ◌≡◌ {A = Result X UnitRefusal} (Err one) (Err two) → one ≡ two
err_is one two e = cc

asks_begun : {X : Type 0} (old new : List Moment) (result : Result X UnitRefusal) → (result ≡ Err units.Stale → ⊥) → HasBegun old new → AsksOne old new result
asks_begun old new (Err (units.Stopped steps.Memory)) present h = begun_one old new h
asks_begun old new (Err (units.Stopped steps.TurnsSpent)) present h = begun_one old new h
asks_begun old new (Err units.Stale) present h = absurd (present refl)
asks_begun old new result present h = h

-- the draw was refused
asks_stop : (X : Type 0) {S F H T : Type 0} (e : Evidence S F H T) (s : Start) (old mid new : List Moment) (refusal : StepRefusal) (result : UnitRefusal) → mid ≡ old → (new ≡ old → AsksOne {X = X} old new (Err (units.Stopped refusal)))
    → GivenUp hands.Verify e s mid new 0 (endings.Stopped refusal) result → AsksOne {X = X} old new (Err result)
asks_stop X e s old mid new refusal (units.Stopped told) same began h = subst (λ (r : StepRefusal). AsksOne {X = X} old new (Err (units.Stopped r))) (sym h.0) (began (h.1 ∙ same))
asks_stop X e s old mid new refusal (units.Failed why) same began h = absurd h
asks_stop X e s old mid new refusal units.Stale same began h = absurd h

asks_step : (X : Type 0) {S F H T : Type 0} (e : Evidence S F H T) (s : Start) (old mid new : List Moment) (refusal : StepRefusal) (result : UnitRefusal) → s.alone ≡ true → IsRefusedBy s old mid 0 (ReadStep DrawTest) refusal
    → GrewFurther s mid new → (result ≡ units.Stale → ⊥)
    → GivenUp hands.Verify e s mid new 0 (ending_by {S = S} {F = F} {H = H} {T = T} (troubles.Step refusal)) result → AsksOne {X = X} old new (Err result)
asks_step X e s old mid new steps.Memory result alone step g present h = asks_stop X e s old mid new steps.Memory result (front_is s old mid 0 alone step.0) (λ same. NotBegun same) h
asks_step X e s old mid new steps.TurnsSpent result alone step g present h = asks_stop X e s old mid new steps.TurnsSpent result (front_is s old mid 0 alone step.0) (λ same. NotBegun same) h
asks_step X e s old mid new (steps.Refused x) result alone step g present h = asks_begun {X = X} old new (Err result) (λ is. present (err_is {X = X} result units.Stale is)) (steps_begun s old mid new (Refused (refusal_of x)) alone step.0 g)

pub asks_draw : (X : Type 0) {S F H T : Type 0} (e : Evidence S F H T) (s : Start) (old mid new : List Moment) (refusal : StepRefusal) (ending : Ending S F H T) (result : UnitRefusal) → ending ≡ ending_by (troubles.Step refusal)
    → s.alone ≡ true
    → IsRefusedBy s old mid 0 (ReadStep DrawTest) refusal → GivenUp hands.Verify e s mid new 0 ending result → IsReported hands.Verify s mid new 0 ending result → AsksOne {X = X} old new (Err result)
asks_draw X {S} {F} {H} {T} e s old mid new refusal ending result is alone step h report =
    asks_step X e s old mid new refusal result alone step (report_further s mid new ending result alone report) (given_present e s mid new ending result h)
    (subst (λ (x : Ending S F H T). GivenUp hands.Verify e s mid new 0 x result) is h)

-- a step after it was refused, or failed
pub asks_run : (X : Type 0) {S F H T : Type 0} (e : Evidence S F H T) (s : Start) (old mid new : List Moment) (ending : Ending S F H T) (result : UnitRefusal) → s.alone ≡ true → HasBegun old mid
    → GivenUp hands.Verify e s mid new 0 ending result
    → IsReported hands.Verify s mid new 0 ending result → AsksOne {X = X} old new (Err result)
asks_run X e s old mid new ending result alone begun h report =
    asks_begun {X = X} old new (Err result) (λ is. given_present e s mid new ending result h (err_is {X = X} result units.Stale is)) (begun_on s old mid new begun (report_further s mid new ending result alone report))
