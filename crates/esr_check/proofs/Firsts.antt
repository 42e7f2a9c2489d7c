-- The failed checks of a history that goes on: each names the first blob that is damaged.
use Rattle.std.proofs.Common.{◌≡◌, ◌⊎◌, inl, inr, true, List, [], ◌∷◌, ◌++◌, append-nil, append_assoc, Option, Some, None, Result, Ok, Err, refl, sym, ap, ◌∙◌, subst}
use Rattle.esr_model.specs.Names.{BlobName}
use Rattle.esr_core.specs.Entry.{ReadBlob, ReadFails, Why as CoreWhy, Step, ReadStep, Reply, Refusal, Refused, HasEnded, Moment}
use Rattle.esr_desk.specs.declared.hand.Hand.TheVariants as hands
use Rattle.esr_desk.specs.declared.refusal.EntryRefusal.TheVariants as refusals
use Rattle.esr_desk.specs.declared.refusal.StepRefusal.{StepRefusal}
use Rattle.esr_desk.specs.declared.refusal.StepRefusal.TheVariants as steps
use Rattle.esr_desk.specs.declared.unit.UnitRefusal.{UnitRefusal}
use Rattle.esr_desk.specs.declared.unit.UnitRefusal.TheVariants as units
use Rattle.esr_desk.specs.Entries.{why_of}
use Rattle.esr_desk.specs.Refusals.{told_refusal}
use Rattle.esr_desk.specs.Start.{Start}
use Rattle.esr_desk.specs.Outcome.{Stepped, Refusing, Outcome}
use Rattle.esr_desk.specs.Check.Shown.{AllFetches}
use Rattle.esr_unit.specs.declared.trouble.Trouble.{Trouble}
use Rattle.esr_unit.specs.declared.trouble.Trouble.TheVariants as troubles
use Rattle.esr_unit.specs.declared.ending.Ending.{Ending}
use Rattle.esr_unit.specs.declared.ending.Ending.TheVariants as endings
use Rattle.esr_unit.specs.Ending.{ending_at, ending_by}
use Rattle.esr_unit.specs.Fail.{IsReported}
use Rattle.esr_check.specs.First.{NamesOne, TellsOne, FirstOf, AreFirst}
use Rattle.esr_check.specs.Went.{Went}
use Rattle.esr_check.proofs.Living.{front_is, moment_of, stepped_is}

-- ---- one moment more

no_place : {A : Type 0} (front : List A) (y : A) (back : List A) → [] ≡ front ++ y ∷ back → ⊥
no_place [] y back e = cc
no_place (x ∷ front) y back e = cc

-- where something stands in a list with one more: it is the last, or stands in the list
last_or : {A : Type 0} (xs : List A) (last : A) (front : List A) (y : A) (back : List A) → xs ++ last ∷ [] ≡ front ++ y ∷ back → ((front ≡ xs) × (last ≡ y)) ⊎ ((rest : List A) × (xs ≡ front ++ y ∷ rest))
last_or [] last [] y back e = inl (refl, cc)
last_or [] last (x ∷ front) y back e = absurd (no_place front y back (let rest : [] ≡ front ++ y ∷ back = cc in rest))
last_or {A} (x ∷ xs) last [] y back e = let same : x ≡ y = cc in inr (xs, ap (λ (z : A). z ∷ xs) same)
last_or {A} (x ∷ xs) last (z ∷ front) y back e =
    let same : x ≡ z = cc in
    let rest : xs ++ last ∷ [] ≡ front ++ y ∷ back = cc in
    elim (last_or xs last front y back rest) [
      | inl here ↦ inl (ap (λ (w : A). w ∷ front) (sym same) ∙ ap (λ (l : List A). x ∷ l) here.0, here.1)
      | inr before ↦ inr (before.0, ap (λ (l : List A). x ∷ l) before.1 ∙ ap (λ (w : A). w ∷ (front ++ y ∷ before.0)) same)
    ]

-- it ends no check as failed, or names the first blob that is damaged
abbrev TellsFirst : Start → List Moment → Step → Reply → Type 0
TellsFirst s log step reply = (why : CoreWhy) → step ≡ ReadStep (ReadFails why) → reply ≡ HasEnded → NamesOne (FirstOf s log) why

first_one : (s : Start) (log : List Moment) (m : Moment) → TellsFirst s log m.entry.step m.entry.reply → AreFirst s log → AreFirst s (log ++ m ∷ [])
first_one s log m own was front back x why is who step reply is_open = elim (last_or log m front x back is) [
  | inl last ↦ subst (λ (l : List Moment). NamesOne (FirstOf s l) why) (sym last.0) (own why (ap (λ (y : Moment). y.entry.step) last.1 ∙ step) (ap (λ (y : Moment). y.entry.reply) last.1 ∙ reply))
  | inr before ↦ was front before.0 x why before.1 who step reply is_open
]

-- ---- fetches

fetch_no_end : (name : BlobName) (why : CoreWhy) → ReadStep (ReadBlob name) ≡ ReadStep (ReadFails why) → ⊥
fetch_no_end name why e = cc

first_fetches : (s : Start) (log more : List Moment) → AllFetches more → AreFirst s log → AreFirst s (log ++ more)
first_fetches s log [] all was = subst (AreFirst s) (sym (append-nil log)) was
first_fetches s log (m ∷ more) all was =
    subst (AreFirst s) (append_assoc log (m ∷ []) more) (first_fetches s (log ++ m ∷ []) more all.2 (first_one s log m (λ why step ended. absurd (fetch_no_end all.1.0 why (sym all.1.1 ∙ step))) was))

pub first_went : (s : Start) (old new : List Moment) (P : BlobName → Type 0) → Went s old new P → AreFirst s old → AreFirst s new
first_went s old new P went was = subst (AreFirst s) (sym went.is) (first_fetches s old went.more went.all was)

-- ---- another step

first_stepped : (s : Start) (old new : List Moment) (step : Step) (reply : Reply) → s.alone ≡ true → TellsFirst s old step reply → Stepped s old new 0 step reply → AreFirst s old → AreFirst s new
first_stepped s old new step reply alone own h was = subst (AreFirst s) (sym (stepped_is s old new step reply alone h)) (first_one s old (moment_of s old new step reply alone h) own was)

refused_no_end : (refusal : Refusal) → Refused refusal ≡ HasEnded → ⊥
refused_no_end refusal e = cc

first_refusing : (s : Start) (old new : List Moment) (step : Step) (refusal : Option Refusal) → s.alone ≡ true → Refusing s old new 0 step refusal → AreFirst s old → AreFirst s new
first_refusing s old new step None alone h was = subst (AreFirst s) (sym (front_is s old new 0 alone h)) was
first_refusing s old new step (Some refusal) alone h was = first_stepped s old new step (Refused refusal) alone (λ why is ended. absurd (refused_no_end refusal ended)) h was

pub first_outcome : {X : Type 0} (s : Start) (old new : List Moment) (step : Step) (ok : X → Reply) (result : Result X StepRefusal) → s.alone ≡ true → ((why : CoreWhy) → step ≡ ReadStep (ReadFails why) → ⊥)
    → Outcome s old new 0 step ok result
    → AreFirst s old → AreFirst s new
first_outcome s old new step ok (Ok x) alone other h was = first_stepped s old new step (ok x) alone (λ why is ended. absurd (other why is)) h was
first_outcome s old new step ok (Err e) alone other h was = first_refusing s old new step (told_refusal e) alone h.0 was

-- ---- the report that it failed

-- the cause by which it ends names such a one
abbrev EndsOne : {S F H T : Type 0} → (BlobName → Type 0) → Ending S F H T → Type 0
EndsOne P (endings.Failed why b) = NamesOne P (why_of why)
EndsOne P ending = Unit {0}

refusal_names : (S F H T : Type 0) (P : BlobName → Type 0) (refusal : StepRefusal) → EndsOne {S = S} {F = F} {H = H} {T = T} P (ending_at refusal)
refusal_names S F H T P (steps.Refused refusals.DepotFault) = tt
refusal_names S F H T P (steps.Refused (refusals.NameTaken name)) = tt
refusal_names S F H T P (steps.Refused (refusals.Aborted op)) = tt
refusal_names S F H T P (steps.Refused (refusals.IdsSpent next)) = tt
refusal_names S F H T P (steps.Refused (refusals.GenerationsSpent number)) = tt
refusal_names S F H T P (steps.Refused (refusals.StaleTerm own now)) = tt
refusal_names S F H T P refusal = tt

trouble_names : (S F H T : Type 0) (P : BlobName → Type 0) (trouble : Trouble S F) → TellsOne P trouble → EndsOne {S = S} {F = F} {H = H} {T = T} P (ending_by trouble)
trouble_names S F H T P (troubles.Step refusal) named = refusal_names S F H T P refusal
trouble_names S F H T P (troubles.Stage stage) named = tt
trouble_names S F H T P (troubles.Fetch fetch) named = tt
trouble_names S F H T P troubles.Own named = tt
trouble_names S F H T P (troubles.Found why) named = named

same_why : (a b : CoreWhy) → ReadStep (ReadFails a) ≡ ReadStep (ReadFails b) → a ≡ b
same_why a b e = cc

first_reported : {S F H T : Type 0} (s : Start) (old new : List Moment) (ending : Ending S F H T) (result : UnitRefusal) → s.alone ≡ true → EndsOne (FirstOf s old) ending → IsReported hands.Check s old new 0 ending result → AreFirst s old
    → AreFirst s new
first_reported s old new (endings.Failed why b) (units.Failed told) alone named h was =
    first_stepped s old new (ReadStep (ReadFails (why_of why))) HasEnded alone (λ w is ended. subst (λ (x : CoreWhy). NamesOne (FirstOf s old) x) (same_why (why_of why) w is) named) h was
first_reported s old new (endings.Failed why b) (units.Stopped refusal) alone named h was = first_refusing s old new (ReadStep (ReadFails (why_of why))) (told_refusal refusal) alone h was
first_reported s old new ending result alone named h was = subst (AreFirst s) (sym h) was

pub first_report : {S F H T : Type 0} (s : Start) (old new : List Moment) (trouble : Trouble S F) (ending : Ending S F H T) (result : UnitRefusal) → s.alone ≡ true → ending ≡ ending_by trouble → TellsOne (FirstOf s old) trouble
    → IsReported hands.Check s old new 0 ending result
    → AreFirst s old → AreFirst s new
first_report {S} {F} {H} {T} s old new trouble ending result alone is named h was =
    first_reported s old new ending result alone (subst (λ (x : Ending S F H T). EndsOne (FirstOf s old) x) (sym is) (trouble_names S F H T (FirstOf s old) trouble named)) h was
