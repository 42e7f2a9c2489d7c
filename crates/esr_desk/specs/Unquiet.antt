-- That a container in which a step failed isn't quiet.
use Rattle.std.proofs.Common.{◌≡◌, ℕ, Bool, true, false, List, [], ◌∷◌, ◌++◌, refl, sym, subst, inl, inr}
use Rattle.std.proofs.lemmas.Bool.{false_from_ne_true}
use Rattle.esr_model.specs.Values.{Has}
use Rattle.esr_core.specs.Entry.{Step, Refused, DepotFault, Moment}
use Rattle.esr_desk.specs.declared.refusal.EntryRefusal.{EntryRefusal}
use Rattle.esr_desk.specs.declared.refusal.EntryRefusal.TheVariants as refusals
use Rattle.esr_desk.specs.declared.refusal.StepRefusal.TheVariants as steps
use Rattle.esr_desk.specs.Start.{Start}
use Rattle.esr_desk.specs.Outcome.{Grounds, IsOfOp}
use Rattle.esr_desk.specs.Last.{IsLast}
use Rattle.esr_desk.specs.Evidence.{NeverFailed}

pub has_here : (front : List Moment) (m : Moment) (back : List Moment) → Has (front ++ m ∷ back) m
has_here [] m back = inl refl
has_here (x ∷ front) m back = inr (has_here front m back)

-- an entry tells that it failed
pub unquiet : (quiet : Bool) (log front : List Moment) (m : Moment) (back : List Moment) → (quiet ≡ true → NeverFailed log) → log ≡ front ++ m ∷ back → m.entry.reply ≡ Refused DepotFault → quiet ≡ false
unquiet quiet log front m back never is failed = false_from_ne_true quiet (λ is_quiet. never is_quiet m (subst (λ (l : List Moment). Has l m) (sym is) (has_here front m back)) failed)

-- the last step does
pub unquiet_last : (quiet : Bool) (log : List Moment) (who : ℕ) (step : Step) → (quiet ≡ true → NeverFailed log) → IsLast log who step (Refused DepotFault) → quiet ≡ false
unquiet_last quiet log who step never last =
    let m : Moment = record { entry = record { who = who; step = step; reply = Refused DepotFault }; image = last.image } in
    unquiet quiet log last.front m [] never last.is refl

-- so a refusal has its ground
pub quiet_grounds : (s : Start) (log : List Moment) (who : ℕ) (refusal : EntryRefusal) → (refusal ≡ refusals.DepotFault → s.quiet ≡ false) → ((by : ℕ) → refusal ≡ refusals.Aborted by → IsOfOp s log who)
    → Grounds s log who (steps.Refused refusal)
quiet_grounds s log who refusals.DepotFault unquiet aborted = unquiet refl
quiet_grounds s log who (refusals.Aborted by) unquiet aborted = aborted by refl
quiet_grounds s log who refusal unquiet aborted = tt
