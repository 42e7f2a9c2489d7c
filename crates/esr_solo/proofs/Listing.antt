-- The targets of restores are listed as the history goes on.
use Rattle.std.proofs.Common.{◌≡◌, ℕ, List, [], ◌∷◌, ◌++◌, Result, Ok, Err, OnOk, OnErr, refl, sym, ap, ◌∙◌, subst, append-nil, append_assoc}
use Rattle.esr_model.specs.Image.{AllPairs}
use Rattle.esr_core.specs.Entry.{RestoredShard, Step, ReadStep, Reply, Refused, HasEnded, Moment}
use Rattle.esr_desk.specs.declared.target.RestoredTarget.{RestoredTarget}
use Rattle.esr_desk.specs.declared.target.Unended.{Unended}
use Rattle.esr_desk.specs.declared.refusal.StepRefusal.{StepRefusal}
use Rattle.esr_desk.specs.declared.refusal.StepRefusal.TheVariants as steps
use Rattle.esr_desk.specs.Refusals.{refusal_of}
use Rattle.esr_desk.specs.Start.{Start}
use Rattle.esr_desk.specs.Own.{reader_of}
use Rattle.esr_desk.specs.Evidence.{Evidence}
use Rattle.esr_desk.specs.Restore.Targets.{IsFilled, refused_of, Restoration, restorations_by, restorations_in, IsTargetOf, AreTargetsOf}
use Rattle.esr_repo.specs.Next.{Added, AddedOr, Did}
use Rattle.esr_solo.specs.Kept.{targets_by}

-- one more moment
in_more : (before log : List Moment) (m : Moment) → restorations_in before (log ++ m ∷ []) ≡ restorations_in before log ++ restorations_by (before ++ log) m.entry.who m.entry.reply m.entry.step
in_more before [] m = append-nil (restorations_by before m.entry.who m.entry.reply m.entry.step) ∙ ap (λ (l : List Moment). restorations_by l m.entry.who m.entry.reply m.entry.step) (sym (append-nil before))
in_more before (x ∷ log) m =
    let first : List Restoration = restorations_by before x.entry.who x.entry.reply x.entry.step in
    ap (λ (l : List Restoration). first ++ l) (in_more (before ++ x ∷ []) log m)
    ∙ sym (append_assoc first (restorations_in (before ++ x ∷ []) log) (restorations_by ((before ++ x ∷ []) ++ log) m.entry.who m.entry.reply m.entry.step))
    ∙ ap (λ (l : List Moment). (first ++ restorations_in (before ++ x ∷ []) log) ++ restorations_by l m.entry.who m.entry.reply m.entry.step) (append_assoc before (x ∷ []) log)

pairs_more : {A B : Type 0} (R : A → B → Type 0) (xs us : List A) (ys vs : List B) → AllPairs R xs ys → AllPairs R us vs → AllPairs R (xs ++ us) (ys ++ vs)
pairs_more R [] us [] vs h k = k
pairs_more R [] us (y ∷ ys) vs h k = absurd h
pairs_more R (x ∷ xs) us [] vs h k = absurd h
pairs_more R (x ∷ xs) us (y ∷ ys) vs h k = (h.0, pairs_more R xs us ys vs h.1 k)

-- the step is no restoration where it is answered so
abbrev pub IsNoRestoration : Step → Reply → Type 0
IsNoRestoration step reply = (before : List Moment) (who : ℕ) → restorations_by before who reply step ≡ []

module _ {S F H T : Type 0} (e : Evidence S F H T) (s : Start) where
  goes_on : (log : List Moment) (m : Moment) (targets more : List (RestoredTarget T)) → AllPairs (IsTargetOf e s) (restorations_by log m.entry.who m.entry.reply m.entry.step) more → AreTargetsOf e s log targets
      → AreTargetsOf e s (log ++ m ∷ []) (targets ++ more)
  goes_on log m targets more now h =
      subst (λ (l : List Restoration). AllPairs (IsTargetOf e s) l (targets ++ more)) (sym (in_more [] log m))
      (pairs_more (IsTargetOf e s) (restorations_in [] log) (restorations_by log m.entry.who m.entry.reply m.entry.step) targets more h now)

  none_more : (log : List Moment) (m : Moment) (targets : List (RestoredTarget T)) → IsNoRestoration m.entry.step m.entry.reply → AreTargetsOf e s log targets → AreTargetsOf e s (log ++ m ∷ []) targets
  none_more log m targets none h =
      subst (λ (l : List (RestoredTarget T)). AreTargetsOf e s (log ++ m ∷ []) l) (append-nil targets)
      (goes_on log m targets [] (subst (λ (l : List Restoration). AllPairs (IsTargetOf e s) l []) (sym (none log m.entry.who)) tt) h)

  added : (old new : List Moment) (who : ℕ) (step : Step) (reply : Reply) (targets : List (RestoredTarget T)) → IsNoRestoration step reply → Added s old new who step reply → AreTargetsOf e s old targets → AreTargetsOf e s new targets
  added old new who step reply targets none a h =
      subst (λ (l : List Moment). AreTargetsOf e s l targets) (sym a.is) (none_more old (record { entry = record { who = who; step = step; reply = reply }; image = a.image }) targets none h)

  added_or : (old new : List Moment) (who : ℕ) (step : Step) (x : StepRefusal) (targets : List (RestoredTarget T)) → AddedOr s old new who step x → AreTargetsOf e s old targets → AreTargetsOf e s new targets
  added_or old new who step steps.Memory targets same h = subst (λ (l : List Moment). AreTargetsOf e s l targets) (sym same) h
  added_or old new who step steps.TurnsSpent targets never h = absurd never
  added_or old new who step (steps.Refused refusal) targets a h = added old new who step (Refused (refusal_of refusal)) targets (λ before k. refl) a h

  -- a step of the repository that restores no shard
  pub targets_did : {X : Type 0} (old new : List Moment) (who : ℕ) (step : Step) (ok : X → Reply) (result : Result X StepRefusal) (targets : List (RestoredTarget T)) → ((x : X) → IsNoRestoration step (ok x))
      → Did s old new who step ok result
      → AreTargetsOf e s old targets → AreTargetsOf e s new targets
  targets_did old new who step ok (Ok x) targets none d h = added old new who step (ok x) targets (none x) d h
  targets_did old new who step ok (Err x) targets none d h = added_or old new who step x targets d h

  -- the end of a restore, which lists its target where it was made
  pub target_listed : (old new : List Moment) (who files bytes : ℕ) (result : Result Unit StepRefusal) (targets : List (RestoredTarget T)) (target : RestoredTarget T) → IsFilled e s (reader_of s old who) files bytes target
      → Did s old new who (ReadStep (RestoredShard files bytes)) (λ _. HasEnded) result → AreTargetsOf e s old targets → AreTargetsOf e s new (targets ++ targets_by target result)
  target_listed old new who files bytes (Ok x) targets target filled d h =
      subst (λ (l : List Moment). AreTargetsOf e s l (targets ++ target ∷ [])) (sym d.is)
      (goes_on old (record { entry = record { who = who; step = ReadStep (RestoredShard files bytes); reply = HasEnded }; image = d.image }) targets (target ∷ []) (filled, tt) h)
  target_listed old new who files bytes (Err x) targets target filled d h =
      subst (λ (l : List (RestoredTarget T)). AreTargetsOf e s new l) (sym (append-nil targets)) (added_or old new who (ReadStep (RestoredShard files bytes)) x targets d h)

  pub begins_targets : (log : List Moment) (targets : List (RestoredTarget T)) → log ≡ [] → targets ≡ [] → AreTargetsOf e s log targets
  begins_targets log targets none empty = subst (λ (l : List Moment). AreTargetsOf e s l targets) (sym none) (subst (λ (l : List (RestoredTarget T)). AreTargetsOf e s [] l) (sym empty) tt)

  pub same_targets : (log : List Moment) (targets same : List (RestoredTarget T)) → same ≡ targets → AreTargetsOf e s log targets → AreTargetsOf e s log same
  same_targets log targets same is h = subst (λ (l : List (RestoredTarget T)). AreTargetsOf e s log l) (sym is) h

-- ---- what the step was answered

pub ok_listed : {T : Type 0} (r : Result Unit (Unended T)) (answer : Result Unit StepRefusal) (P : Type 0) → refused_of r ≡ answer → OnOk answer P → OnOk r P
ok_listed (Ok x) answer P is h = subst (λ (a : Result Unit StepRefusal). OnOk a P) (sym is) h
ok_listed (Err u) answer P is h = tt

pub err_listed : {T : Type 0} (r : Result Unit (Unended T)) (answer : Result Unit StepRefusal) (P : Type 0) → refused_of r ≡ answer → OnErr answer P → OnErr r P
err_listed (Ok x) answer P is h = tt
err_listed (Err u) answer P is h = subst (λ (a : Result Unit StepRefusal). OnErr a P) (sym is) h
