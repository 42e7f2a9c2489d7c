-- Work that was stopped: a record swap had failed, or 2 ^ 33 entries were made.
use Rattle.std.proofs.Common.{◌≡◌, ◌⊎◌, ℕ, List, [], ◌∷◌, ◌++◌, true, false, Result, Ok, Err, OnOk, refl, sym, ap, subst, inl, inr}
use Rattle.esr_model.specs.Lists.{Has-left}
use Rattle.esr_model.specs.Values.{Has}
use Rattle.esr_core.specs.World.{World}
use Rattle.esr_core.specs.Entry.{Step, Refusal, DeposedAt, AbortedBy, Refused, Moment}
use Rattle.esr_core.specs.After.{swaps_record}
use Rattle.esr_core.specs.Allowed.{Allowed, Blocks, ByFailedSwap, ByDelete}
use Rattle.esr_core.specs.Refusing.{MayRefuse, RefusedSo, SwapFailed, ByRule}
use Rattle.esr_script.specs.declared.item.ScriptLine.{ScriptLine}
use Rattle.esr_desk.specs.Start.{Start, Legal, formats_of, world_of}
use Rattle.esr_quiet.specs.PrefixLaws.{legal_rest}
use Rattle.esr_complete.specs.Lines.{steps_of}
use Rattle.esr_drive.specs.Stopped.{StopsWork, SaidDeposed, WasStopped}
use Rattle.esr_run.specs.Laws.{Refusals}
use Rattle.esr_run.specs.Made.{MadeFirst, WasLeft, HasFallen, AreDone}
use Rattle.esr_core.specs.Laws.Rules.{never_rule}

-- where a moment stands
split_at : (l : List Moment) (x : Moment) → Has l x → (a : List Moment) × (b : List Moment) × (l ≡ a ++ x ∷ b)
split_at [] x none = absurd none
split_at (y ∷ l) x (inl e) = ([], l, ap (λ (z : Moment). z ∷ l) e)
split_at (y ∷ l) x (inr there) = let r = split_at l x there in (y ∷ r.0, r.1, ap (λ (z : List Moment). y ∷ z) r.2)

-- ---- by the refusal that stopped the work

-- while no record swap has failed no step is refused as deposed
none_says : (step : Step) (place : ℕ) → MayRefuse step (DeposedAt place) → ⊥
none_says step place (ByRule command refusal rule) = never_rule command (DeposedAt place) refl rule

no_abort : (by place : ℕ) → AbortedBy by ≡ DeposedAt place → ⊥
no_abort by place e = cc

by_swap : (w : World) (who : ℕ) (step : Step) (refusal : Refusal) (place : ℕ) → Blocks w who step refusal → refusal ≡ DeposedAt place → w.deposed ≡ true
by_swap w who step _ place (ByFailedSwap fell deposed) is = deposed
by_swap w who step _ place (ByDelete by alive aborted) is = absurd (no_abort by place is)

says_deposed : (w : World) (who : ℕ) (step : Step) (place : ℕ) → RefusedSo w who step (DeposedAt place) → w.deposed ≡ true
says_deposed w who step place (inl blocks) = by_swap w who step (DeposedAt place) place blocks refl
says_deposed w who step place (inr may) = absurd (none_says step place may)

module _ (laws : Refusals) (s : Start) (alive : s.world.deposed ≡ false) (log : List Moment) (legal : Legal s log) where
  fell_before : (front back : List Moment) (m : Moment) (place : ℕ) → log ≡ front ++ m ∷ back → m.entry.reply ≡ Refused (DeposedAt place) → SwapFailed log
  fell_before front back m place is says =
      let here : Allowed (formats_of s) s.part_size (world_of s front) m = (legal_rest (formats_of s) s.part_size front (m ∷ back) s.world (subst (Legal s) is legal)).0 in
      let fell = laws.deposed (formats_of s) s.world front alive (says_deposed (world_of s front) m.entry.who m.entry.step place (laws.of_steps (formats_of s) s.part_size (world_of s front) m (DeposedAt place) here says)) in
      record { moment = fell.moment; there = subst (λ (l : List Moment). Has l fell.moment) (sym is) (Has-left front (m ∷ back) fell.moment fell.there); swap = fell.swap; failed = fell.failed }

  fell_by : (m : Moment) → Has log m → (step : Step) (refusal : Refusal) → m.entry.step ≡ step → m.entry.reply ≡ Refused refusal → StopsWork step refusal → (front back : List Moment) → log ≡ front ++ m ∷ back → SwapFailed log
  fell_by m there step refusal step_is says (SaidDeposed any place) front back is = fell_before front back m place is says
  fell_by m there step refusal step_is says other front back is = record { moment = m; there = there; swap = ap swaps_record step_is; failed = says }

  pub fallen_by : (refusal : Refusal) → WasStopped log refusal → SwapFailed log
  fallen_by refusal was = let p = split_at log was.moment was.there in fell_by was.moment was.there was.moment.entry.step refusal refl was.same was.stops p.0 p.1 p.2

-- on the history of a repository, from its beginning on
pub done_fallen : {X E : Type 0} (laws : Refusals) (s : Start) (moment : ℕ) (lines : List ScriptLine) (old new same : List Moment) (r : Result X E) → OnOk r (AreDone s moment lines [] same ⊎ WasLeft s moment 0 lines [] same)
    → MadeFirst s (steps_of moment lines) old new → same ≡ new → old ≡ [] → s.world.deposed ≡ false
    → OnOk r (AreDone s moment lines [] same ⊎ HasFallen s moment lines [] same)
done_fallen {X} {E} laws s moment lines old new same (Err e) done made is begun alive = tt
done_fallen {X} {E} laws s moment lines old new same (Ok x) done made is begun alive =
    let here : MadeFirst s (steps_of moment lines) [] same = subst (λ (l : List Moment). MadeFirst s (steps_of moment lines) l same) begun (subst (λ (l : List Moment). MadeFirst s (steps_of moment lines) old l) (sym is) made) in
    elim done [
      | inl all ↦ inl all
      | inr (inl left) ↦ inr (inl (left.0, fallen_by laws s alive same (here.grew.legal tt) left.1.0 left.1.1))
      | inr (inr turns) ↦ inr (inr turns)
    ]
