-- What shows a trouble.
use Rattle.std.specs.Prelude.{◌≡◌, ◌<◌, ℕ, List, [], Option, Some, None}
use Rattle.std.proofs.Common.{arith}
use Rattle.esr_model.specs.Values.{Bytes}
use Rattle.esr_core.specs.Entry.{Moment}
use Rattle.esr_desk.specs.declared.hand.Hand.TheVariants as hands
use Rattle.esr_desk.specs.declared.entry.Why.TheVariants as whys
use Rattle.esr_desk.specs.Start.{Start}
use Rattle.esr_desk.specs.Evidence.{Evidence}
use Rattle.esr_unit.specs.declared.trouble.Trouble.{Trouble}
use Rattle.esr_unit.specs.declared.trouble.Trouble.TheVariants as troubles
use Rattle.esr_unit.specs.declared.ending.Ending.{Ending}
use Rattle.esr_unit.specs.declared.ending.Ending.TheVariants as endings
use Rattle.esr_unit.specs.Ending.{ending_by}
use Rattle.esr_unit.specs.Shown.{EndingShown}
use Rattle.esr_unit.specs.Shown as unit

-- the files of which two prints differ aren't told
abbrev pub IsUntoldChange : {S F : Type 0} → Option (List (Bytes × Bytes)) → Trouble S F → Type 0
IsUntoldChange files (troubles.Found (whys.Changed first second)) = files ≡ None
IsUntoldChange files trouble = Unit {0}

-- It is shown, of a shard with this count of faults, which tells these files. One that has no fault and tells that it has no file has
-- neither failed nor changed.
abbrev pub Shown : {S F H T : Type 0} → Evidence S F H T → ℕ → Option (List (Bytes × Bytes)) → Start → List Moment → ℕ → Trouble S F → Type 0
Shown {S} {F} {H} {T} e faults files s log who trouble = unit.Shown {S = S} {F = F} {H = H} {T = T} hands.Unit e (0 < faults) s log who trouble × IsUntoldChange files trouble

-- ---- of a unit that reads no file

ending_own : {S F H T : Type 0} (e : Evidence S F H T) (own more : Type 0) (s : Start) (log : List Moment) (who : ℕ) (ending : Ending S F H T) → (own → more) → EndingShown hands.Unit e own s log who ending
    → EndingShown hands.Unit e more s log who ending
ending_own e own more s log who endings.Own wider h = wider h
ending_own e own more s log who ending wider h = h

pub some_none : (files : List (Bytes × Bytes)) → Some files ≡ None → ⊥
some_none files e = cc

no_change : {S F : Type 0} (files : Option (List (Bytes × Bytes))) (trouble : Trouble S F) → IsUntoldChange (Some []) trouble → IsUntoldChange files trouble
no_change files (troubles.Found (whys.Changed first second)) h = absurd (some_none [] h)
no_change files trouble h = tt

-- its trouble is shown whatever the shard's faults and files are
pub shown_any : {S F H T : Type 0} (e : Evidence S F H T) (n : ℕ) (files : Option (List (Bytes × Bytes))) (s : Start) (log : List Moment) (who : ℕ) (trouble : Trouble S F) → Shown e 0 (Some []) s log who trouble
    → Shown e n files s log who trouble
shown_any {S} {F} {H} {T} e n files s log who trouble h =
    (ending_own e (0 < 0) (0 < n) s log who (ending_by {S = S} {F = F} {H = H} {T = T} trouble) (λ (none : 0 < 0). absurd (omega (arith, none))) h.0, no_change files trouble h.1)

-- nor is there one of its own
pub shown_other : {S F H T : Type 0} (e : Evidence S F H T) (s : Start) (log : List Moment) (who : ℕ) (trouble : Trouble S F) → Shown e 0 (Some []) s log who trouble
    → unit.Shown {S = S} {F = F} {H = H} {T = T} hands.Unit e ⊥ s log who trouble
shown_other {S} {F} {H} {T} e s log who trouble h =
    ending_own e (0 < 0) ⊥ s log who (ending_by {S = S} {F = F} {H = H} {T = T} trouble) (λ (none : 0 < 0). omega (arith, none)) h.0
