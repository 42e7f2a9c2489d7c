-- How the unit of a restore's shard ends otherwise.
use Rattle.std.specs.Prelude.{◌≡◌, ℕ, false, List}
use Rattle.esr_core.specs.World.{Reader}
use Rattle.esr_core.specs.Entry.{Moment}
use Rattle.esr_desk.specs.declared.hand.Hand.TheVariants as hands
use Rattle.esr_desk.specs.declared.unit.UnitRefusal.{UnitRefusal}
use Rattle.esr_desk.specs.declared.unit.UnitRefusal.TheVariants as units
use Rattle.esr_desk.specs.Start.{Start}
use Rattle.esr_desk.specs.Halts.{Halts}
use Rattle.esr_desk.specs.Own.{reader_of}
use Rattle.esr_desk.specs.Evidence.{Evidence}
use Rattle.esr_unit.specs.Fail.{HasFailed}
use Rattle.esr_restore.specs.Worked.{Worked}

-- it has failed and its ticket has ended, with the cause; or it was stopped with its ticket out, for no failure of its own
abbrev pub IsUnitRefused : {S F H T : Type 0} → Evidence S F H T → Start → List Moment → List Moment → ℕ → UnitRefusal → Type 0
IsUnitRefused e s old new who (units.Failed why) =
    ((q : Reader) × Worked (reader_of s old who) q × (reader_of s new who ≡ record q { out = false })) × HasFailed hands.Restore e s new who why
IsUnitRefused e s old new who (units.Stopped refusal) = Worked (reader_of s old who) (reader_of s new who) × Halts s new who refusal
IsUnitRefused e s old new who units.Stale = ⊥
