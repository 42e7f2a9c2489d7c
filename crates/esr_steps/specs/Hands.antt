-- What the failure of a hand makes of the list of ops.
use Rattle.std.specs.Prelude.{◌≡◌, ℕ, false, Option, Some, None}
use Rattle.std.specs.FinMap as fin
use Rattle.esr_core.specs.World.{World, ReadState}
use Rattle.esr_core.specs.Restores.{waits}
use Rattle.esr_core.specs.After.{failed_of, delete_failed, read_over}
use Rattle.esr_ops.specs.Plan.{Plan, IsPlanOf}
use Rattle.esr_desk.specs.declared.hand.Hand.{Hand}
use Rattle.esr_desk.specs.declared.hand.Hand.TheVariants as hands

-- a check and a verification leave it
abbrev pub IsPlanAfter : Hand → World → ℕ → Option Plan → Type 0
IsPlanAfter hands.Unit w who (Some p) = IsPlanOf (failed_of w who (fin.get w.tickets who)) p
IsPlanAfter hands.Delete w who (Some p) = IsPlanOf (delete_failed w who (fin.get w.tickets who)) p
IsPlanAfter hands.Restore w who (Some p) = (state : ReadState) → waits state ≡ false → IsPlanOf (read_over w who state (fin.get w.readers who)) p
IsPlanAfter hands.Check w who (Some p) = ⊥
IsPlanAfter hands.Verify w who (Some p) = ⊥
IsPlanAfter hands.Unit w who None = ⊥
IsPlanAfter hands.Delete w who None = ⊥
IsPlanAfter hands.Restore w who None = ⊥
IsPlanAfter hands.Check w who None = Unit {0}
IsPlanAfter hands.Verify w who None = Unit {0}
