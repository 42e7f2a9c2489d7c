-- When an op may leave the list.
use Rattle.std.specs.Prelude.{◌⊎◌, ℕ, List}
use Rattle.esr_core.specs.Entry.{Moment}
use Rattle.esr_desk.specs.Conditions.{CanDrop}
use Rattle.esr_desk.specs.Delete.Conditions.{CanEndCleanup}
use Rattle.esr_desk.specs.Start.{Start, ticket_of}

-- an op leaves by its drop, or by a cleanup that is over
abbrev pub CanLeave : Start → List Moment → ℕ → Type 0
CanLeave s log k = CanDrop (ticket_of s log k) ⊎ CanEndCleanup s log k
