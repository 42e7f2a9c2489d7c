-- That nothing is out.
use Rattle.std.specs.Prelude.{◌≡◌, ℕ, ◌<◌, false, List}
use Rattle.esr_core.specs.Entry.{Moment}
use Rattle.esr_desk.specs.Start.{Start, world_of, ticket_of}
use Rattle.esr_desk.specs.Own.{reader_of}

-- no ticket of a restore is out
abbrev pub NoReaderOut : Start → List Moment → Type 0
NoReaderOut s log = (k : ℕ) → (reader_of s log k).out ≡ false

-- the number was given, and under it neither a ticket is out nor one of a restore
pub record IsOver (s : Start) (log : List Moment) (k : ℕ) : Type 0 where
  pub given : k < (world_of s log).next_ticket
  pub ticket : (ticket_of s log k).out ≡ false
  pub reader : (reader_of s log k).out ≡ false
