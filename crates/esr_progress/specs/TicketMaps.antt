-- The tickets that are out, as maps of what is kept of them.
use Rattle.std.specs.Prelude.{◌≤◌, ℕ, List}
use Rattle.std.specs.FinMap as fin
use Rattle.esr_ops.specs.Plan.{Seat, ReaderSeat, TicketMaps}
use Rattle.esr_ops.specs.Inside.{numbers_of, AreNumbers}

abbrev pub tickets_with : List (ℕ × Seat) → List (ℕ × ReaderSeat) → ℕ → TicketMaps
tickets_with seats readers next = record { seats = fin.from_entries seats; readers = fin.from_entries readers; next = next }

abbrev pub no_tickets : TicketMaps
no_tickets = record { seats = fin.empty; readers = fin.empty; next = 1 }

-- their numbers rise, and lie below the next one
pub record AreTickets (seats : List (ℕ × Seat)) (readers : List (ℕ × ReaderSeat)) (next : ℕ) : Type 0 where
  pub seats_numbered : AreNumbers (numbers_of seats) next
  pub readers_numbered : AreNumbers (numbers_of readers) next
  pub first : 1 ≤ next
