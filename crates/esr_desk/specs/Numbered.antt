-- The numbers of tickets.
use Rattle.std.specs.Prelude.{◌≡◌, ℕ, ◌<◌, ◌≤◌, Some}
use Rattle.std.specs.FinMap as fin
use Rattle.esr_core.specs.World.{World, Ticket, Reader}

-- each is below the next one, which is at least this one
pub record Numbered (least : ℕ) (w : World) : Type 0 where
  pub next : least ≤ w.next_ticket
  pub tickets : (k : ℕ) (t : Ticket) → fin.get w.tickets k ≡ Some t → k < w.next_ticket
  pub readers : (k : ℕ) (q : Reader) → fin.get w.readers k ≡ Some q → k < w.next_ticket
