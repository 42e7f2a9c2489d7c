-- The numbers of tickets.
use Rattle.std.specs.Prelude.{◌≡◌, ◌≤◌}
use Rattle.std.specs.FinMap as fin
use Rattle.esr_desk.specs.Start.{Start}

-- no ticket was given when the history began, and none will have the number 0
pub record HasNoTickets (s : Start) : Type 0 where
  pub next : 1 ≤ s.world.next_ticket
  pub none : s.world.tickets ≡ fin.empty
