-- Which generations tickets have raised, over any container.
use Rattle.std.specs.Prelude.{◌≡◌, ℕ, ◌<◌, ◌≤◌, true, false, Some}
use Rattle.std.specs.Ordering.{nat_cmp}
use Rattle.std.specs.FinMap.{FinMap}
use Rattle.std.specs.FinMap as fin
use Rattle.esr_core.specs.World.{World, Ticket}
use Rattle.esr_core.specs.Ready.{IsMaster}

-- only a swap raises, and what it raised lies below the generation that comes next; where it can still settle, it lies above the safe one
pub record Ranks (safe pending term : ℕ) (tickets : FinMap nat_cmp Ticket) : Type 0 where
  pub ordered : safe ≤ pending
  pub raised : (k n : ℕ) (t : Ticket) → fin.get tickets k ≡ Some t → t.raised ≡ Some n → IsMaster t.work × (n < pending)
  pub unsettled : (k n : ℕ) (t : Ticket) → fin.get tickets k ≡ Some t → t.out ≡ true → t.settled ≡ false → t.term ≡ term → t.raised ≡ Some n → safe ≤ n

abbrev pub Ranked : World → Type 0
Ranked w = Ranks w.safe w.pending w.term w.tickets
