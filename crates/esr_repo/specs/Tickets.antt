-- What holds of all tickets, also of those that are over.
use Rattle.std.specs.Prelude.{◌≡◌, ◌<◌, ◌≤◌, ℕ, true, List, [], Option, Some}
use Rattle.std.specs.FinMap as fin
use Rattle.esr_core.specs.World.{World, Op, Deleting, Swap, Ticket}
use Rattle.esr_core.specs.Past.{WasStale}

-- where a step was refused as stale, there is its ticket, of a term that is over
abbrev pub AreStale : World → Type 0
AreStale w = (k : ℕ) → WasStale w k → (t : Ticket) × (fin.get w.tickets k ≡ Some t) × (t.term < w.term)

-- numbers are from 1 on, and no open op has the number of a delete that was given
pub record AreOfOps (w : World) : Type 0 where
  pub some : (k : ℕ) (t : Ticket) → fin.get w.tickets k ≡ Some t → 1 ≤ k
  pub apart : (k : ℕ) (t : Ticket) (uuids : List ℕ) (plan : Option Swap) (op : Op) → fin.get w.tickets k ≡ Some t → t.work ≡ Deleting uuids plan → fin.get w.ops t.op ≡ Some op → ⊥
  -- the ticket of a cleanup names no snapshot
  pub bare : (k : ℕ) (t : Ticket) → fin.get w.tickets k ≡ Some t → t.clean ≡ true → (plan : Option Swap) × (t.work ≡ Deleting [] plan)
  -- nor is the op of a ticket that has settled open any longer
  pub over : (k : ℕ) (t : Ticket) (op : Op) → fin.get w.tickets k ≡ Some t → t.settled ≡ true → fin.get w.ops t.op ≡ Some op → ⊥
