-- The law, whole.
use Rattle.std.specs.Prelude.{◌≡◌, ℕ, ◌<◌, List, Some}
use Rattle.std.specs.FinMap as fin
use Rattle.esr_model.specs.Values.{Formats}
use Rattle.esr_model.specs.Shelf.{Shelved}
use Rattle.esr_core.specs.World.{World, Ticket, HeldIn}
use Rattle.esr_core.specs.Swaps.{Rooted}
use Rattle.esr_core.specs.Generations.{Carried}

pub record Sound (f : Formats) (w : World) (shelf : List Shelved) : Type 0 where
  pub rooted : Rooted f w shelf
  pub carried : Carried f (HeldIn f w) w.safe w.term w.root w.ops w.tickets
  pub fresh : (k : ℕ) (t : Ticket) → fin.get w.tickets k ≡ Some t → k < w.next_ticket
