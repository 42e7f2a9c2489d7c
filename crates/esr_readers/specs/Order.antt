-- The order of ops, tickets, names and ids, and of restores, which each step and each history keep.
use Rattle.std.specs.Prelude.{ℕ, List}
use Rattle.esr_model.specs.Values.{Formats}
use Rattle.esr_core.specs.World.{World}
use Rattle.esr_core.specs.Entry.{Moment}
use Rattle.esr_core.specs.After.{after}
use Rattle.esr_core.specs.Allowed.{Allowed}
use Rattle.esr_core.specs.History.{world_from, IsLegal}
use Rattle.esr_core.specs.Tracked.{Tracked}
use Rattle.esr_core.specs.ReadTracked.{ReadTracked}

-- one clause for a step and one for a history, each for ops and for restores
pub record OrderLaws : Type 0 where
  pub step : (f : Formats) (part_size : ℕ) (w : World) (m : Moment) → Tracked w → Allowed f part_size w m → Tracked (after f w m)
  pub read_step : (f : Formats) (part_size : ℕ) (w : World) (m : Moment) → Tracked w → ReadTracked w → Allowed f part_size w m → ReadTracked (after f w m)
  pub history : (f : Formats) (part_size : ℕ) (w : World) (log : List Moment) → Tracked w → IsLegal f part_size w log → Tracked (world_from f w log)
  pub read_history : (f : Formats) (part_size : ℕ) (w : World) (log : List Moment) → Tracked w → ReadTracked w → IsLegal f part_size w log → ReadTracked (world_from f w log)
