-- How far the ticket of a restore went.
use Rattle.std.specs.Prelude.{ℕ, List}
use Rattle.esr_core.specs.Entry.{Moment}
use Rattle.esr_desk.specs.Start.{Start}
use Rattle.esr_desk.specs.Grew.{GrewBy}
use Rattle.esr_desk.specs.Own.{reader_of}
use Rattle.esr_restore.specs.Worked.{Worked}

-- the history has gone on, and the ticket has read more
pub record Went (s : Start) (old new : List Moment) (who : ℕ) : Type 0 where
  pub grew : GrewBy s who old new
  pub worked : Worked (reader_of s old who) (reader_of s new who)
