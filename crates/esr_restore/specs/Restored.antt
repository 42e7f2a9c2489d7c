-- How the unit of a restore's shard ends well.
use Rattle.std.specs.Prelude.{◌≡◌, ℕ, false, List}
use Rattle.esr_core.specs.World.{Reader}
use Rattle.esr_core.specs.Entry.{ReadStep, RestoredShard, HasEnded, Moment}
use Rattle.esr_desk.specs.Start.{Start}
use Rattle.esr_desk.specs.Last.{IsLast}
use Rattle.esr_desk.specs.Own.{reader_of}
use Rattle.esr_restore.specs.Worked.{Worked}

-- The shard is restored, and the ticket has ended by its last step, with which the desk has the target.
pub record HasRestored (s : Start) (old new : List Moment) (who : ℕ) : Type 0 where
  pub count : ℕ
  pub bytes : ℕ
  pub last : IsLast new who (ReadStep (RestoredShard count bytes)) HasEnded
  pub q : Reader
  pub worked : Worked (reader_of s old who) q
  pub ended : reader_of s new who ≡ record q { out = false }
