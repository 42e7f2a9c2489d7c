-- That a run finds nothing damaged, and no name taken.
use Rattle.std.specs.Prelude.{List}
use Rattle.esr_model.specs.Values.{Formats}
use Rattle.esr_model.specs.Shelf.{Shelved}
use Rattle.esr_core.specs.Entry.{Moment}
use Rattle.esr_depot.specs.Look.{Look}
use Rattle.esr_desk.specs.Start.{Start}
use Rattle.esr_quiet.specs.Undamaged.{NoUnitFindsDamage, NoRestoreFindsDamage, NoDeleteFindsDamage, NoCheckFindsDamage}
use Rattle.esr_quiet.specs.Untaken.{NoneTaken}
use Rattle.esr_run.specs.Images.{Holds}

-- No unit of a snapshot or of a clone, no shard of a restore, no delete or cleanup whose ticket isn't stale and no check failed for damage,
-- and no commit of a ticket was refused since its name was taken.
pub record FindsNoDamage (s : Start) (log : List Moment) : Type 0 where
  pub units : NoUnitFindsDamage log
  pub restores : NoRestoreFindsDamage log
  pub deletes : NoDeleteFindsDamage s log
  pub checks : NoCheckFindsDamage log
  pub names : NoneTaken log

-- no damage is found over a kept container that tells, whatever calls fail
abbrev pub StaysUndamaged : Start → Formats → List Moment → Look → Type 0
StaysUndamaged s f log before = (shelf : List Shelved) → Holds f before shelf → FindsNoDamage s log
