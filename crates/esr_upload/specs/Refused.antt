-- How the unit of a shard ends.
use Rattle.std.specs.Prelude.{◌≡◌, ℕ, false, List, Option, None}
use Rattle.esr_model.specs.Values.{Bytes, ShardResult}
use Rattle.esr_core.specs.World.{Ticket}
use Rattle.esr_core.specs.Entry.{DoneStep, HasEnded, Moment}
use Rattle.esr_ops.specs.declared.unit.Work.{Work}
use Rattle.esr_ops.specs.declared.unit.Work.TheVariants as works
use Rattle.esr_desk.specs.declared.hand.Hand.TheVariants as hands
use Rattle.esr_desk.specs.declared.entry.Why.{Why}
use Rattle.esr_desk.specs.declared.entry.Why.TheVariants as whys
use Rattle.esr_desk.specs.declared.unit.UnitRefusal.{UnitRefusal}
use Rattle.esr_desk.specs.declared.unit.UnitRefusal.TheVariants as units
use Rattle.esr_desk.specs.Start.{Start, ticket_of}
use Rattle.esr_desk.specs.Last.{IsLast}
use Rattle.esr_desk.specs.Halts.{Halts}
use Rattle.esr_desk.specs.Evidence.{Evidence}
use Rattle.esr_unit.specs.Fail.{HasFailed}
use Rattle.esr_upload.specs.Worked.{Worked}

-- the unit is of a shard
abbrev pub IsOfShard : Work → Type 0
IsOfShard (works.Shard uuid shard index place) = Unit {0}
IsOfShard work = ⊥

-- the files that are told of the unit's shard
abbrev pub told_of : (Bytes → Bytes → ℕ → Option (List (Bytes × Bytes))) → Work → Option (List (Bytes × Bytes))
told_of files (works.Shard uuid shard index place) = files place index shard.number
told_of files work = None

-- the shard is done, and the ticket has ended
pub record HasDone (s : Start) (old new : List Moment) (who : ℕ) : Type 0 where
  pub r : ShardResult
  pub last : IsLast new who (DoneStep r) HasEnded
  pub worked : Ticket
  pub is_worked : Worked (ticket_of s old who) worked
  pub is : ticket_of s new who ≡ record worked { out = false }

-- the files of which two prints differ aren't told
abbrev pub IsChangeOfUntold : Option (List (Bytes × Bytes)) → Why → Type 0
IsChangeOfUntold files (whys.Changed first second) = files ≡ None
IsChangeOfUntold files why = Unit {0}

-- it has failed and its ticket has ended, with the cause; or it was stopped with its ticket out, for no failure of its own
abbrev pub IsUnitRefused : {S F H T : Type 0} → Evidence S F H T → Option (List (Bytes × Bytes)) → Start → List Moment → List Moment → ℕ → UnitRefusal → Type 0
IsUnitRefused e files s old new who (units.Failed why) =
    ((worked : Ticket) × Worked (ticket_of s old who) worked × (ticket_of s new who ≡ record worked { out = false })) × HasFailed hands.Unit e s new who why × IsChangeOfUntold files why
IsUnitRefused e files s old new who (units.Stopped refusal) = Worked (ticket_of s old who) (ticket_of s new who) × Halts s new who refusal
IsUnitRefused e files s old new who units.Stale = ⊥
