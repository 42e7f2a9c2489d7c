-- What a shard's unit hands over where it fails.
use Rattle.esr_desk.specs.declared.entry.Why.TheVariants as whys
use Rattle.esr_desk.specs.declared.fault.FailedObject.TheVariants as objects
use Rattle.esr_desk.specs.declared.fault.By.TheVariants as shows
use Rattle.esr_unit.specs.declared.ending.Ending.{Ending}
use Rattle.esr_unit.specs.declared.ending.Ending.TheVariants as endings

-- the shard, where it is the shard that failed
abbrev pub ended_by : {S F H T : Type 0} → H → Ending S F H T → Ending S F H T
ended_by shard endings.Own = endings.Failed whys.Source (shows.Object (objects.Shard shard))
ended_by shard ending = ending
