-- How a trouble ends a unit, and what it hands over.
use Rattle.esr_json.specs.declared.refusal.ReadRefusal.{ReadRefusal}
use Rattle.esr_json.specs.declared.refusal.ReadRefusal.TheVariants as reads
use Rattle.esr_names.specs.declared.blob.BlobName.{BlobName}
use Rattle.esr_desk.specs.declared.entry.Why.TheVariants as whys
use Rattle.esr_desk.specs.declared.refusal.StepRefusal.{StepRefusal}
use Rattle.esr_desk.specs.declared.refusal.StepRefusal.TheVariants as steps
use Rattle.esr_desk.specs.declared.refusal.EntryRefusal.TheVariants.{DepotFault, NameTaken, Aborted, IdsSpent, GenerationsSpent, StaleTerm}
use Rattle.esr_desk.specs.declared.fault.FailedObject.TheVariants as objects
use Rattle.esr_desk.specs.declared.fault.By.TheVariants as shows
use Rattle.esr_unit.specs.declared.trouble.Trouble.{Trouble}
use Rattle.esr_unit.specs.declared.trouble.Trouble.TheVariants as troubles
use Rattle.esr_unit.specs.declared.ending.Ending.{Ending}
use Rattle.esr_unit.specs.declared.ending.Ending.TheVariants as endings

-- A step in which the container failed, whose name was taken, whose op was aborted, or for which no id or no generation was left fails
-- the unit; one of an older term ends it; for any other refusal it stops.
abbrev pub ending_at : {S F H T : Type 0} → StepRefusal → Ending S F H T
ending_at (steps.Refused DepotFault) = endings.Failed whys.Depot shows.Entry
ending_at (steps.Refused (NameTaken name)) = endings.Failed (whys.NameTaken name) shows.Entry
ending_at (steps.Refused (Aborted op)) = endings.Failed (whys.Aborted op) shows.Entry
ending_at (steps.Refused (IdsSpent next)) = endings.Failed (whys.IdsSpent next) shows.Entry
ending_at (steps.Refused (GenerationsSpent number)) = endings.Failed (whys.GenerationsSpent number) shows.Entry
ending_at (steps.Refused (StaleTerm own now)) = endings.Stale
ending_at refusal = endings.Stopped refusal

-- how a trouble ends it, with the object that failed
abbrev pub ending_by : {S F H T : Type 0} → Trouble S F → Ending S F H T
ending_by (troubles.Step refusal) = ending_at refusal
ending_by (troubles.Stage stage) = endings.Failed whys.Depot (shows.Object (objects.Stage stage))
ending_by (troubles.Fetch fetch) = endings.Failed whys.Depot (shows.Object (objects.Fetch fetch))
ending_by troubles.Own = endings.Own
ending_by (troubles.Found why) = endings.Failed why shows.Nothing

-- what a text of this name that wasn't read shows
abbrev pub unread_as : {S F : Type 0} → BlobName → ReadRefusal → Trouble S F
unread_as name reads.Memory = troubles.Step steps.Memory
unread_as name (reads.Damaged reason) = troubles.Found (whys.Unreadable name reason)
