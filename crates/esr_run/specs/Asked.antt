-- What the words of the command line ask a run for.
use Rattle.std.specs.Prelude.{ℕ, List, [], ◌∷◌, Option, Some, None, Result, Ok, Err, if◌then◌else◌}
use Rattle.esr_script.specs.declared.item.Item.{Item}
use Rattle.esr_script.specs.declared.item.ScriptLine.{ScriptLine}
use Rattle.esr_script.specs.declared.job.Job.{Job}
use Rattle.esr_script.specs.declared.job.JobWork.{JobWork}
use Rattle.esr_script.specs.declared.job.JobWork.TheVariants as work
use Rattle.esr_script.specs.declared.refusal.WordsRefusal.{WordsRefusal}
use Rattle.esr_run.specs.Script.{is_carried}

-- what is to be carried out, with parts of at most this size
pub data Wanted : Type 0 where
  -- the lines of the script, which is read
  ReadScript : (size : ℕ) → Wanted
  -- this command alone, without a script
  OneCommand : (size : ℕ) (item : Item) → Wanted
  -- a command that can't be carried out
  NoCommand : Wanted
  -- nothing
  NoRun : Wanted

abbrev pub wanted_by : JobWork → ℕ → Wanted
wanted_by work.Run size = ReadScript size
wanted_by (work.Single item) size = if is_carried item then OneCommand size item else NoCommand
wanted_by (work.Generate seed) size = NoRun

-- what the words ask for, by the job that was read of them
abbrev pub wanted_of : Result Job WordsRefusal → Wanted
wanted_of (Ok job) = wanted_by job.work job.options.part_size
wanted_of (Err refusal) = NoRun

-- the greatest size of a part, where something is to be carried out
abbrev pub part_size_of : Wanted → Option ℕ
part_size_of (ReadScript size) = Some size
part_size_of (OneCommand size item) = Some size
part_size_of NoCommand = None
part_size_of NoRun = None

-- the count of workers for which the words ask
abbrev pub workers_of : Result Job WordsRefusal → Option ℕ
workers_of (Ok job) = Some job.options.workers
workers_of (Err refusal) = None

-- a script is to be read
abbrev pub AsksScript : Wanted → Type 0
AsksScript (ReadScript size) = Unit {0}
AsksScript (OneCommand size item) = ⊥
AsksScript NoCommand = ⊥
AsksScript NoRun = ⊥

-- the script of a command alone: its line 1
abbrev pub single_script : Item → List ScriptLine
single_script item = record { number = 1; item = item } ∷ []
