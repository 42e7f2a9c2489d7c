-- How a run ends early, as the code says it.
use Rattle.std.specs.Prelude.{◌≡◌, ℕ, true, false, List, Option, Some, None, Result, Ok, Err}
use Rattle.esr_model.specs.Values.{Bytes}
use Rattle.esr_depot.specs.Calls.{HasCause}
use Rattle.esr_script.specs.Jobs.{job_of}
use Rattle.esr_script.specs.declared.item.Item.{Item}
use Rattle.esr_script.specs.declared.item.ScriptLine.{ScriptLine}
use Rattle.esr_script.specs.declared.refusal.ScriptRefusal.{ScriptRefusal}
use Rattle.esr_script.specs.declared.refusal.ScriptRefusal.TheVariants.{TooLong}
use Rattle.esr_run.specs.declared.stop.Stop.{Stop}
use Rattle.esr_run.specs.declared.stop.Stop.TheVariants as stops
use Rattle.esr_run.specs.Asked.{Wanted, NoRun, wanted_of}
use Rattle.esr_run.specs.Script.{AreBytes, kept_of, is_carried, first_bad, bad_line}
use Rattle.esr_run.specs.Ends.{RunEnd, BadWords, Unreadable, BadScript, BadLine, OpenFault, Damaged, NoTerm}
use Rattle.esr_run.specs.Causes.{IsStoppedFor}

abbrev pub end_of : Stop → Option RunEnd
end_of stops.Memory = None
end_of stops.BadWords = Some BadWords
end_of stops.Unreadable = Some Unreadable
end_of stops.BadScript = Some BadScript
end_of (stops.BadLine number) = Some (BadLine number)
end_of stops.OpenFault = Some OpenFault
end_of (stops.Damaged name) = Some (Damaged name)
end_of stops.NoTerm = Some NoTerm

-- the words ask for no run
abbrev pub IsNoRun : List Bytes → Stop → Type 0
IsNoRun words stops.Memory = Unit {0}
IsNoRun words stops.BadWords = wanted_of (job_of words) ≡ NoRun
IsNoRun words stops.Unreadable = ⊥
IsNoRun words stops.BadScript = ⊥
IsNoRun words (stops.BadLine number) = ⊥
IsNoRun words stops.OpenFault = ⊥
IsNoRun words (stops.Damaged name) = ⊥
IsNoRun words stops.NoTerm = ⊥

-- the command can't be carried out: it is a bad line 1
abbrev pub IsNoCommand : Item → Stop → Type 0
IsNoCommand item stops.Memory = Unit {0}
IsNoCommand item stops.BadWords = ⊥
IsNoCommand item stops.Unreadable = ⊥
IsNoCommand item stops.BadScript = ⊥
IsNoCommand item (stops.BadLine number) = (is_carried item ≡ false) × (number ≡ 1)
IsNoCommand item stops.OpenFault = ⊥
IsNoCommand item (stops.Damaged name) = ⊥
IsNoCommand item stops.NoTerm = ⊥

-- the script can't be read
abbrev pub IsNoRead : ℕ → ℕ → Stop → Type 0
IsNoRead old new stops.Memory = Unit {0}
IsNoRead old new stops.BadWords = ⊥
IsNoRead old new stops.Unreadable = HasCause old new true
IsNoRead old new stops.BadScript = ⊥
IsNoRead old new (stops.BadLine number) = ⊥
IsNoRead old new stops.OpenFault = ⊥
IsNoRead old new (stops.Damaged name) = ⊥
IsNoRead old new stops.NoTerm = ⊥

-- what was read of the script is bad
abbrev pub IsBadIn : Result (List ScriptLine) ScriptRefusal → Stop → Type 0
IsBadIn read stops.Memory = Unit {0}
IsBadIn read stops.BadWords = ⊥
IsBadIn read stops.Unreadable = ⊥
IsBadIn read stops.BadScript = read ≡ Err TooLong
IsBadIn read (stops.BadLine number) = bad_line read ≡ Some number
IsBadIn read stops.OpenFault = ⊥
IsBadIn read (stops.Damaged name) = ⊥
IsBadIn read stops.NoTerm = ⊥

-- these lines can be carried out
pub record AreGood (read : Result (List ScriptLine) ScriptRefusal) (lines : List ScriptLine) : Type 0 where
  pub read_as : read ≡ Ok lines
  pub good : first_bad lines ≡ None

-- the kept bytes of a script
pub record IsKept (told : Option Bytes) (kept : Bytes) : Type 0 where
  pub bytes : Bytes
  pub bytes_are : AreBytes told bytes
  pub kept_is : kept ≡ kept_of bytes

-- why nothing was begun, if memory wasn't wanting
abbrev pub StoppedBy : Wanted → Option Bytes → ℕ → ℕ → Option RunEnd → Type 0
StoppedBy wanted script old new None = Unit {0}
StoppedBy wanted script old new (Some end) = IsStoppedFor wanted script old new end
