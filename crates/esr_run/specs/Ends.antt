-- How a run ends, what it prints and its exit status.
use Rattle.std.specs.Prelude.{ℕ, List, [], ◌++◌, codes, decimal, Option, Some, None}
use Rattle.esr_model.specs.Values.{Bytes}
use Rattle.esr_core.specs.Entry.{Entry}
use Rattle.esr_script.specs.declared.item.ScriptLine.{ScriptLine}
use Rattle.esr_report.specs.Status.{ending, status_of}
use Rattle.esr_lines.specs.Lines.{report_text}

pub data RunEnd : Type 0 where
  -- the words ask for nothing that can be carried out
  BadWords : RunEnd
  -- a read of the script failed
  Unreadable : RunEnd
  -- the script is too long
  BadScript : RunEnd
  BadLine : (number : ℕ) → RunEnd
  -- a call of the container failed as it was opened, or a read of what it gave
  OpenFault : RunEnd
  -- what stands in the container can't be opened: a blob of this name, or `record`
  Damaged : (name : Bytes) → RunEnd
  -- the last term has come
  NoTerm : RunEnd
  -- the container was opened, and the lines of the script were carried out
  Carried : (script : List ScriptLine) (history : List Entry) → RunEnd

-- what is printed
abbrev pub text_of : RunEnd → Bytes
text_of BadWords = codes "bad words\n"
text_of Unreadable = codes "script unreadable\n"
text_of BadScript = codes "bad script\n"
text_of (BadLine number) = codes "bad line " ++ decimal number ++ codes "\n"
text_of OpenFault = codes "depot fault at opening\n"
text_of (Damaged name) = codes "damaged " ++ name ++ codes "\n"
text_of NoTerm = codes "numbers spent\n"
text_of (Carried script history) = report_text script history

-- the exit status
abbrev pub exit_of : RunEnd → ℕ
exit_of BadWords = 2
exit_of Unreadable = 6
exit_of BadScript = 2
exit_of (BadLine number) = 2
exit_of OpenFault = 3
exit_of (Damaged name) = 4
exit_of NoTerm = 7
exit_of (Carried script history) = status_of (ending script history)

-- how a run ends where memory may be wanting: None, with status 8 and no text

abbrev pub exit_at : Option RunEnd → ℕ
exit_at None = 8
exit_at (Some end) = exit_of end

abbrev pub text_at : Option RunEnd → Bytes
text_at None = []
text_at (Some end) = text_of end
