-- Which line of a script asked for the restore of an op.
use Rattle.std.specs.Prelude.{◌≡◌, ◌<◌, ℕ, Bool, true, if◌then◌else◌, List, [], ◌∷◌, ◌++◌}
use Rattle.esr_model.specs.Values.{Bytes, Has, IndexRef}
use Rattle.esr_core.specs.Entry.{Restore, AskStep, Reply, AcceptedRestore, Entry, Moment}
use Rattle.esr_script.specs.declared.item.Item.TheVariants as items
use Rattle.esr_script.specs.declared.item.ScriptLine.{ScriptLine}
use Rattle.esr_script.specs.Kinds.{asks_step}
use Rattle.esr_quiet.specs.Asked.{is_asked, asked_steps}
use Rattle.esr_complete.specs.Lines.{steps_of}

-- the numbers of lines rise
abbrev pub AreNumbered : List ScriptLine → Type 0
AreNumbered [] = Unit {0}
AreNumbered (line ∷ lines) = ((later : ScriptLine) → Has lines later → line.number < later.number) × AreNumbered lines

-- ---- by the history alone

-- what who 0 asked at lines, in order
abbrev pub asked_entries : List Entry → List Entry
asked_entries [] = []
asked_entries (e ∷ es) = if is_asked e then e ∷ asked_entries es else asked_entries es

-- the op of a restore that was accepted, with the number of its line
abbrev pub op_of_reply : ℕ → Reply → List (ℕ × ℕ)
op_of_reply number (AcceptedRestore op uuid indices) = (op, number) ∷ []
op_of_reply number reply = []

-- a line that asks for a step has the first of the entries, and the lines after it have the others
abbrev pub ops_by : ℕ → List Entry → (List Entry → List (ℕ × ℕ)) → List (ℕ × ℕ)
ops_by number [] more = []
ops_by number (e ∷ es) more = op_of_reply number e.reply ++ more es

-- a line that asks for none leaves them to those after it
abbrev pub ops_at : ScriptLine → List Entry → (List Entry → List (ℕ × ℕ)) → Bool → List (ℕ × ℕ)
ops_at line es more asks = if asks then ops_by line.number es more else more es

abbrev pub ops_from : List ScriptLine → List Entry → List (ℕ × ℕ)
ops_from [] es = []
ops_from (line ∷ lines) es = ops_at line es (ops_from lines) (asks_step line.item)

-- the ops of the restores that the lines asked for, each with the number of its line
unfoldable pub ops_of_lines : List ScriptLine → List Entry → List (ℕ × ℕ)
ops_of_lines lines history = ops_from lines (asked_entries history)

-- ---- in the history

-- The line was answered at this point of the history: before it what the lines before ask for was asked, and nothing else.
pub record IsAnsweredAt (moment : ℕ) (lines : List ScriptLine) (log : List Moment) (line : ScriptLine) : Type 0 where
  pub earlier : List ScriptLine
  pub later : List ScriptLine
  pub lines_are : lines ≡ earlier ++ line ∷ later
  pub before : List Moment
  pub answer : Moment
  pub after : List Moment
  pub log_is : log ≡ before ++ answer ∷ after
  pub asked : asked_steps before ≡ steps_of moment earlier
  pub of_line : is_asked answer.entry ≡ true

-- a line asked for a restore, which was accepted
pub record AcceptedLine (moment : ℕ) (lines : List ScriptLine) (log : List Moment) : Type 0 where
  pub line : ScriptLine
  pub name : Bytes
  pub place : Bytes
  pub item_is : line.item ≡ items.Restore name place
  pub at : IsAnsweredAt moment lines log line
  pub step_is : at.answer.entry.step ≡ AskStep (Restore name place)
  pub op : ℕ
  pub uuid : ℕ
  pub indices : List IndexRef
  pub accepted : at.answer.entry.reply ≡ AcceptedRestore op uuid indices
