-- What the lines of a script ask for.
use Rattle.std.specs.Prelude.{ℕ, suc, ◌+◌, if◌then◌else◌, List, [], ◌∷◌, ◌++◌, map, Option, Some, None, option_to_list}
use Rattle.esr_model.specs.Values.{Bytes}
use Rattle.esr_core.specs.Entry.{AskedIndex, Asked, Snapshot, Clone, DeleteSnapshots, Restore, Cleanup, DrawTest, Step, AskStep, LookStep, ReadStep, Entry, Moment}
use Rattle.esr_script.specs.declared.item.AskedIndex.{AskedIndex as LineIndex}
use Rattle.esr_script.specs.declared.item.Item.{Item}
use Rattle.esr_script.specs.declared.item.Item.TheVariants as items
use Rattle.esr_script.specs.declared.item.Kind.TheVariants as kinds
use Rattle.esr_script.specs.declared.item.ScriptLine.{ScriptLine}
use Rattle.esr_script.specs.Kinds.{kind_of}
use Rattle.esr_report.specs.Replies.{is_election}

abbrev pub index_of_line : LineIndex → AskedIndex
index_of_line a = record { name = a.name; shards = a.shards; place = a.place }

-- the command of a line that asks for a snapshot of this moment
abbrev pub command_of_line : Bytes → List LineIndex → ℕ → Asked
command_of_line name indices moment = Snapshot name (map index_of_line indices) moment

-- the step that a line asks for: a check begins with its look, a verification with its draw; what a clone takes its entry alone
-- tells; a wait asks for none, nor does a failover, which is made in the next wait
abbrev pub step_of_item : ℕ → Item → Option Step
step_of_item moment (items.Snapshot name indices) = Some (AskStep (command_of_line name indices moment))
step_of_item moment (items.Clone source name indices) = Some (AskStep (Clone source name indices moment None))
step_of_item moment (items.Delete names) = Some (AskStep (DeleteSnapshots names))
step_of_item moment (items.Restore name place) = Some (AskStep (Restore name place))
step_of_item moment items.Cleanup = Some (AskStep Cleanup)
step_of_item moment items.List = Some LookStep
step_of_item moment items.Check = Some LookStep
step_of_item moment items.Verify = Some (ReadStep DrawTest)
step_of_item moment items.Failover = None
step_of_item moment items.Wait = None

abbrev pub steps_of_item : ℕ → Item → List Step
steps_of_item moment item = option_to_list (step_of_item moment item)

-- the steps that lines ask for, in order
abbrev pub steps_of : ℕ → List ScriptLine → List Step
steps_of moment [] = []
steps_of moment (line ∷ lines) = steps_of_item moment line.item ++ steps_of moment lines

-- whether a line asks for an election: 1, or 0
abbrev pub failovers_in : Item → ℕ
failovers_in item = elim (kind_of item) [ kinds.Failover ↦ 1 | kind ↦ 0 ]

abbrev pub failovers_of : List ScriptLine → ℕ
failovers_of [] = 0
failovers_of (line ∷ lines) = failovers_in line.item + failovers_of lines

-- the entries of a history
abbrev pub entries_of : List Moment → List Entry
entries_of log = map (λ (m : Moment). m.entry) log

-- how many elections these tell
abbrev pub elections_of : List Entry → ℕ
elections_of [] = 0
elections_of (e ∷ es) = if is_election e then suc (elections_of es) else elections_of es
