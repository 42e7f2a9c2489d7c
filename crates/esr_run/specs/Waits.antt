-- How often the lines of a script let takes find no unit ready, and how many elections their waits make.
use Rattle.std.specs.Prelude.{◌≡◌, ℕ, suc, ◌+◌, ◌≤◌, List, [], ◌∷◌, Result}
use Rattle.esr_core.specs.Entry.{Moment}
use Rattle.esr_script.specs.declared.item.Item.{Item}
use Rattle.esr_script.specs.declared.item.Kind.TheVariants as kinds
use Rattle.esr_script.specs.declared.item.ScriptLine.{ScriptLine}
use Rattle.esr_script.specs.Kinds.{kind_of}
use Rattle.esr_desk.specs.declared.refusal.StepRefusal.{StepRefusal}
use Rattle.esr_drive.specs.Takes.{idle_takes}
use Rattle.esr_drive.specs.Elections.{elections, HasElected}
use Rattle.esr_complete.specs.Lines.{failovers_of}

-- how many takes a line lets find no unit ready: a wait one for each worker
abbrev pub waits_in : ℕ → Item → ℕ
waits_in workers item = elim (kind_of item) [ kinds.Wait ↦ workers | kind ↦ 0 ]

abbrev pub waits_of : ℕ → List ScriptLine → ℕ
waits_of workers [] = 0
waits_of workers (line ∷ lines) = waits_in workers line.item + waits_of workers lines

-- how many elections the next wait makes after a line, by how many it would have made before it
abbrev pub owed_after : Item → ℕ → ℕ
owed_after item owed = elim (kind_of item) [ kinds.Failover ↦ suc owed | kinds.Wait ↦ 0 | kind ↦ owed ]

-- how many elections the wait after these lines makes, where so many were owed before them
abbrev pub owed_then : ℕ → List ScriptLine → ℕ
owed_then owed [] = owed
owed_then owed (line ∷ lines) = owed_then (owed_after line.item owed) lines

-- a wait makes the elections that are owed, another line none
abbrev pub LineElected : ℕ → Item → List Moment → List Moment → Type 0
LineElected owed item old new = elim (kind_of item) [ kinds.Wait ↦ elections new ≡ elections old + owed | kind ↦ elections new ≡ elections old ]

-- what a line elects by its answer: a wait as often as it owes, another never
abbrev pub LineElects : {X : Type 0} → ℕ → Item → List Moment → List Moment → Result X StepRefusal → Type 0
LineElects owed item old new r = elim (kind_of item) [ kinds.Wait ↦ HasElected owed old new r | kind ↦ elections new ≡ elections old ]

-- Takes found no unit ready at most once for each worker in each wait, and at the end; and at most as many elections were made as the
-- lines ask for.
pub record AreFew (workers : ℕ) (lines : List ScriptLine) (log : List Moment) : Type 0 where
  pub takes : idle_takes log ≤ waits_of workers lines + workers
  pub elects : elections log ≤ failovers_of lines
