-- Completeness: what a run ends with where nothing fails.
use Rattle.std.specs.Prelude.{◌≡◌, ◌⊎◌, ℕ, suc, ◌+◌, ◌*◌, ◌^◌, ◌<◌, ◌≤◌, true, List, [], ◌++◌, length, Some, Err}
use Rattle.esr_model.specs.Values.{Bytes, Has, Formats}
use Rattle.esr_model.specs.Shelf.{Shelved}
use Rattle.esr_core.specs.World.{World}
use Rattle.esr_core.specs.Entry.{Step, GenerationsSpent, TermsSpent, IdsSpent, Reply, Refused, Entry, Moment}
use Rattle.esr_core.specs.History.{AllKnown}
use Rattle.esr_law.specs.Spent.{generations_in, ids_in}
use Rattle.esr_bounds.specs.Units.{shards_in}
use Rattle.esr_bounds.specs.Work.{work_of, asks_in, elections_in, restores_in}
use Rattle.esr_bounds.specs.Clones.{indices_by, sum_of, most_asked_shards, most_asked_work}
use Rattle.esr_bounds.specs.Clients.{draws_in, looks_in, empty_in}
use Rattle.esr_bounds.specs.Others.{generation_names, lost_in, most_shards, most_of_all}
use Rattle.esr_bounds.specs.Counts.{Counts, shards_of, most_by}
use Rattle.esr_depot.specs.Image.{Image as Held}
use Rattle.esr_depot.specs.Look.{Look, now}
use Rattle.esr_script.specs.declared.item.AskedIndex.{AskedIndex}
use Rattle.esr_script.specs.declared.item.Item.TheVariants as items
use Rattle.esr_script.specs.declared.item.ScriptLine.{ScriptLine}
use Rattle.esr_report.specs.Replies.{replies}
use Rattle.esr_report.specs.Status.{ending, status_of}
use Rattle.esr_desk.specs.Start.{Start}
use Rattle.esr_opening.specs.Found.{LastTerm, found}
use Rattle.esr_repo.specs.Log.{log_of}
use Rattle.esr_quiet.specs.Askers.{AsksOrElects}
use Rattle.esr_complete.specs.Answers.{AreAnswered, EndsWell}
use Rattle.esr_complete.specs.Lines.{steps_of, failovers_of}
use Rattle.esr_run.specs.Start.{Telling, formats_by, start_of}
use Rattle.esr_run.specs.Images.{Holds}
use Rattle.esr_run.specs.Made.{WaitsEnded}
use Rattle.esr_run.specs.Waits.{waits_of}

-- each shard for which the lines ask is there
abbrev pub AreThere : Telling → List ScriptLine → Type 0
AreThere telling lines = (line : ScriptLine) (name : Bytes) (indices : List AskedIndex) (a : AskedIndex) (number : ℕ) → Has lines line → line.item ≡ items.Snapshot name indices → Has indices a → number < a.shards
    → telling.is_there a.place a.name number ≡ Some true

-- some line asks for a restore
abbrev pub AsksRestore : List ScriptLine → Type 0
AsksRestore lines = (line : ScriptLine) × (name : Bytes) × (place : Bytes) × Has lines line × (line.item ≡ items.Restore name place)

-- The container tells its image, which is kept, and it is sure to serve 2^62 calls; the sources are quiet, and each shard for which
-- the lines ask is there; and the targets are quiet, if some line asks for a restore.
pub record IsQuietFor (telling : Telling) (before : Look) (lines : List ScriptLine) : Type 0 where
  pub sure : 2 ^ 62 ≤ before.sure
  pub shelf : List Shelved
  pub holds : Holds (formats_by telling) before shelf
  pub sources : telling.is_quiet ≡ true
  pub there : AreThere telling lines
  pub targets : AsksRestore lines → telling.targets_quiet ≡ true

-- who 0 alone asks for commands, and elects
abbrev pub AreOfClient : List Moment → Type 0
AreOfClient log = (m : Moment) → Has log m → AsksOrElects m.entry.step → m.entry.who ≡ 0

-- what the lines may ask for of the opened world: each step for which a line asks may be a command, a look or a draw of a verification
abbrev pub counts_of : Formats → ℕ → ℕ → ℕ → World → List ScriptLine → Counts
counts_of f size workers moment world lines =
    let steps : List Step = steps_of moment lines in
    record {
      commands = length steps;
      looks = length steps;
      draws = length steps;
      elections = failovers_of lines;
      empty = waits_of workers lines + workers;
      lost = 0;
      asks = length steps;
      restores = length steps * (length (generation_names world.root.indices) + most_asked_shards (length steps) world steps);
      shards = most_asked_shards (length steps) world steps;
      work = most_asked_work f size (suc (failovers_of lines)) (length steps) world steps;
    }

-- How many ids the steps ask for at most, up to one that is refused: each entry for no more than 2 ^ 32 and one for each shard that there
-- may be, and a snapshot besides for one for each of its indices.
abbrev pub most_ids : World → Counts → List Step → ℕ
most_ids world counts steps = suc (most_by world counts) * (2 ^ 32 + shards_of world counts) + sum_of indices_by steps

-- A step was refused since a number was spent: the failovers of the lines take the term of the opened world past the last one; the raises of
-- the history the generation, and so would a raise for each step that the lines may ask for, and the one that is refused; or the history
-- asks for all the ids of a term, and so may the lines.
abbrev pub SpentBy : Formats → ℕ → ℕ → ℕ → World → List ScriptLine → List Moment → Reply → Type 0
SpentBy f size workers moment world lines log (Refused (TermsSpent term)) = 2 ^ 63 ≤ world.term + failovers_of lines
SpentBy f size workers moment world lines log (Refused (GenerationsSpent pending)) =
    (2 ^ 63 ≤ world.pending + generations_in log) × (2 ^ 63 ≤ world.pending + suc (most_by world (counts_of f size workers moment world lines)))
SpentBy f size workers moment world lines log (Refused (IdsSpent next)) = (2 ^ 64 ≤ ids_in log) × (2 ^ 64 ≤ most_ids world (counts_of f size workers moment world lines) (steps_of moment lines))
SpentBy f size workers moment world lines log reply = ⊥

-- What the history asks for up to its first 2 ^ 33 entries makes as many steps, from the opened world on. Up to there commands, looks and
-- draws of verifications are no more than the steps for which the lines ask, elections than their failovers, and takes that found no unit
-- ready than their waits and the end let each worker make; each accepted restore has no more shards than the opened root and what is asked
-- have; each clone has no more shards and indices than the opened root and the snapshots of the lines, so that these bound the shards that are
-- asked for, and the steps of units in so many terms; and each fetch of a restore, a check or a verification found its blob. So the lines and
-- the opened world alone may ask for as many.
pub record AsksMuch (f : Formats) (size workers moment : ℕ) (world : World) (lines : List ScriptLine) (log : List Moment) : Type 0 where
  pub front : List Moment
  pub back : List Moment
  pub is : log ≡ front ++ back
  pub just : length front ≡ 2 ^ 33
  pub own : AreOfClient front
  pub asks : asks_in front + (looks_in front + draws_in front) ≤ length (steps_of moment lines)
  pub elects : elections_in front ≤ failovers_of lines
  pub takes : empty_in front ≤ waits_of workers lines + workers
  pub restores : restores_in front ≤ asks_in front * most_shards world front
  pub shards : shards_in front ≤ most_asked_shards (length (steps_of moment lines)) world (steps_of moment lines)
  pub work : (terms : ℕ) → work_of f size terms front ≤ most_asked_work f size terms (length (steps_of moment lines)) world (steps_of moment lines)
  pub found : lost_in front ≡ 0
  pub much : 2 ^ 33 ≤ most_of_all f size world front
  pub lined : 2 ^ 33 ≤ most_by world (counts_of f size workers moment world lines)

-- A number was spent; or 2 ^ 33 entries were made, for which the history asks, and the run ended neither with 0 nor with 1.
abbrev pub HasSpent : Formats → ℕ → ℕ → ℕ → World → List ScriptLine → List Moment → List Entry → ℕ → Type 0
HasSpent f size workers moment world lines log history status =
    ((m : Moment) × Has log m × SpentBy f size workers moment world lines log m.entry.reply) ⊎ ((2 ^ 33 ≤ length history) × (2 ≤ status) × AsksMuch f size workers moment world lines log)

-- the record has the last term
abbrev pub IsLastTerm : Look → Type 0
IsLastTerm before = (i : Held) × (term : ℕ) × (now before ≡ Some i) × (found i ≡ Err (LastTerm term))

-- Each line is answered well, so that the run ends with 0, or with 1 since a command was refused by a rule; and the work of each
-- wait was done when it ended.
pub record IsAnsweredWell (s : Start) (moment : ℕ) (lines : List ScriptLine) (log : List Moment) (history : List Entry) : Type 0 where
  pub answered : AreAnswered lines (replies lines history)
  pub ends : EndsWell lines history
  pub waits : WaitsEnded s moment lines [] log

-- each line is answered well, unless a number was spent, where the sources tell all files
abbrev pub Completes : Telling → ℕ → ℕ → ℕ → List ScriptLine → Look → World → ℕ → Look → List Entry → ℕ → Type 0
Completes telling size workers moment lines before world clock after history status =
    AllKnown (formats_by telling)
    → HasSpent (formats_by telling) size workers moment world lines (log_of after clock history) history status
    ⊎ (IsAnsweredWell (start_of telling size true before world) moment lines (log_of after clock history) history × (status ≡ status_of (ending lines history)))
