-- How lines are answered where nothing fails.
use Rattle.std.specs.Prelude.{◌≡◌, ◌⊎◌, ℕ, false, List, [], ◌∷◌, ◌++◌}
use Rattle.esr_model.specs.Values.{Bytes, Has}
use Rattle.esr_core.specs.Ready.{AnyReady}
use Rattle.esr_core.specs.Entry.{Refusal, CleanupRunning, Entry, Moment}
use Rattle.esr_script.specs.declared.item.Item.{Item}
use Rattle.esr_script.specs.declared.item.Item.TheVariants as items
use Rattle.esr_script.specs.declared.item.ScriptLine.{ScriptLine}
use Rattle.esr_report.specs.Replies.{Reply, Made, Deleted, Restored, Cleaned, Term, Waited, Listed, Checked, Verified, Refused, Aborted}
use Rattle.esr_report.specs.Status.{ending, AllOk, SomeRefused}
use Rattle.esr_desk.specs.Start.{Start, world_of}
use Rattle.esr_desk.specs.Grew.{NoneOut}
use Rattle.esr_desk.specs.Own.{reader_of}
use Rattle.esr_core.specs.Refusing.{RefusesSnapshot, RefusesRestore, RefusesClone, RefusesDelete, RefusesCleanup}

-- no ticket of a restore is out
abbrev pub NoReaderOut : Start → List Moment → Type 0
NoReaderOut s log = (k : ℕ) → (reader_of s log k).out ≡ false

-- no unit is ready, and none is out
pub record IsIdle (s : Start) (log : List Moment) : Type 0 where
  pub none_out : NoneOut s log
  pub no_reader : NoReaderOut s log
  pub none_ready : AnyReady (world_of s log) → ⊥

-- some line of the script asks for a delete that names this
abbrev pub IsDeletedBy : List ScriptLine → Bytes → Type 0
IsDeletedBy script name = (line : ScriptLine) × (names : List Bytes) × Has script line × (line.item ≡ items.Delete names) × Has names name

-- a cleanup runs only where one of the lines before asks for one
abbrev pub IsCleaningBy : List ScriptLine → Refusal → Type 0
IsCleaningBy before (CleanupRunning op) = (line : ScriptLine) × Has before line × (line.item ≡ items.Cleanup)
IsCleaningBy before refusal = Unit {0}

-- The answer of a line of the script, after these of its lines: a snapshot or a clone was made, or aborted by a delete for which the
-- script asks, or snapshots were deleted, or a restore has restored each shard, or a cleanup came to its end, or a rule refused it; a
-- failover began a term; the safe root was checked; the container was verified.
abbrev pub IsAnswer : List ScriptLine → List ScriptLine → Item → Reply → Type 0
IsAnswer script before (items.Snapshot name indices) (Made uuid) = Unit {0}
IsAnswer script before (items.Snapshot name indices) (Aborted by) = IsDeletedBy script name
IsAnswer script before (items.Snapshot name indices) (Refused refusal) = RefusesSnapshot refusal × IsCleaningBy before refusal
IsAnswer script before (items.Clone source name indices) (Made uuid) = Unit {0}
IsAnswer script before (items.Clone source name indices) (Aborted by) = IsDeletedBy script name
IsAnswer script before (items.Clone source name indices) (Refused refusal) = RefusesClone refusal × IsCleaningBy before refusal
IsAnswer script before (items.Delete names) (Deleted op) = Unit {0}
IsAnswer script before (items.Delete names) (Refused refusal) = RefusesDelete refusal × IsCleaningBy before refusal
IsAnswer script before (items.Restore name place) (Restored files bytes) = Unit {0}
IsAnswer script before (items.Restore name place) (Refused refusal) = RefusesRestore refusal
IsAnswer script before items.Cleanup (Cleaned blobs bytes) = Unit {0}
IsAnswer script before items.Cleanup (Refused refusal) = RefusesCleanup refusal × IsCleaningBy before refusal
IsAnswer script before items.Failover (Term term) = Unit {0}
IsAnswer script before items.Wait Waited = Unit {0}
IsAnswer script before items.List (Listed snapshots) = Unit {0}
IsAnswer script before items.Check (Checked snapshots blobs) = Unit {0}
IsAnswer script before items.Verify Verified = Unit {0}
IsAnswer script before item reply = ⊥

-- each line of the script after these is answered so
abbrev pub AreAnsweredIn : List ScriptLine → List ScriptLine → List ScriptLine → List Reply → Type 0
AreAnsweredIn script before [] [] = Unit {0}
AreAnsweredIn script before (line ∷ lines) (reply ∷ replies) = IsAnswer script before line.item reply × AreAnsweredIn script (before ++ line ∷ []) lines replies
AreAnsweredIn script before lines replies = ⊥

abbrev pub AreAnswered : List ScriptLine → List Reply → Type 0
AreAnswered lines replies = AreAnsweredIn lines [] lines replies

-- the run ends with 0, or with 1 since a command was refused
abbrev pub EndsWell : List ScriptLine → List Entry → Type 0
EndsWell lines history = (ending lines history ≡ AllOk) ⊎ (ending lines history ≡ SomeRefused)
