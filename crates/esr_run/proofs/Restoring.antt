-- The targets that a run leaves.
use Rattle.std.proofs.Common.{◌≡◌, ◌⊎◌, ℕ, ◌^◌, ◌≤◌, ◌++◌, Bool, true, List, [], Some, Result, Ok, Err, IfOk, IsErr, inl, inr, refl, sym, ap, ◌∙◌, subst}
use Rattle.esr_model.specs.Places.{sorted_by}
use Rattle.esr_core.specs.Tracked.{Tracked}
use Rattle.esr_core.specs.ReadTracked.{ReadTracked}
use Rattle.esr_core.specs.Entry.{Step, Entry, Moment}
use Rattle.esr_depot.specs.Look.{Look}
use Rattle.esr_script.specs.Jobs.{job_of}
use Rattle.esr_script.specs.declared.item.ScriptLine.{ScriptLine}
use Rattle.esr_desk.specs.declared.fault.Fault.{Fault}
use Rattle.esr_desk.specs.Start.{Start, Legal}
use Rattle.esr_desk.specs.Once.{AreOnce, NoneTwice, AreRemovedOnce}
use Rattle.esr_desk.specs.Verify.Tested.{AreTested}
use Rattle.esr_opening.specs.Opening.{Kept, IsOpening}
use Rattle.esr_repo.specs.Log.{log_of}
use Rattle.esr_repo.specs.Past.{IsPast}
use Rattle.esr_repo.specs.Calm.{IsCalm}
use Rattle.esr_quiet.specs.Asked.{asked_steps}
use Rattle.esr_desk.specs.Restore.Targets.{AreTargetsOf}
use Rattle.esr_desk.specs.declared.target.RestoredTarget.{RestoredTarget}
use Rattle.esr_complete.specs.Lines.{steps_of, entries_of}
use Rattle.esr_targets.specs.declared.target.Restored.{Restored}
use Rattle.esr_targets.specs.Lines.{AreNumbered, ops_of_lines}
use Rattle.esr_targets.specs.Listed.{target_first, listed}
use Rattle.esr_targets.specs.Targets.{AreTargetsOfLines}
use Rattle.esr_run.specs.Asked.{wanted_of, part_size_of, workers_of}
use Rattle.esr_desk.specs.Evidence.{Evidence}
use Rattle.esr_desk.specs.Shown.{AreShown}
use Rattle.esr_run.specs.Start.{Telling, LegalRun}
use Rattle.esr_run.specs.Laws.{Laws, KeptLaws}
use Rattle.esr_run.specs.Made.{MadeFirst, AskedUnlessStopped}
use Rattle.esr_run.specs.Causes.{Given, IsScript}
use Rattle.esr_run.specs.Restored.{OpensRestored, HasRestored}
use Rattle.esr_run.proofs.Worlds.{start_is}
use Rattle.esr_run.proofs.Ending.{Begun, opened_run}
use Rattle.esr_run.specs.Checked.{asks_check}
use Rattle.esr_run.specs.Verified.{AreWhole}
use Rattle.esr_run.specs.Waits.{AreFew}

-- ---- by lines

-- what the listed targets are, as a law
abbrev pub ByLines : (S F H T : Type 0) → Type 0
ByLines S F H T = (e : Evidence S F H T) (s : Start) (moment : ℕ) (lines : List ScriptLine) (log : List Moment) (rest : List Step) (restored : List (RestoredTarget T)) → Tracked s.world → ReadTracked s.world → Legal s log
    → AreNumbered lines → asked_steps log ++ rest ≡ steps_of moment lines → AreTargetsOf e s log restored
    → AreTargetsOfLines e s moment lines log (sorted_by target_first (listed (ops_of_lines lines (entries_of log)) restored))

module _ {S F H T : Type 0} (law : ByLines S F H T) (evidence : Evidence S F H T) (s : Start) (moment : ℕ) (lines : List ScriptLine) (log same : List Moment)
    (history : List Entry) (tracked : Tracked s.world) (reads : ReadTracked s.world) (legal : Legal s same) (numbered : AreNumbered lines)
    (made : MadeFirst s (steps_of moment lines) [] log) (alone : s.alone ≡ true) (is : same ≡ log) (entries : entries_of same ≡ history) (restored : List (RestoredTarget T)) (of : AreTargetsOf evidence s log restored) where
  by_law : AreTargetsOfLines evidence s moment lines same (sorted_by target_first (listed (ops_of_lines lines history) restored))
  by_law =
      let asked : asked_steps log ≡ made.first = ap asked_steps made.grew.is ∙ made.grew.asked alone in
      let wanted : asked_steps same ++ made.rest ≡ steps_of moment lines = ap (λ (l : List Moment). asked_steps l ++ made.rest) is ∙ ap (λ (l : List Step). l ++ made.rest) asked ∙ made.is in
      subst (λ (es : List Entry). AreTargetsOfLines evidence s moment lines same (sorted_by target_first (listed (ops_of_lines lines es) restored))) entries
      (law evidence s moment lines same made.rest restored tracked reads legal numbered wanted (subst (λ (l : List Moment). AreTargetsOf evidence s l restored) (sym is) of))

  pub by_lines : {E : Type 0} (found : Result (List (Restored T)) E) (targets : List (Restored T)) (status : ℕ)
      → IfOk found (λ ts. ts ≡ sorted_by target_first (listed (ops_of_lines lines history) restored)) → (IsErr found → status ≡ 8) → IfOk found (λ ts. targets ≡ ts)
      → (status ≡ 8) ⊎ AreTargetsOfLines evidence s moment lines same targets
  by_lines (Ok ts) targets status sorted wanting are = inr (subst (AreTargetsOfLines evidence s moment lines same) (sym (are ∙ sorted)) by_law)
  by_lines (Err e) targets status sorted wanting are = inl (wanting refl)

-- ---- from the opening on

pub opens_restored : {S F H T : Type 0} (laws : Laws) (kept : KeptLaws S F H T) (evidence : Evidence S F H T) (files : Telling) (size workers moment : ℕ)
    (lines : List ScriptLine) (quiet : Bool) (before mid after : Look) (k : Kept) (history : List Entry) (faults : List (Fault S F H T)) (targets : List (Restored T)) (status : ℕ)
    (o : IsOpening before mid k) → (2 ^ 62 ≤ before.sure → quiet ≡ true)
    → LegalRun (Begun files size quiet mid k) mid.clock after history → IsPast (Begun files size quiet mid k) mid.clock mid.since after history → AreShown evidence (Begun files size quiet mid k) (log_of after mid.clock history) faults
    → AreOnce (Begun files size quiet mid k) (log_of after mid.clock history) → AreTested (Begun files size quiet mid k) (log_of after mid.clock history) → NoneTwice (log_of after mid.clock history)
    → AreRemovedOnce (log_of after mid.clock history) → IsCalm quiet after.sure history → MadeFirst (Begun files size quiet mid k) (steps_of moment lines) [] (log_of after mid.clock history)
    → AreWhole (Begun files size quiet mid k) workers (asks_check lines) (log_of after mid.clock history) → AreFew workers lines (log_of after mid.clock history)
    → AskedUnlessStopped (Begun files size quiet mid k) [] (log_of after mid.clock history)
    → (status ≡ 8) ⊎ AreTargetsOfLines evidence (Begun files size quiet mid k) moment lines (log_of after mid.clock history) targets
    → OpensRestored evidence files size workers moment lines before after history faults targets status
unfolding opened_run
opens_restored {S} {F} {H} {T} laws kept evidence files size workers moment lines quiet before mid after k history faults targets status o quiet_is legal past shown once tested single removed calm made verified takes apart (inl wanting) = inl wanting
opens_restored {S} {F} {H} {T} laws kept evidence files size workers moment lines quiet before mid after k history faults targets status o quiet_is legal past shown once tested single removed calm made verified takes apart (inr of) =
    inr (inr (
      opened_run laws kept evidence files size workers moment lines quiet before mid after k history faults o quiet_is legal past shown once tested single removed calm made verified takes apart,
      subst (λ (s : Start). AreTargetsOfLines {S = S} {F = F} {H = H} {T = T} evidence s moment lines (log_of after mid.clock history) targets) (start_is files size quiet before mid k o) of,
    ))

-- nothing was carried out
pub none_restored : {S F H T : Type 0} (evidence : Evidence S F H T) (given : Given) (files : Telling) (before after : Look) (history : List Entry) (faults : List (Fault S F H T)) (targets : List (Restored T)) (status : ℕ)
    → history ≡ [] → targets ≡ [] → HasRestored evidence given files before after history faults targets status
none_restored evidence given files before after history faults targets status empty none = inr (inl (empty, none))

pub opens_none : {S F H T : Type 0} (evidence : Evidence S F H T) (files : Telling) (size workers moment : ℕ) (lines : List ScriptLine)
    (before after : Look) (history : List Entry) (faults : List (Fault S F H T)) (targets : List (Restored T)) (status : ℕ)
    → history ≡ [] → targets ≡ [] → OpensRestored evidence files size workers moment lines before after history faults targets status
opens_none evidence files size workers moment lines before after history faults targets status empty none = inr (inl (empty, none))

-- with the words and the script
pub restored_opened : {S F H T : Type 0} (evidence : Evidence S F H T) (given : Given) (files : Telling) (size workers : ℕ)
    (lines : List ScriptLine) (before after : Look) (history : List Entry) (faults : List (Fault S F H T)) (targets : List (Restored T)) (status : ℕ)
    → part_size_of (wanted_of (job_of given.words)) ≡ Some size → workers_of (job_of given.words) ≡ Some workers → IsScript given lines
    → OpensRestored evidence files size workers given.moment lines before after history faults targets status → HasRestored evidence given files before after history faults targets status
restored_opened evidence given files size workers lines before after history faults targets status size_is workers_are is (inl wanting) = inl wanting
restored_opened evidence given files size workers lines before after history faults targets status size_is workers_are is (inr (inl none)) = inr (inl none)
restored_opened evidence given files size workers lines before after history faults targets status size_is workers_are is (inr (inr run)) =
    inr (inr (record { size = size; size_is = size_is; workers = workers; workers_are = workers_are; lines = lines; script = is; run = run.0 }, run.1))

-- printed
pub restored_printed : {S F H T : Type 0} (evidence : Evidence S F H T) (given : Given) (files : Telling) (before after : Look) (history : List Entry) (faults : List (Fault S F H T)) (targets : List (Restored T)) (status wanted : ℕ)
    → HasRestored evidence given files before after history faults targets wanted → (wanted ≡ 8 → status ≡ 8) → HasRestored evidence given files before after history faults targets status
restored_printed evidence given files before after history faults targets status wanted (inl wanting) stays = inl (stays wanting)
restored_printed evidence given files before after history faults targets status wanted (inr done) stays = inr done
