-- How a run ends.
use Rattle.std.proofs.Common.{◌≡◌, ◌⊎◌, ℕ, suc, ◌<◌, ◌≤◌, ◌^◌, Bool, true, List, [], ◌∷◌, ◌++◌, Option, Some, None, inl, inr, arith, refl, sym, ap, ◌∙◌, subst}
use Rattle.esr_model.specs.Values.{Bytes}
use Rattle.esr_core.specs.Entry.{Step, Entry, Moment}
use Rattle.esr_depot.specs.Image.{Image as Held}
use Rattle.esr_depot.specs.Look.{Look, now}
use Rattle.esr_depot.specs.Calls.{HasCause, Stays}
use Rattle.esr_formats.specs.Clusters.{cluster_of}
use Rattle.esr_formats.specs.Roots.{root_of}
use Rattle.esr_desk.specs.Start.{Start}
use Rattle.esr_desk.specs.Once.{AreOnce, NoneTwice, AreRemovedOnce}
use Rattle.esr_desk.specs.Verify.Tested.{AreTested}
use Rattle.esr_repo.specs.Calm.{IsCalm}
use Rattle.esr_quiet.specs.Asked.{asked_steps}
use Rattle.esr_complete.specs.Lines.{steps_of}
use Rattle.esr_report.specs.Status.{Ending, AllOk, ending, status_of}
use Rattle.esr_run.specs.Checked.{asks_check}
use Rattle.esr_run.specs.Verified.{AreWhole}
use Rattle.esr_run.specs.Waits.{AreFew}
use Rattle.esr_run.specs.Made.{MadeFirst, HasFallen, AreDone, AskedUnlessStopped}
use Rattle.std.specs.Io.KnownBytes.{Appends}
use Rattle.esr_opening.specs.Opening.{Kept, known_blobs, world_in, IsFault, IsOpening, IsOpenRefused}
use Rattle.esr_opening.specs.declared.refusal.OpenRefusal.{OpenRefusal}
use Rattle.esr_opening.specs.declared.refusal.OpenRefusal.TheVariants as refusals
use Rattle.esr_repo.specs.Past.{IsPast}
use Rattle.esr_script.specs.Jobs.{job_of}
use Rattle.esr_script.specs.declared.item.ScriptLine.{ScriptLine}
use Rattle.esr_desk.specs.declared.fault.Fault.{Fault}
use Rattle.esr_desk.specs.Evidence.{Evidence}
use Rattle.esr_desk.specs.Shown.{AreShown}
use Rattle.esr_repo.specs.Log.{image_at, log_of}
use Rattle.esr_run.specs.Asked.{wanted_of, part_size_of, workers_of}
use Rattle.esr_run.specs.Ends.{RunEnd, BadWords, Unreadable, BadScript, BadLine, OpenFault, Damaged, NoTerm, Carried, exit_of, text_of}
use Rattle.esr_run.specs.Faults.{listed, fetch_of, HasFetch}
use Rattle.esr_run.specs.Start.{Telling, formats_by, start_of, LegalRun}
use Rattle.esr_run.specs.Laws.{Laws, KeptLaws}
use Rattle.esr_run.specs.Stops.{StoppedBy}
use Rattle.esr_run.specs.Causes.{Given, IsScript, IsOpenedRun, IsUntouched, IsUnopened, IsRunOf, IsCauseOf, IsOpenCause, IsTextOf, IsVerdict, IsTold, exit_unprinted, IsPrinted, IsEndOf, end_of_refusal}
use Rattle.esr_run.specs.Worlds.{begun_world}
use Rattle.esr_run.proofs.Worlds.{start_is}
use Rattle.esr_run.proofs.Keeping.{untouched_kept, refused_kept, every_image_kept, every_image_whole, snapshots_of_sources, end_kept, answers_stay}
use Rattle.esr_run.proofs.Dooms.{untouched_tidy, refused_tidy, every_image_tidy, end_tidy, each_dooms_exactly}
use Rattle.esr_run.proofs.Cleanups.{cleanups_leave_reach}
use Rattle.esr_run.proofs.Told.{stays_told}
use Rattle.esr_run.proofs.Sourceless.{needs_no_source}
use Rattle.esr_run.proofs.Undamaged.{stays_undamaged}
use Rattle.esr_run.proofs.Completing.{entries_are}
use Rattle.esr_run.proofs.Leaving.{worked_or_left}

-- ---- what became of the container

stays : (l : Look) → Stays l l
stays l = record { clock = refl; at = λ k. refl; since = λ t i left. left; sure = refl }

pub untouched : {S F H T : Type 0} (files : Telling) (before after : Look) (history : List Entry) (faults : List (Fault S F H T))
    → after ≡ before → ((i : Held) → before.since before.clock i → now before ≡ Some i) → history ≡ [] → faults ≡ [] → IsUntouched files before after history faults
untouched files before after history faults same only empty none =
    subst (λ (l : Look). IsUntouched files before l history faults) (sym same)
    (record { stays = stays before; every_image = untouched_kept (formats_by files) before only; tidy = untouched_tidy (formats_by files) before only; empty = empty; none = none })

-- the container is handed on
pub refused_at : {F : Type 0} (count : F → ℕ) (before mid after : Look) (old_faults mid_faults new_faults : ℕ) (refusal : OpenRefusal F) → after ≡ mid → new_faults ≡ mid_faults
    → IsOpenRefused count before mid old_faults mid_faults refusal → IsOpenRefused count before after old_faults new_faults refusal
refused_at count before mid after old_faults mid_faults new_faults refusal same faults refused =
    subst (λ (l : Look). IsOpenRefused count before l old_faults new_faults refusal) (sym same) (subst (λ (n : ℕ). IsOpenRefused count before mid old_faults n refusal) (sym faults) refused)

pub unopened : {S F H T : Type 0} (laws : Laws) (evidence : Evidence S F H T) (files : Telling) (before after : Look) (old_faults new_faults : ℕ) (history : List Entry) (faults : List (Fault S F H T)) (refusal : OpenRefusal F)
    → IsOpenRefused evidence.fetch_faults before after old_faults new_faults refusal → history ≡ [] → faults ≡ listed (fetch_of refusal) → IsUnopened evidence files before after old_faults new_faults history faults
unopened laws evidence files before after old_faults new_faults history faults refusal refused empty are =
    record {
      refusal = refusal;
      refused = refused;
      every_image = refused_kept laws files evidence.fetch_faults before after old_faults new_faults refusal refused;
      tidy = refused_tidy files evidence.fetch_faults before after old_faults new_faults refusal refused;
      empty = empty;
      faults_are = are;
    }

-- what is told of the history by the container alone, as the run tells it
abbrev pub Begun : Telling → ℕ → Bool → Look → Kept → Start
Begun files size quiet mid k = start_of files size quiet mid (begun_world (now mid) (cluster_of k.cluster) (root_of k.root) k.plan)

unfoldable pub opened_run : {S F H T : Type 0} (laws : Laws) (kept : KeptLaws S F H T) (evidence : Evidence S F H T) (files : Telling) (size workers moment : ℕ) (lines : List ScriptLine)
    (quiet : Bool) (before mid after : Look) (k : Kept) (history : List Entry) (faults : List (Fault S F H T)) → IsOpening before mid k → (2 ^ 62 ≤ before.sure → quiet ≡ true)
    → LegalRun (Begun files size quiet mid k) mid.clock after history → IsPast (Begun files size quiet mid k) mid.clock mid.since after history → AreShown evidence (Begun files size quiet mid k) (log_of after mid.clock history) faults
    → AreOnce (Begun files size quiet mid k) (log_of after mid.clock history) → AreTested (Begun files size quiet mid k) (log_of after mid.clock history) → NoneTwice (log_of after mid.clock history)
    → AreRemovedOnce (log_of after mid.clock history) → IsCalm quiet after.sure history → MadeFirst (Begun files size quiet mid k) (steps_of moment lines) [] (log_of after mid.clock history)
    → AreWhole (Begun files size quiet mid k) workers (asks_check lines) (log_of after mid.clock history) → AreFew workers lines (log_of after mid.clock history)
    → AskedUnlessStopped (Begun files size quiet mid k) [] (log_of after mid.clock history)
    → IsOpenedRun evidence files size workers moment lines before after history faults
opened_run {S} {F} {H} {T} laws kept evidence files size workers moment lines quiet before mid after k history faults o quiet_is legal past shown once tested single removed calm made verified takes apart =
    let is = start_is files size quiet before mid k o in
    let run = subst (λ (s : Start). LegalRun s mid.clock after history) is legal in
    let was = subst (λ (s : Start). IsPast s mid.clock mid.since after history) is past in
    let seen = subst (λ (s : Start). AreShown {S = S} {F = F} {H = H} {T = T} evidence s (log_of after mid.clock history) faults) is shown in
    let asked : asked_steps (log_of after mid.clock history) ++ made.rest ≡ steps_of moment lines = ap (λ (l : List Step). l ++ made.rest) (ap asked_steps made.grew.is ∙ made.grew.asked refl) ∙ made.is in
    record {
      world = _;
      clock = mid.clock;
      quiet = quiet;
      quiet_is = quiet_is;
      later = o.left.later;
      opened = λ i e. o.opens i _ _ e;
      cluster = o.cluster;
      root = o.root;
      world_is = refl;
      finds = o.finds;
      calls = o.calls;
      order = o.order;
      legal = run;
      told = stays_told files size quiet before after _ mid.clock mid.since history run was;
      every_image = every_image_kept laws files size quiet before mid after k history o run was;
      whole = every_image_whole laws files size quiet before mid after k history o run was;
      end_kept = end_kept laws files size quiet before mid after k history o run was;
      sourced = snapshots_of_sources laws files size quiet before mid after k history o run was;
      sourceless = needs_no_source laws (formats_by files) size moment lines made.rest (known_blobs (now before)) (cluster_of o.cluster) (root_of o.root) (log_of after mid.clock history) o.order.tracked run.legal asked;
      answered = answers_stay laws files size quiet before mid after k history o run was;
      tidy = every_image_tidy laws files size quiet before mid after k history o run was;
      end_tidy = end_tidy laws files size quiet before mid after k history o run was;
      dooms = each_dooms_exactly laws files size quiet before mid after k history o run was;
      cleaned = cleanups_leave_reach laws files size quiet before mid after k history o run was;
      undamaged = stays_undamaged kept evidence files size quiet before after (world_in (now before) o.cluster o.root) mid.clock history faults (λ i e. o.opens i _ _ e) run.legal
          (stays_told files size quiet before after _ mid.clock mid.since history run was) seen single;
      shown = seen;
      once = subst (λ (s : Start). AreOnce s (log_of after mid.clock history)) is once;
      tested = subst (λ (s : Start). AreTested s (log_of after mid.clock history)) is tested;
      single = single;
      removed = removed;
      calm = calm;
      verified = subst (λ (s : Start). AreWhole s workers (asks_check lines) (log_of after mid.clock history)) is verified;
      few = takes;
      apart = subst (λ (s : Start). AskedUnlessStopped s [] (log_of after mid.clock history)) is apart;
      asked = (made.rest, asked);
    }

-- ---- verdicts

not_wanting : (e : Ending) → status_of e ≡ 8 → ⊥
not_wanting AllOk is = cc
not_wanting e is = cc

pub verdict_opening : {S F H T : Type 0} (laws : Laws) (kept : KeptLaws S F H T) (evidence : Evidence S F H T) (files : Telling) (size workers moment : ℕ)
    (lines : List ScriptLine) (quiet : Bool) (before mid after : Look) (k : Kept) (history : List Entry) (faults : List (Fault S F H T))
    (old_faults new_faults status : ℕ) (text : Bytes) → IsOpening before mid k → (2 ^ 62 ≤ before.sure → quiet ≡ true)
    → LegalRun (Begun files size quiet mid k) mid.clock after history → IsPast (Begun files size quiet mid k) mid.clock mid.since after history → AreShown evidence (Begun files size quiet mid k) (log_of after mid.clock history) faults
    → AreOnce (Begun files size quiet mid k) (log_of after mid.clock history) → AreTested (Begun files size quiet mid k) (log_of after mid.clock history) → NoneTwice (log_of after mid.clock history)
    → AreRemovedOnce (log_of after mid.clock history) → IsCalm quiet after.sure history → MadeFirst (Begun files size quiet mid k) (steps_of moment lines) [] (log_of after mid.clock history)
    → AreWhole (Begun files size quiet mid k) workers (asks_check lines) (log_of after mid.clock history) → AreFew workers lines (log_of after mid.clock history)
    → AskedUnlessStopped (Begun files size quiet mid k) [] (log_of after mid.clock history)
    → IsTold status text (Some (Carried lines history))
    → (status ≡ 8) ⊎ (AreDone (Begun files size quiet mid k) moment lines [] (log_of after mid.clock history) ⊎ HasFallen (Begun files size quiet mid k) moment lines [] (log_of after mid.clock history))
    → IsVerdict status text (IsOpenCause evidence files size workers moment before after old_faults new_faults lines history faults)
unfolding opened_run
verdict_opening laws kept evidence files size workers moment lines quiet before mid after k history faults old_faults new_faults status text o quiet_is legal past shown once tested single removed calm made verified takes apart (inl wanting) done =
    inl wanting
verdict_opening laws kept evidence files size workers moment lines quiet before mid after k history faults old_faults new_faults
    status text o quiet_is legal past shown once tested single removed calm made verified takes apart (inr told) (inl wanting) =
    absurd (not_wanting (ending lines history) (sym told.0 ∙ wanting))
verdict_opening laws kept evidence files size workers moment lines quiet before mid after k history faults old_faults new_faults status text o quiet_is legal past shown once tested single removed calm made verified takes apart (inr told) (inr done) =
    inr (record {
      end = Carried lines history;
      status_is = told.0;
      text_is = told.1;
      cause = (
        refl,
        refl,
        (
          opened_run laws kept evidence files size workers moment lines quiet before mid after k history faults o quiet_is legal past shown once tested single removed calm made verified takes apart,
          worked_or_left (start_of files size quiet before (world_in (now before) o.cluster o.root)) moment lines (log_of after mid.clock history) history (entries_are (image_at after) mid.clock history)
              (subst (λ (s : Start). AreDone s moment lines [] (log_of after mid.clock history) ⊎ HasFallen s moment lines [] (log_of after mid.clock history)) (start_is files size quiet before mid k o) done),
        ),
      );
    })

told_end : (status : ℕ) (text : Bytes) (Cause : RunEnd → Type 0) (end : RunEnd) → IsTold status text (Some end) → Cause end → IsVerdict status text Cause
told_end status text Cause end (inl wanting) cause = inl wanting
told_end status text Cause end (inr told) cause = inr (record { end = end; status_is = told.0; text_is = told.1; cause = cause })

told_none : (status : ℕ) (text : Bytes) (Cause : RunEnd → Type 0) → IsTold status text None → IsVerdict status text Cause
told_none status text Cause (inl wanting) = inl wanting
told_none status text Cause (inr told) = inl told

-- the fetch of the opening is listed
has_fetch : {S F H T : Type 0} (evidence : Evidence S F H T) (faults : List (Fault S F H T)) (old_faults new_faults : ℕ) (fetch : Option F) → faults ≡ listed fetch → IsFault evidence.fetch_faults old_faults new_faults fetch
    → HasCause old_faults new_faults true ⊎ HasFetch evidence.fetch_faults faults
has_fetch evidence faults old_faults new_faults fetch are (inl cause) = inl cause
has_fetch evidence faults old_faults new_faults None are (inr failed) = absurd failed
has_fetch evidence faults old_faults new_faults (Some fetch) are (inr failed) = inr (subst (λ fs. HasFetch evidence.fetch_faults fs) (sym are) (record { fetch = fetch; listed_so = inl refl; failed = failed }))

pub verdict_refused : {S F H T : Type 0} (status : ℕ) (text : Bytes) (evidence : Evidence S F H T) (files : Telling) (size workers moment : ℕ)
    (before after : Look) (old_faults new_faults : ℕ) (lines : List ScriptLine) (history : List Entry) (faults : List (Fault S F H T))
    (refusal : OpenRefusal F) → IsTold status text (end_of_refusal refusal) → IsOpenRefused evidence.fetch_faults before after old_faults new_faults refusal → history ≡ [] → faults ≡ listed (fetch_of refusal)
    → IsVerdict status text (IsOpenCause evidence files size workers moment before after old_faults new_faults lines history faults)
verdict_refused status text evidence files size workers moment before after old_faults new_faults lines history faults refusals.Memory told refused empty are =
    told_none status text (IsOpenCause evidence files size workers moment before after old_faults new_faults lines history faults) told
verdict_refused status text evidence files size workers moment before after old_faults new_faults lines history faults (refusals.DepotFault fetch) told refused empty are =
    told_end status text (IsOpenCause evidence files size workers moment before after old_faults new_faults lines history faults) OpenFault told
    (empty, record { fetch = fetch; refused = refused; shown = has_fetch evidence faults old_faults new_faults fetch are refused.0 })
verdict_refused status text evidence files size workers moment before after old_faults new_faults lines history faults (refusals.Damaged name why) told refused empty are =
    told_end status text (IsOpenCause evidence files size workers moment before after old_faults new_faults lines history faults) (Damaged name) told (empty, (why, refused))
verdict_refused status text evidence files size workers moment before after old_faults new_faults lines history faults (refusals.TermsSpent term) told refused empty are =
    told_end status text (IsOpenCause evidence files size workers moment before after old_faults new_faults lines history faults) NoTerm told (empty, (term, refused))

pub verdict_stopped : {S F H T : Type 0} (status : ℕ) (text : Bytes) (evidence : Evidence S F H T) (given : Given) (files : Telling)
    (reader : ℕ) (before after : Look) (old_faults new_faults : ℕ) (history : List Entry) (faults : List (Fault S F H T)) (end : Option RunEnd)
    → IsTold status text end → StoppedBy (wanted_of (job_of given.words)) given.script given.faults reader end → IsUntouched files before after history faults
    → IsVerdict status text (IsCauseOf evidence given files reader before after old_faults new_faults history faults)
verdict_stopped status text evidence given files reader before after old_faults new_faults history faults None told stop un = told_none status text (IsCauseOf evidence given files reader before after old_faults new_faults history faults) told
verdict_stopped status text evidence given files reader before after old_faults new_faults history faults (Some BadWords) told stop un =
    told_end status text (IsCauseOf evidence given files reader before after old_faults new_faults history faults) BadWords told (un, stop)
verdict_stopped status text evidence given files reader before after old_faults new_faults history faults (Some Unreadable) told stop un =
    told_end status text (IsCauseOf evidence given files reader before after old_faults new_faults history faults) Unreadable told (un, stop)
verdict_stopped status text evidence given files reader before after old_faults new_faults history faults (Some BadScript) told stop un =
    told_end status text (IsCauseOf evidence given files reader before after old_faults new_faults history faults) BadScript told (un, stop)
verdict_stopped status text evidence given files reader before after old_faults new_faults history faults (Some (BadLine number)) told stop un =
    told_end status text (IsCauseOf evidence given files reader before after old_faults new_faults history faults) (BadLine number) told (un, stop)
verdict_stopped status text evidence given files reader before after old_faults new_faults history faults end told stop un = absurd stop

-- from the opening on, with the words and the script
with_script : {S F H T : Type 0} (evidence : Evidence S F H T) (given : Given) (files : Telling) (reader size workers : ℕ) (before after : Look)
    (old_faults new_faults : ℕ) (lines : List ScriptLine) (history : List Entry) (faults : List (Fault S F H T)) (end : RunEnd)
    → part_size_of (wanted_of (job_of given.words)) ≡ Some size → workers_of (job_of given.words) ≡ Some workers → IsScript given lines
    → IsOpenCause evidence files size workers given.moment before after old_faults new_faults lines history faults end → IsCauseOf evidence given files reader before after old_faults new_faults history faults end
with_script evidence given files reader size workers before after old_faults new_faults lines history faults (Carried script entries) size_is workers_are is cause =
    (cause.1, (record { size = size; size_is = size_is; workers = workers; workers_are = workers_are; lines = lines; script = is; run = cause.2.0 }, sym cause.0, cause.2.1))
with_script evidence given files reader size workers before after old_faults new_faults lines history faults OpenFault size_is workers_are is cause = ((lines, is), cause)
with_script evidence given files reader size workers before after old_faults new_faults lines history faults (Damaged name) size_is workers_are is cause = ((lines, is), cause)
with_script evidence given files reader size workers before after old_faults new_faults lines history faults NoTerm size_is workers_are is cause = ((lines, is), cause)
with_script evidence given files reader size workers before after old_faults new_faults lines history faults end size_is workers_are is cause = absurd cause

pub verdict_opened : {S F H T : Type 0} (status : ℕ) (text : Bytes) (evidence : Evidence S F H T) (given : Given) (files : Telling)
    (reader size workers : ℕ) (before after : Look) (old_faults new_faults : ℕ) (lines : List ScriptLine) (history : List Entry) (faults : List (Fault S F H T))
    → part_size_of (wanted_of (job_of given.words)) ≡ Some size → workers_of (job_of given.words) ≡ Some workers → IsScript given lines
    → IsVerdict status text (IsOpenCause evidence files size workers given.moment before after old_faults new_faults lines history faults)
    → IsVerdict status text (IsCauseOf evidence given files reader before after old_faults new_faults history faults)
verdict_opened status text evidence given files reader size workers before after old_faults new_faults lines history faults size_is workers_are is (inl wanting) = inl wanting
verdict_opened status text evidence given files reader size workers before after old_faults new_faults lines history faults size_is workers_are is (inr v) =
    inr (record { end = v.end; status_is = v.status_is; text_is = v.text_is; cause = with_script evidence given files reader size workers before after old_faults new_faults lines history faults v.end size_is workers_are is v.cause })

pub run_opened : {S F H T : Type 0} (evidence : Evidence S F H T) (given : Given) (files : Telling) (size workers : ℕ)
    (lines : List ScriptLine) (before after : Look) (old_faults new_faults : ℕ) (history : List Entry) (faults : List (Fault S F H T))
    → IsScript given lines → part_size_of (wanted_of (job_of given.words)) ≡ Some size → workers_of (job_of given.words) ≡ Some workers
    → IsUnopened evidence files before after old_faults new_faults history faults ⊎ IsOpenedRun evidence files size workers given.moment lines before after history faults
    → IsRunOf evidence given files before after old_faults new_faults history faults
run_opened evidence given files size workers lines before after old_faults new_faults history faults is size_is workers_are (inl unopened) = inr (inl unopened)
run_opened evidence given files size workers lines before after old_faults new_faults history faults is size_is workers_are (inr run) =
    inr (inr (record { size = size; size_is = size_is; workers = workers; workers_are = workers_are; lines = lines; script = is; run = run }))

-- ---- printed

-- a status above 1 goes before that of a failed write
pub goes_before : (n : ℕ) → 1 < n → n ≡ exit_unprinted n
goes_before (suc (suc n)) above = refl
goes_before n above = omega (arith, above)

-- and 0 and 1 don't
pub goes_behind : (n : ℕ) → n ≤ 1 → 5 ≡ exit_unprinted n
goes_behind (suc (suc n)) le = omega (arith, le)
goes_behind n le = refl

-- that of a run for which there was no memory stays
pub stays_wanting : (status wanted : ℕ) (text : Bytes) (old new : Option Bytes) (old_faults new_faults : ℕ)
    → IsPrinted status wanted text old new old_faults new_faults → wanted ≡ 8 → status ≡ 8
stays_wanting status wanted text old new old_faults new_faults (inl done) wanting = done.0 ∙ wanting
stays_wanting status wanted text old new old_faults new_faults (inr cut) wanting = cut.status_is ∙ ap exit_unprinted wanting

ended : (status wanted : ℕ) (text : Bytes) (old new : Option Bytes) (old_faults new_faults : ℕ) (Cause : RunEnd → Type 0) (v : IsTextOf wanted text Cause)
    → IsPrinted status wanted text old new old_faults new_faults → IsPrinted status (exit_of v.end) (text_of v.end) old new old_faults new_faults
ended status wanted text old new old_faults new_faults Cause v is =
    subst (λ (n : ℕ). IsPrinted status n (text_of v.end) old new old_faults new_faults) v.status_is
    (subst (λ (t : Bytes). IsPrinted status wanted t old new old_faults new_faults) v.text_is is)

front_none : (front rest : Bytes) → [] ≡ front ++ rest → front ≡ []
front_none [] rest e = refl
front_none (x ∷ front) rest e = absurd cc

-- where memory was wanting nothing was printed
printed_none : (status wanted : ℕ) (text : Bytes) (old new : Option Bytes) (old_faults new_faults : ℕ) → IsPrinted status wanted text old new old_faults new_faults → text ≡ [] → Appends old new []
printed_none status wanted text old new old_faults new_faults (inl done) none = subst (λ (t : Bytes). Appends old new t) none done.1
printed_none status wanted text old new old_faults new_faults (inr cut) none = subst (λ (t : Bytes). Appends old new t) (front_none cut.front.front cut.front.rest (sym none ∙ cut.front.whole)) cut.front.took

pub printed : (status wanted : ℕ) (text : Bytes) (old new : Option Bytes) (old_faults new_faults : ℕ) (Cause : RunEnd → Type 0)
    → IsVerdict wanted text Cause → IsPrinted status wanted text old new old_faults new_faults → IsEndOf status old new old_faults new_faults Cause
printed status wanted text old new old_faults new_faults Cause (inl wanting) is =
    inl (stays_wanting status wanted text old new old_faults new_faults is wanting.0, printed_none status wanted text old new old_faults new_faults is wanting.1)
printed status wanted text old new old_faults new_faults Cause (inr v) is =
    inr (record { end = v.end; cause = v.cause; printed = ended status wanted text old new old_faults new_faults Cause v is })

-- ---- the objects that failed

-- over the same history
pub logged : {S F H T : Type 0} (evidence : Evidence S F H T) (s : Start) (log same : List Moment) (faults : List (Fault S F H T)) → same ≡ log → AreShown evidence s log faults → AreShown evidence s same faults
logged {S} {F} {H} {T} evidence s log same faults e shown = subst (λ (l : List Moment). AreShown {S = S} {F = F} {H = H} {T = T} evidence s l faults) (sym e) shown
