-- Completeness, from the end of a run to its words.
use Rattle.std.proofs.Common.{◌≡◌, ◌⊎◌, ℕ, ◌+◌, ◌^◌, ◌<◌, ◌≤◌, Bool, true, false, not, nat_lt, List, [], Option, Some, None, Result, Ok, Err, refl, sym, ap, ◌∙◌, subst, inl, inr, ⊎_elim, arith}
use Rattle.std.proofs.lemmas.Bool.{ltb-true}
use Rattle.esr_model.specs.Values.{Bytes}
use Rattle.esr_core.specs.World.{World}
use Rattle.esr_core.specs.Entry.{Entry}
use Rattle.esr_depot.specs.Look.{Look, now}
use Rattle.esr_script.specs.Jobs.{job_of}
use Rattle.esr_script.specs.Script.{script_of}
use Rattle.esr_script.specs.declared.item.ScriptLine.{ScriptLine}
use Rattle.esr_report.specs.Status.{ending, status_of}
use Rattle.esr_opening.specs.Opening.{Kept, world_in, IsOpening, IsOpenRefused}
use Rattle.esr_opening.specs.declared.refusal.OpenRefusal.{OpenRefusal}
use Rattle.esr_opening.specs.declared.refusal.OpenRefusal.TheVariants as refusals
use Rattle.esr_desk.specs.Start.{Start}
use Rattle.esr_desk.specs.declared.fault.Fault.{Fault}
use Rattle.esr_desk.specs.Evidence.{Evidence}
use Rattle.esr_desk.specs.Shown.{AreShown}
use Rattle.esr_desk.specs.Once.{AreOnce, NoneTwice, AreRemovedOnce}
use Rattle.esr_desk.specs.Verify.Tested.{AreTested}
use Rattle.esr_repo.specs.Log.{log_of}
use Rattle.esr_repo.specs.Past.{IsPast}
use Rattle.esr_repo.specs.Calm.{IsCalm}
use Rattle.esr_repo.specs.Deposed.{AreDeposedSo}
use Rattle.esr_complete.specs.Lines.{steps_of}
use Rattle.esr_run.specs.Asked.{Wanted, ReadScript, OneCommand, NoCommand, NoRun, AsksScript, wanted_of, part_size_of, workers_of}
use Rattle.esr_run.specs.Script.{AreBytes, first_bad, bad_line}
use Rattle.esr_run.specs.Ends.{RunEnd, BadWords, Unreadable, BadScript, BadLine, Carried}
use Rattle.esr_run.specs.Start.{Telling, is_calm_by, start_of, LegalRun}
use Rattle.esr_run.specs.Complete.{IsQuietFor, IsLastTerm}
use Rattle.esr_run.specs.Laws.{Laws, KeptLaws, QuietLaws}
use Rattle.esr_run.specs.Checked.{asks_check}
use Rattle.esr_run.specs.Verified.{AreClosed, AreWhole}
use Rattle.esr_run.specs.Waits.{AreFew}
use Rattle.esr_run.specs.Made.{MadeFirst, HasFallen, AreDone, AskedUnlessStopped}
use Rattle.esr_run.specs.Stops.{StoppedBy}
use Rattle.esr_run.specs.Causes.{Given, AreWanted, IsScriptFor, IsScript, IsStoppedFor, OpensWell, IsReadWell, IsComplete, IsTold, IsPrinted, end_of_refusal}
use Rattle.esr_run.proofs.Worlds.{start_is}
use Rattle.esr_run.proofs.Ending.{Begun, opened_run}
use Rattle.esr_run.proofs.Completing.{completes}

-- ---- whether a container is taken for quiet

pub taken_calm : (before mid : ℕ) → before ≤ mid + 2 ^ 61 → 2 ^ 62 ≤ before → is_calm_by mid ≡ true
taken_calm before mid spent enough = go (nat_lt mid (2 ^ 41)) refl
  where
    go : (b : Bool) → nat_lt mid (2 ^ 41) ≡ b → not b ≡ true
    go true e =
        let less : mid < 2 ^ 41 = ltb-true mid (2 ^ 41) e in
        let most : before ≤ mid + 2 ^ 61 = spent in
        let least : 2 ^ 62 ≤ before = enough in
        absurd (omega (arith, less, most, least))
    go false e = refl

-- ---- from the opening on

carried_status : (status : ℕ) (text : Bytes) (lines : List ScriptLine) (history : List Entry) → IsTold status text (Some (Carried lines history)) → (status ≡ 8) ⊎ (status ≡ status_of (ending lines history))
carried_status status text lines history (inl wanting) = inl wanting.0
carried_status status text lines history (inr told) = inr told.0

pub opens_well : {S F H T : Type 0} (laws : Laws) (kept : KeptLaws S F H T) (quiet_laws : QuietLaws S F H T) (evidence : Evidence S F H T) (files : Telling)
    (size workers moment : ℕ) (lines : List ScriptLine) (quiet : Bool) (before mid after : Look) (k : Kept) (history : List Entry) (faults : List (Fault S F H T))
    (status : ℕ) (text : Bytes) (o : IsOpening before mid k) → (2 ^ 62 ≤ before.sure → quiet ≡ true)
    → LegalRun (Begun files size quiet mid k) mid.clock after history → IsPast (Begun files size quiet mid k) mid.clock mid.since after history → AreShown evidence (Begun files size quiet mid k) (log_of after mid.clock history) faults
    → AreOnce (Begun files size quiet mid k) (log_of after mid.clock history) → AreTested (Begun files size quiet mid k) (log_of after mid.clock history) → NoneTwice (log_of after mid.clock history)
    → AreRemovedOnce (log_of after mid.clock history) → IsCalm quiet after.sure history → MadeFirst (Begun files size quiet mid k) (steps_of moment lines) [] (log_of after mid.clock history)
    → AreWhole (Begun files size quiet mid k) workers (asks_check lines) (log_of after mid.clock history) → AreFew workers lines (log_of after mid.clock history)
    → AskedUnlessStopped (Begun files size quiet mid k) [] (log_of after mid.clock history)
    → AreDeposedSo history → IsTold status text (Some (Carried lines history))
    → (status ≡ 8) ⊎ (AreDone (Begun files size quiet mid k) moment lines [] (log_of after mid.clock history) ⊎ HasFallen (Begun files size quiet mid k) moment lines [] (log_of after mid.clock history))
    → OpensWell evidence files size workers moment lines before after history faults status
unfolding opened_run
opens_well {S} {F} {H} {T} laws kept quiet_laws evidence files size workers moment lines quiet before mid after k history faults status
    text o quiet_is legal past shown once tested single removed calm made verified takes apart named told (inl wanting) quiet_for = inl wanting
opens_well {S} {F} {H} {T} laws kept quiet_laws evidence files size workers moment lines quiet before mid after k history faults
    status text o quiet_is legal past shown once tested single removed calm made verified takes apart named told (inr done) quiet_for =
    ⊎_elim
    (λ (wanting : status ≡ 8). inl wanting)
    (λ (is : status ≡ status_of (ending lines history)).
    inr (inr (
      opened_run laws kept evidence files size workers moment lines quiet before mid after k history faults o quiet_is legal past shown once tested single removed calm made verified takes apart,
      completes quiet_laws evidence files size workers moment lines before after world mid.clock history faults (λ i e. o.opens i _ _ e) status
          (subst (λ (s : Start). LegalRun s mid.clock after history) same legal).legal
          (subst (λ (s : Start). IsPast s mid.clock mid.since after history) same past).told
          (subst (λ (s : Start). AreShown {S = S} {F = F} {H = H} {T = T} evidence s (log_of after mid.clock history) faults) same shown)
          (subst (λ (s : Start). AreOnce s (log_of after mid.clock history)) same once)
          (subst (λ (s : Start). AreTested s (log_of after mid.clock history)) same tested)
          (subst (λ (b : Bool). IsCalm b after.sure history) yes_quiet calm)
          named
          (subst (λ (s : Start). MadeFirst s (steps_of moment lines) [] (log_of after mid.clock history)) same made)
          (subst (λ (s : Start). AreClosed s (log_of after mid.clock history)) same verified.closed)
          (subst (λ (s : Start). AreDone s moment lines [] (log_of after mid.clock history) ⊎ HasFallen s moment lines [] (log_of after mid.clock history)) same done)
          is takes (subst (λ (s : Start). AskedUnlessStopped s [] (log_of after mid.clock history)) same apart) quiet_for,
    )))
    (carried_status status text lines history told)
  where
    world : World
    world = world_in (now before) o.cluster o.root

    yes_quiet : quiet ≡ true
    yes_quiet = quiet_is quiet_for.sure

    same : Begun files size quiet mid k ≡ start_of files size true before world
    same = start_is files size quiet before mid k o ∙ ap (λ (b : Bool). start_of files size b before world) yes_quiet

wanting_told : (status : ℕ) (text : Bytes) → IsTold status text None → status ≡ 8
wanting_told status text (inl wanting) = wanting.0
wanting_told status text (inr told) = told.0

-- a container that is refused
pub refused_well : {S F H T : Type 0} (evidence : Evidence S F H T) (files : Telling) (size workers moment : ℕ) (lines : List ScriptLine) (before mid after : Look)
    (old_faults new_faults : ℕ) (history : List Entry) (faults : List (Fault S F H T)) (status : ℕ) (text : Bytes) (refusal : OpenRefusal F)
    → IsTold status text (end_of_refusal refusal) → IsOpenRefused evidence.fetch_faults before mid old_faults new_faults refusal → (2 ^ 61 ≤ before.sure → (fetch : Option F) → refusal ≡ refusals.DepotFault fetch → ⊥)
    → OpensWell evidence files size workers moment lines before after history faults status
refused_well evidence files size workers moment lines before mid after old_faults new_faults history faults status text refusals.Memory told refused sure quiet_for = inl (wanting_told status text told)
refused_well evidence files size workers moment lines before mid after old_faults new_faults history faults status text (refusals.DepotFault fetch) told refused sure quiet_for =
    let enough : 2 ^ 62 ≤ before.sure = quiet_for.sure in
    absurd (sure (omega (arith, enough)) fetch refl)
refused_well evidence files size workers moment lines before mid after old_faults new_faults history faults status text (refusals.Damaged name why) told refused sure quiet_for =
    absurd (refused.2 quiet_for.holds.image _ _ quiet_for.shelf quiet_for.holds.told quiet_for.holds.kept)
refused_well evidence files size workers moment lines before mid after old_faults new_faults history faults status text (refusals.TermsSpent term) told refused sure quiet_for =
    inr (inl (quiet_for.holds.image, term, quiet_for.holds.told, refused.1 quiet_for.holds.image quiet_for.holds.told))

-- ---- the words and the script

-- what is told of the script determines its lines
bytes_one : (bytes : Bytes) (script : Option Bytes) (a : Bytes) → script ≡ Some bytes → AreBytes script a → a ≡ bytes
bytes_one bytes None a told are = absurd cc
bytes_one bytes (Some b) a told are = let same : b ≡ bytes = cc in are ∙ same

ok_one : {E : Type 0} (a b : List ScriptLine) (r : Result (List ScriptLine) E) → r ≡ Ok a → r ≡ Ok b → a ≡ b
ok_one {E} a b r first second = let same : ◌≡◌ {A = Result (List ScriptLine) E} (Ok a) (Ok b) = sym first ∙ second in cc

same_wanted : (wanted : Wanted) (script : Option Bytes) (old new : ℕ) (a b : List ScriptLine) → (AsksScript wanted → IsReadWell script old new) → AreWanted wanted script a → AreWanted wanted script b → a ≡ b
same_wanted (ReadScript size) script old new a b reads first second =
    let r = reads tt in
    ok_one a b (script_of r.bytes)
    (subst (λ (x : Bytes). script_of x ≡ Ok a) (bytes_one r.bytes script first.bytes r.told first.bytes_are) first.read)
    (subst (λ (x : Bytes). script_of x ≡ Ok b) (bytes_one r.bytes script second.bytes r.told second.bytes_are) second.read)
same_wanted (OneCommand size item) script old new a b reads first second = first ∙ sym second
same_wanted wanted script old new a b reads first second = absurd first

pub complete_opened : {S F H T : Type 0} (evidence : Evidence S F H T) (given : Given) (files : Telling) (reader size workers : ℕ)
    (lines : List ScriptLine) (before after : Look) (old_out new_out : ℕ) (history : List Entry) (faults : List (Fault S F H T)) (status : ℕ)
    → part_size_of (wanted_of (job_of given.words)) ≡ Some size → workers_of (job_of given.words) ≡ Some workers → IsScript given lines → OpensWell evidence files size workers given.moment lines before after history faults status
    → IsComplete evidence given files reader before after old_out new_out history faults status
complete_opened {S} {F} {H} {T} evidence given files reader size workers lines before after old_out new_out history faults status size_is workers_are script well asked smooth =
    let same : asked ≡ lines = same_wanted (wanted_of (job_of given.words)) given.script given.faults reader asked lines smooth.reads smooth.script.are script.are in
    ⊎_elim
    (λ (wanting : status ≡ 8). inl wanting)
    (λ rest. ⊎_elim
    (λ (last : IsLastTerm before). inr (inl last))
    (λ run. inr (inr (record { size = size; size_is = size_is; workers = workers; workers_are = workers_are; lines = lines; script = script; run = run.0 }, run.1)))
    rest)
    (well (subst (λ (l : List ScriptLine). IsQuietFor files before l) same smooth.quiet))

-- nothing was begun
no_bad : (lines : List ScriptLine) (number : ℕ) → first_bad lines ≡ None → first_bad lines ≡ Some number → ⊥
no_bad lines number none some = let same : ◌≡◌ {A = Option ℕ} None (Some number) = sym none ∙ some in cc

not_stopped : (wanted : Wanted) (script : Option Bytes) (old new : ℕ) (lines : List ScriptLine) (end : RunEnd) → (AsksScript wanted → IsReadWell script old new) → IsScriptFor wanted script lines → IsStoppedFor wanted script old new end
    → ⊥
not_stopped (ReadScript size) script old new lines BadWords reads is stop = absurd cc
not_stopped (ReadScript size) script old new lines Unreadable reads is stop = (reads tt).read stop.1
not_stopped (ReadScript size) script old new lines BadScript reads is stop =
    let r = reads tt in
    let first = subst (λ (x : Bytes). script_of x ≡ Ok lines) (bytes_one r.bytes script is.are.bytes r.told is.are.bytes_are) is.are.read in
    let second = subst (λ (x : Bytes). script_of x ≡ Err _) (bytes_one r.bytes script stop.1.0 r.told stop.1.1) stop.1.2 in
    let same = sym first ∙ second in cc
not_stopped (ReadScript size) script old new lines (BadLine number) reads is stop =
    let r = reads tt in
    let first = subst (λ (x : Bytes). script_of x ≡ Ok lines) (bytes_one r.bytes script is.are.bytes r.told is.are.bytes_are) is.are.read in
    let second = subst (λ (x : Bytes). bad_line (script_of x) ≡ Some number) (bytes_one r.bytes script stop.0 r.told stop.1) stop.2 in
    no_bad lines number is.good (sym (ap bad_line first) ∙ second)
not_stopped (OneCommand size item) script old new lines BadWords reads is stop = absurd cc
not_stopped (OneCommand size item) script old new lines Unreadable reads is stop = stop.0
not_stopped (OneCommand size item) script old new lines BadScript reads is stop = stop.0
not_stopped NoCommand script old new lines end reads is stop = is.are
not_stopped NoRun script old new lines end reads is stop = is.are
not_stopped wanted script old new lines end reads is stop = stop

pub complete_stopped : {S F H T : Type 0} (evidence : Evidence S F H T) (given : Given) (files : Telling) (reader : ℕ) (before after : Look)
    (old_out new_out : ℕ) (history : List Entry) (faults : List (Fault S F H T)) (status : ℕ) (text : Bytes) (end : Option RunEnd)
    → IsTold status text end → StoppedBy (wanted_of (job_of given.words)) given.script given.faults reader end → IsComplete evidence given files reader before after old_out new_out history faults status
complete_stopped evidence given files reader before after old_out new_out history faults status text None told stop lines smooth = inl (wanting_told status text told)
complete_stopped evidence given files reader before after old_out new_out history faults status text (Some end) told stop lines smooth =
    absurd (not_stopped (wanted_of (job_of given.words)) given.script given.faults reader lines end smooth.reads smooth.script stop)

-- memory was wanting
pub complete_wanting : {S F H T : Type 0} (evidence : Evidence S F H T) (given : Given) (files : Telling) (reader : ℕ)
    (before after : Look) (old_out new_out : ℕ) (history : List Entry) (faults : List (Fault S F H T)) (status : ℕ) (text : Bytes)
    → IsTold status text None → IsComplete evidence given files reader before after old_out new_out history faults status
complete_wanting evidence given files reader before after old_out new_out history faults status text told lines smooth = inl (wanting_told status text told)

-- ---- printed

pub complete_printed : {S F H T : Type 0} (evidence : Evidence S F H T) (given : Given) (files : Telling) (reader : ℕ) (before after : Look)
    (old_out new_out : ℕ) (history : List Entry) (faults : List (Fault S F H T)) (status wanted : ℕ) (text : Bytes) (old new : Option Bytes)
    → IsComplete evidence given files reader before after old_out new_out history faults wanted → IsPrinted status wanted text old new old_out new_out → IsComplete evidence given files reader before after old_out new_out history faults status
complete_printed {S} {F} {H} {T} evidence given files reader before after old_out new_out history faults status wanted text old new complete (inl done) lines smooth =
    subst (λ (n : ℕ). IsComplete {S = S} {F = F} {H = H} {T = T} evidence given files reader before after old_out new_out history faults n) (sym done.0) complete lines smooth
complete_printed evidence given files reader before after old_out new_out history faults status wanted text old new complete (inr cut) lines smooth = absurd (smooth.printed cut.cause)
