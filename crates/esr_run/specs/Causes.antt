-- Why a run ended as it did.
use Rattle.std.specs.Prelude.{◌≡◌, ◌⊎◌, ℕ, zero, suc, ◌+◌, ◌^◌, ◌≤◌, Bool, true, List, [], ◌++◌, length, Option, Some, None, Ok, Err}
use Rattle.std.specs.Io.KnownBytes.{Appends, Consumes}
use Rattle.esr_model.specs.Values.{Bytes}
use Rattle.esr_core.specs.World.{World, Opened}
use Rattle.esr_core.specs.Entry.{Step, Entry}
use Rattle.esr_depot.specs.Image.{Image as Held}
use Rattle.esr_depot.specs.Look.{Look, now}
use Rattle.esr_depot.specs.Calls.{HasCause, Stays}
use Rattle.esr_script.specs.Jobs.{job_of}
use Rattle.esr_script.specs.Script.{script_of}
use Rattle.esr_script.specs.declared.item.ScriptLine.{ScriptLine}
use Rattle.esr_script.specs.declared.refusal.ScriptRefusal.TheVariants.{TooLong}
use Rattle.esr_opening.specs.declared.refusal.OpenRefusal.{OpenRefusal}
use Rattle.esr_opening.specs.declared.refusal.OpenRefusal.TheVariants as refusals
use Rattle.esr_opening.specs.declared.refusal.Why.{Why}
use Rattle.esr_record.specs.Record.{Record}
use Rattle.esr_root.specs.Root.{Root}
use Rattle.esr_opening.specs.Found.{found}
use Rattle.esr_opening.specs.Opening.{image_of, world_in, IsInOrder, IsOpenRefused}
use Rattle.esr_repo.specs.Log.{log_of}
use Rattle.esr_repo.specs.Calm.{IsCalm}
use Rattle.esr_quiet.specs.Asked.{asked_steps}
use Rattle.esr_report.specs.Status.{ending, status_of}
use Rattle.esr_complete.specs.Lines.{steps_of}
use Rattle.esr_desk.specs.declared.fault.Fault.{Fault}
use Rattle.esr_desk.specs.Evidence.{Evidence}
use Rattle.esr_desk.specs.Shown.{AreShown}
use Rattle.esr_desk.specs.Once.{AreOnce, NoneTwice, AreRemovedOnce}
use Rattle.esr_desk.specs.Verify.Tested.{AreTested}
use Rattle.esr_run.specs.Asked.{Wanted, ReadScript, OneCommand, NoCommand, NoRun, AsksScript, wanted_of, workers_of, part_size_of, single_script}
use Rattle.esr_run.specs.Script.{AreBytes, first_bad, bad_line}
use Rattle.esr_run.specs.Ends.{RunEnd, BadWords, Unreadable, BadScript, BadLine, OpenFault, Damaged, NoTerm, Carried, text_of, exit_of, exit_at, text_at}
use Rattle.esr_run.specs.Faults.{listed, fetch_of, HasFetch}
use Rattle.esr_run.specs.Start.{Telling, formats_by, start_of, LegalRun}
use Rattle.esr_run.specs.Images.{StaysKept, EveryImageKept, EveryImageWhole, SnapshotsOfSources, AnsweredStay}
use Rattle.esr_run.specs.Tidy.{StaysTidy, EveryImageTidy, EndTidy, EachDoomsExactly}
use Rattle.esr_run.specs.Cleaned.{CleanupsLeaveReach}
use Rattle.esr_run.specs.Told.{StaysTold, EndKept}
use Rattle.esr_run.specs.Sourceless.{NeedsNoSource}
use Rattle.esr_run.specs.Undamaged.{StaysUndamaged}
use Rattle.esr_run.specs.Checked.{asks_check}
use Rattle.esr_run.specs.Verified.{AreWhole}
use Rattle.esr_run.specs.Waits.{AreFew}
use Rattle.esr_run.specs.Made.{HasFallen, AreDone, AskedUnlessStopped}
use Rattle.esr_run.specs.Complete.{IsQuietFor, IsLastTerm, Completes}

-- what a run is given
pub record Given : Type 0 where
  pub words : List Bytes
  -- the bytes of the script, where they are told, and the count of its reader's faults
  pub script : Option Bytes
  pub faults : ℕ
  -- the moment of the snapshots
  pub moment : ℕ

-- the script was read, and these are its lines
pub record AreRead (script : Option Bytes) (lines : List ScriptLine) : Type 0 where
  pub bytes : Bytes
  pub bytes_are : AreBytes script bytes
  pub read : script_of bytes ≡ Ok lines

-- these lines are wanted: those of the script, or the one command as line 1
abbrev pub AreWanted : Wanted → Option Bytes → List ScriptLine → Type 0
AreWanted (ReadScript size) script lines = AreRead script lines
AreWanted (OneCommand size item) script lines = lines ≡ single_script item
AreWanted NoCommand script lines = ⊥
AreWanted NoRun script lines = ⊥

-- these lines are wanted, and each can be carried out
pub record IsScriptFor (wanted : Wanted) (script : Option Bytes) (lines : List ScriptLine) : Type 0 where
  pub are : AreWanted wanted script lines
  pub good : first_bad lines ≡ None

-- the words ask for these lines, each of which can be carried out
abbrev pub IsScript : Given → List ScriptLine → Type 0
IsScript given lines = IsScriptFor (wanted_of (job_of given.words)) given.script lines

-- they ask for some
abbrev pub AsksLines : Given → Type 0
AsksLines given = (lines : List ScriptLine) × IsScript given lines

-- the reader of the script gave nothing, and no read of it failed
pub record IsUnread (old new : Option Bytes) (old_faults new_faults : ℕ) : Type 0 where
  pub left : new ≡ old
  pub faults : new_faults ≡ old_faults

-- of the script so much was read: not more than one byte beyond what it may have
pub record IsReadInPart (old new : Option Bytes) : Type 0 where
  pub bytes : Bytes
  pub took : Consumes old new bytes
  pub few : length bytes ≤ 4194305

-- the reader of the script is read only where a script is wanted, and no further than needed
abbrev pub IsReadFor : Wanted → Option Bytes → Option Bytes → ℕ → ℕ → Type 0
IsReadFor (ReadScript size) old new old_faults new_faults = IsReadInPart old new
IsReadFor (OneCommand size item) old new old_faults new_faults = IsUnread old new old_faults new_faults
IsReadFor NoCommand old new old_faults new_faults = IsUnread old new old_faults new_faults
IsReadFor NoRun old new old_faults new_faults = IsUnread old new old_faults new_faults

-- the first bad line of the script has this number; or it is the one command, which can't be carried out
abbrev pub IsBadLine : Wanted → Option Bytes → ℕ → Type 0
IsBadLine (ReadScript size) script number = (bytes : Bytes) × AreBytes script bytes × (bad_line (script_of bytes) ≡ Some number)
IsBadLine (OneCommand size item) script number = ⊥
IsBadLine NoCommand script number = number ≡ 1
IsBadLine NoRun script number = ⊥

-- Why nothing was begun, by what is wanted, the script, and the faults that its reader had and has.
abbrev pub IsStoppedFor : Wanted → Option Bytes → ℕ → ℕ → RunEnd → Type 0
IsStoppedFor wanted script old new BadWords = wanted ≡ NoRun
IsStoppedFor wanted script old new Unreadable = AsksScript wanted × HasCause old new true
IsStoppedFor wanted script old new BadScript = AsksScript wanted × ((bytes : Bytes) × AreBytes script bytes × (script_of bytes ≡ Err TooLong))
IsStoppedFor wanted script old new (BadLine number) = IsBadLine wanted script number
IsStoppedFor wanted script old new OpenFault = ⊥
IsStoppedFor wanted script old new (Damaged name) = ⊥
IsStoppedFor wanted script old new NoTerm = ⊥
IsStoppedFor wanted script old new (Carried lines history) = ⊥

-- Why a run ended before the container was touched; the reader has so many faults now.
abbrev pub IsStopped : Given → ℕ → RunEnd → Type 0
IsStopped given faults end = IsStoppedFor (wanted_of (job_of given.words)) given.script given.faults faults end

-- ---- what became of the container

-- it wasn't touched
pub record IsUntouched {S F H T : Type 0} (files : Telling) (before after : Look) (history : List Entry) (faults : List (Fault S F H T)) : Type 0 where
  pub stays : Stays before after
  pub every_image : StaysKept (formats_by files) before after
  pub tidy : StaysTidy (formats_by files) before after
  pub empty : history ≡ []
  pub none : faults ≡ []

-- It wasn't opened; it counts faults, and so does each of its fetches.
pub record IsUnopened {S F H T : Type 0} (evidence : Evidence S F H T) (files : Telling) (before after : Look) (old_faults new_faults : ℕ) (history : List Entry) (faults : List (Fault S F H T)) : Type 0 where
  pub refusal : OpenRefusal F
  pub refused : IsOpenRefused evidence.fetch_faults before after old_faults new_faults refusal
  pub every_image : StaysKept (formats_by files) before after
  pub tidy : StaysTidy (formats_by files) before after
  pub empty : history ≡ []
  -- the fetch of the opening whose reading failed, if one did
  pub faults_are : faults ≡ listed (fetch_of refusal)

-- It was opened, as this world, and the history is legal from there to what it has now, over its moments from this clock on.
pub record IsOpenedRun {S F H T : Type 0} (evidence : Evidence S F H T) (files : Telling) (size workers moment : ℕ) (lines : List ScriptLine) (before after : Look) (history : List Entry) (faults : List (Fault S F H T)) : Type 0 where
  pub world : World
  pub clock : ℕ
  -- whether it is taken for quiet, as it is where it was sure to serve 2^62 calls
  pub quiet : Bool
  pub quiet_is : 2 ^ 62 ≤ before.sure → quiet ≡ true
  pub later : before.clock ≤ clock
  pub opened : (i : Held) → now before ≡ Some i → Opened (formats_by files) (image_of i) world
  -- as the world of this record and this root; where the container tells, opening finds them in it, and nothing that is wrong
  pub cluster : Record
  pub root : Root
  pub world_is : world ≡ world_in (now before) cluster root
  pub finds : (i : Held) → now before ≡ Some i → found i ≡ Ok (cluster, root)
  -- the opening made four calls of the container at most, and one for each listed snapshot
  pub calls : clock ≤ before.clock + (4 + length root.snapshots)
  pub order : IsInOrder world
  pub legal : LegalRun (start_of files size quiet before world) clock after history
  -- each moment is told where the entry is
  pub told : StaysTold before clock history after
  pub every_image : EveryImageKept (formats_by files) world (log_of after clock history) before after
  pub whole : EveryImageWhole (formats_by files) before after
  pub end_kept : EndKept (formats_by files) world (log_of after clock history) before after
  -- the snapshots of the run, and those among the commands that count, have the files that the sources tell
  pub sourced : SnapshotsOfSources (formats_by files) world (log_of after clock history) before
  -- where no line asks for a snapshot, whatever the sources and the digests are
  pub sourceless : NeedsNoSource (formats_by files) world lines (log_of after clock history)
  pub answered : AnsweredStay (start_of files size quiet before world) clock history after
  -- from a tidy image on each image since the entry is tidy, also that at the end, and each delete dooms exactly what it leaves
  pub tidy : EveryImageTidy (formats_by files) before after
  pub end_tidy : EndTidy (formats_by files) before after
  pub dooms : EachDoomsExactly (formats_by files) world (log_of after clock history) before
  -- a cleanup that came to its end left exactly what the safe root reaches, and `index.latest`
  pub cleaned : CleanupsLeaveReach (formats_by files) world (log_of after clock history) before
  -- over a kept container that tells nothing is found damaged and no name taken, whatever calls fail
  pub undamaged : StaysUndamaged (start_of files size quiet before world) (formats_by files) (log_of after clock history) before
  -- each failure of a unit that the history tells has its cause, and the objects that failed are listed
  pub shown : AreShown evidence (start_of files size quiet before world) (log_of after clock history) faults
  -- no blob is committed twice, but for the metadata of a finalization
  pub once : AreOnce (start_of files size quiet before world) (log_of after clock history)
  -- no test blob is committed twice, and each that was added holds the text of the id that was drawn
  pub tested : AreTested (start_of files size quiet before world) (log_of after clock history)
  -- no ticket makes a step twice
  pub single : NoneTwice (log_of after clock history)
  -- no ticket removes a name twice
  pub removed : AreRemovedOnce (log_of after clock history)
  -- a quiet container failed in none of the first 2^41 entries
  pub calm : IsCalm quiet after.sure history
  -- each verification and each check that ended well is whole; who 0 reads for verifications alone, each after a draw, and where a line
  -- asks for a check for checks, each after a look; and no verification is open where a line asks for something
  pub verified : AreWhole (start_of files size quiet before world) workers (asks_check lines) (log_of after clock history)
  -- takes found no unit ready at most once for each worker in each wait, and at the end; no more elections were made than lines ask for
  pub few : AreFew workers lines (log_of after clock history)
  -- who 0 asked for commands, and drew for verifications, only where no ticket was out, and units were taken by waits alone, unless the
  -- work had been stopped before
  pub apart : AskedUnlessStopped (start_of files size quiet before world) [] (log_of after clock history)
  -- what was asked is what the lines ask for, in order, as far as they were carried out
  pub asked : (rest : List Step) × (asked_steps (log_of after clock history) ++ rest ≡ steps_of moment lines)

-- Each line was carried out, the work of each wait was done and its elections were made when it ended, and at the end no unit is ready
-- or out and no verification is open; or a record swap failed, and each line was asked all the same, or 2 ^ 33 entries were made: such a
-- run ends neither with 0 nor with 1.
abbrev pub IsWorked : {S F H T : Type 0} (evidence : Evidence S F H T) (files : Telling) (size workers moment : ℕ) (lines : List ScriptLine) (before after : Look) (history : List Entry) (faults : List (Fault S F H T))
    → IsOpenedRun evidence files size workers moment lines before after history faults → Type 0
IsWorked evidence files size workers moment lines before after history faults r =
    AreDone (start_of files size r.quiet before r.world) moment lines [] (log_of after r.clock history)
    ⊎ (HasFallen (start_of files size r.quiet before r.world) moment lines [] (log_of after r.clock history) × (2 ≤ status_of (ending lines history)))

-- with parts of the size for which the words ask
pub record IsCarried {S F H T : Type 0} (evidence : Evidence S F H T) (given : Given) (files : Telling) (before after : Look) (history : List Entry) (faults : List (Fault S F H T)) : Type 0 where
  pub size : ℕ
  pub size_is : part_size_of (wanted_of (job_of given.words)) ≡ Some size
  -- with as many workers as the words ask for
  pub workers : ℕ
  pub workers_are : workers_of (job_of given.words) ≡ Some workers
  pub lines : List ScriptLine
  pub script : IsScript given lines
  pub run : IsOpenedRun evidence files size workers given.moment lines before after history faults

-- The container wasn't touched, or it wasn't opened, and there is no history; or it was opened, and the history is legal from
-- there on.
abbrev pub IsRunOf : {S F H T : Type 0} → Evidence S F H T → Given → Telling → Look → Look → ℕ → ℕ → List Entry → List (Fault S F H T) → Type 0
IsRunOf evidence given files before after old_faults new_faults history faults =
    IsUntouched files before after history faults
    ⊎ (IsUnopened evidence files before after old_faults new_faults history faults ⊎ IsCarried evidence given files before after history faults)

-- ---- why a run ended so

-- The container failed as it was opened: its count of faults shows it, or that of a fetch of the opening which is listed.
pub record FailedToOpen {S F H T : Type 0} (evidence : Evidence S F H T) (before after : Look) (old_faults new_faults : ℕ) (faults : List (Fault S F H T)) : Type 0 where
  pub fetch : Option F
  pub refused : IsOpenRefused evidence.fetch_faults before after old_faults new_faults (refusals.DepotFault fetch)
  pub shown : HasCause old_faults new_faults true ⊎ HasFetch evidence.fetch_faults faults

-- Why the container wasn't opened: it failed, or something in it is damaged, or its last term has come.
abbrev pub IsRefused : {S F H T : Type 0} → Evidence S F H T → Look → Look → ℕ → ℕ → List (Fault S F H T) → RunEnd → Type 0
IsRefused evidence before after old_faults new_faults faults OpenFault = FailedToOpen evidence before after old_faults new_faults faults
IsRefused evidence before after old_faults new_faults faults (Damaged name) = (why : Why) × IsOpenRefused evidence.fetch_faults before after old_faults new_faults (refusals.Damaged name why)
IsRefused evidence before after old_faults new_faults faults NoTerm = (term : ℕ) × IsOpenRefused evidence.fetch_faults before after old_faults new_faults (refusals.TermsSpent term)
IsRefused evidence before after old_faults new_faults faults BadWords = ⊥
IsRefused evidence before after old_faults new_faults faults Unreadable = ⊥
IsRefused evidence before after old_faults new_faults faults BadScript = ⊥
IsRefused evidence before after old_faults new_faults faults (BadLine number) = ⊥
IsRefused evidence before after old_faults new_faults faults (Carried script history) = ⊥

-- there is no history, since the container wasn't opened
abbrev pub EndedUnopened : {S F H T : Type 0} → Evidence S F H T → Look → Look → ℕ → ℕ → List Entry → List (Fault S F H T) → RunEnd → Type 0
EndedUnopened evidence before after old_faults new_faults history faults end = (history ≡ []) × IsRefused evidence before after old_faults new_faults faults end

abbrev pub IsCauseOf : {S F H T : Type 0} → Evidence S F H T → Given → Telling → ℕ → Look → Look → ℕ → ℕ → List Entry → List (Fault S F H T) → RunEnd → Type 0
IsCauseOf evidence given files reader before after old_faults new_faults history faults (Carried script entries) =
    (entries ≡ history) × ((c : IsCarried evidence given files before after history faults) × (c.lines ≡ script) × IsWorked evidence files c.size c.workers given.moment c.lines before after history faults c.run)
IsCauseOf evidence given files reader before after old_faults new_faults history faults OpenFault = AsksLines given × EndedUnopened evidence before after old_faults new_faults history faults OpenFault
IsCauseOf evidence given files reader before after old_faults new_faults history faults (Damaged name) = AsksLines given × EndedUnopened evidence before after old_faults new_faults history faults (Damaged name)
IsCauseOf evidence given files reader before after old_faults new_faults history faults NoTerm = AsksLines given × EndedUnopened evidence before after old_faults new_faults history faults NoTerm
IsCauseOf evidence given files reader before after old_faults new_faults history faults BadWords = IsUntouched files before after history faults × IsStopped given reader BadWords
IsCauseOf evidence given files reader before after old_faults new_faults history faults Unreadable = IsUntouched files before after history faults × IsStopped given reader Unreadable
IsCauseOf evidence given files reader before after old_faults new_faults history faults BadScript = IsUntouched files before after history faults × IsStopped given reader BadScript
IsCauseOf evidence given files reader before after old_faults new_faults history faults (BadLine number) = IsUntouched files before after history faults × IsStopped given reader (BadLine number)

-- the output took the front of the text
pub record TookFront (old new : Option Bytes) (text : Bytes) : Type 0 where
  pub front : Bytes
  pub rest : Bytes
  pub whole : text ≡ front ++ rest
  pub took : Appends old new front

-- The status where a write failed: 5 goes before 0 and 1, and the others go before 5.
abbrev pub exit_unprinted : ℕ → ℕ
exit_unprinted zero = 5
exit_unprinted (suc zero) = 5
exit_unprinted (suc (suc n)) = suc (suc n)

-- A write failed, which the output counts: it took the front of the text.
pub record IsUnprinted (status wanted : ℕ) (text : Bytes) (old new : Option Bytes) (old_faults new_faults : ℕ) : Type 0 where
  pub status_is : status ≡ exit_unprinted wanted
  pub cause : HasCause old_faults new_faults true
  pub front : TookFront old new text

-- the whole text was printed and the status is the wanted one, or a write failed
abbrev pub IsPrinted : ℕ → ℕ → Bytes → Option Bytes → Option Bytes → ℕ → ℕ → Type 0
IsPrinted status wanted text old new old_faults new_faults =
    ((status ≡ wanted) × Appends old new text) ⊎ IsUnprinted status wanted text old new old_faults new_faults

-- the run ended so, for its cause, and that was printed
pub record EndedAs (status : ℕ) (old new : Option Bytes) (old_faults new_faults : ℕ) (Cause : RunEnd → Type 0) : Type 0 where
  pub end : RunEnd
  pub cause : Cause end
  pub printed : IsPrinted status (exit_of end) (text_of end) old new old_faults new_faults

-- Memory was wanting, with status 8, and nothing was printed; or it ended in one of its ways.
abbrev pub IsEndOf : ℕ → Option Bytes → Option Bytes → ℕ → ℕ → (RunEnd → Type 0) → Type 0
IsEndOf status old new old_faults new_faults Cause = ((status ≡ 8) × Appends old new []) ⊎ EndedAs status old new old_faults new_faults Cause

-- before it is printed
pub record IsTextOf (status : ℕ) (text : Bytes) (Cause : RunEnd → Type 0) : Type 0 where
  pub end : RunEnd
  pub status_is : status ≡ exit_of end
  pub text_is : text ≡ text_of end
  pub cause : Cause end

abbrev pub IsVerdict : ℕ → Bytes → (RunEnd → Type 0) → Type 0
IsVerdict status text Cause = ((status ≡ 8) × (text ≡ [])) ⊎ IsTextOf status text Cause

-- by how the code says that it ended; None: memory was wanting
abbrev pub IsTold : ℕ → Bytes → Option RunEnd → Type 0
IsTold status text end = ((status ≡ 8) × (text ≡ [])) ⊎ ((status ≡ exit_at end) × (text ≡ text_at end))

-- why a run ended so, from the opening of the container on
abbrev pub IsOpenCause : {S F H T : Type 0} → Evidence S F H T → Telling → ℕ → ℕ → ℕ → Look → Look → ℕ → ℕ → List ScriptLine → List Entry → List (Fault S F H T) → RunEnd → Type 0
IsOpenCause evidence files size workers moment before after old_faults new_faults lines history faults (Carried script entries) =
    (script ≡ lines) × (entries ≡ history) × ((r : IsOpenedRun evidence files size workers moment lines before after history faults) × IsWorked evidence files size workers moment lines before after history faults r)
IsOpenCause evidence files size workers moment before after old_faults new_faults lines history faults OpenFault = EndedUnopened evidence before after old_faults new_faults history faults OpenFault
IsOpenCause evidence files size workers moment before after old_faults new_faults lines history faults (Damaged name) = EndedUnopened evidence before after old_faults new_faults history faults (Damaged name)
IsOpenCause evidence files size workers moment before after old_faults new_faults lines history faults NoTerm = EndedUnopened evidence before after old_faults new_faults history faults NoTerm
IsOpenCause evidence files size workers moment before after old_faults new_faults lines history faults BadWords = ⊥
IsOpenCause evidence files size workers moment before after old_faults new_faults lines history faults Unreadable = ⊥
IsOpenCause evidence files size workers moment before after old_faults new_faults lines history faults BadScript = ⊥
IsOpenCause evidence files size workers moment before after old_faults new_faults lines history faults (BadLine number) = ⊥

-- how a run ends whose container wasn't opened; None: memory was wanting
abbrev pub end_of_refusal : {F : Type 0} → OpenRefusal F → Option RunEnd
end_of_refusal refusals.Memory = None
end_of_refusal (refusals.DepotFault fetch) = Some OpenFault
end_of_refusal (refusals.Damaged name why) = Some (Damaged name)
end_of_refusal (refusals.TermsSpent term) = Some NoTerm

-- ---- completeness

-- from the opening on: over quiet objects memory was wanting, or the last term had come, or the container was opened and each
-- line was answered well, unless a number was spent
abbrev pub OpensWell : {S F H T : Type 0} → Evidence S F H T → Telling → ℕ → ℕ → ℕ → List ScriptLine → Look → Look → List Entry → List (Fault S F H T) → ℕ → Type 0
OpensWell evidence files size workers moment lines before after history faults status =
    IsQuietFor files before lines
    → (status ≡ 8) ⊎ (IsLastTerm before ⊎ ((r : IsOpenedRun evidence files size workers moment lines before after history faults) × Completes files size workers moment lines before r.world r.clock after history status))

-- the script is told, and no read of it failed
pub record IsReadWell (script : Option Bytes) (old new : ℕ) : Type 0 where
  pub bytes : Bytes
  pub told : script ≡ Some bytes
  pub read : HasCause old new true → ⊥

-- The words ask for these lines, each of which can be carried out, over quiet objects; where they ask for a script, it is told and
-- no read of it failed; and no call of the output failed.
pub record IsSmoothFor (given : Given) (files : Telling) (before : Look) (reader old_out new_out : ℕ) (lines : List ScriptLine) : Type 0 where
  pub script : IsScript given lines
  pub reads : AsksScript (wanted_of (job_of given.words)) → IsReadWell given.script given.faults reader
  pub quiet : IsQuietFor files before lines
  pub printed : HasCause old_out new_out true → ⊥

-- Completeness of a whole run: then memory was wanting, with status 8, or the last term had come, or each line was answered well,
-- and the status is 0, or 1 since a command was refused by a rule, unless a number was spent.
abbrev pub IsComplete : {S F H T : Type 0} → Evidence S F H T → Given → Telling → ℕ → Look → Look → ℕ → ℕ → List Entry → List (Fault S F H T) → ℕ → Type 0
IsComplete evidence given files reader before after old_out new_out history faults status =
    (lines : List ScriptLine) → IsSmoothFor given files before reader old_out new_out lines
    → (status ≡ 8) ⊎ (IsLastTerm before ⊎ ((c : IsCarried evidence given files before after history faults) × Completes files c.size c.workers given.moment c.lines before c.run.world c.run.clock after history status))
