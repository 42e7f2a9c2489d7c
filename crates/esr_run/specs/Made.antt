-- How far lines were carried out.
use Rattle.std.specs.Prelude.{◌≡◌, ◌⊎◌, ℕ, ◌+◌, ◌^◌, ◌≤◌, List, [], ◌∷◌, ◌++◌, length, Result, Ok, Err}
use Rattle.std.specs.FinMap as fin
use Rattle.esr_core.specs.Entry.{Asked, DrawTest, Step, AskStep, TakeStep, LookStep, ReadStep, Refusal, DeposedAt, Refused, Moment}
use Rattle.esr_core.specs.Ready.{AnyReady}
use Rattle.esr_core.specs.Refusing.{SwapFailed}
use Rattle.esr_script.specs.declared.item.Item.{Item}
use Rattle.esr_script.specs.declared.item.Item.TheVariants as items
use Rattle.esr_script.specs.declared.item.Kind.TheVariants as kinds
use Rattle.esr_script.specs.declared.item.ScriptLine.{ScriptLine}
use Rattle.esr_script.specs.Kinds.{kind_of}
use Rattle.esr_desk.specs.declared.refusal.StepRefusal.{StepRefusal}
use Rattle.esr_desk.specs.declared.refusal.StepRefusal.TheVariants as steps
use Rattle.esr_desk.specs.Start.{Start, world_of}
use Rattle.esr_desk.specs.Grew.{NoneOut}
use Rattle.esr_desk.specs.Own.{caller_of}
use Rattle.esr_quiet.specs.Asked.{GrewAsking}
use Rattle.esr_drive.specs.Stopped.{WasStopped}
use Rattle.esr_drive.specs.Elections.{AllOfWait, WaitsOnly, elections}
use Rattle.esr_complete.specs.Lines.{steps_of_item, steps_of, failovers_of}
use Rattle.esr_complete.specs.Answers.{NoReaderOut, IsIdle}
use Rattle.esr_verify.specs.Idle as verify
use Rattle.esr_verify.specs.Began as verifying
use Rattle.esr_check.specs.Began as checking
use Rattle.esr_verify.specs.Began.{HasBegun}
use Rattle.esr_check.specs.Began.{HasEndedCheck}
use Rattle.esr_run.specs.Waits.{owed_after, owed_then, LineElected}

-- the first of these steps were asked
pub record MadeFirst (s : Start) (wanted : List Step) (old new : List Moment) : Type 0 where
  pub first : List Step
  pub rest : List Step
  pub grew : GrewAsking s first old new
  pub is : first ++ rest ≡ wanted

-- some refusal stopped the work
abbrev pub SomeStopped : List Moment → Type 0
SomeStopped log = (refusal : Refusal) × WasStopped log refusal

-- the work was stopped, or 2 ^ 33 entries were made
abbrev pub HasStopped : List Moment → Type 0
HasStopped log = SomeStopped log ⊎ (2 ^ 33 ≤ length log)

-- no ticket of a restore was given when the history began
abbrev pub HasNoReaders : Start → Type 0
HasNoReaders s = s.world.readers ≡ fin.empty

-- no ticket is out, nor one of a restore
pub record AreIn (s : Start) (log : List Moment) : Type 0 where
  pub tickets : NoneOut s log
  pub readers : NoReaderOut s log

-- what the line asks for was asked, if the history tells the answer, and else a front of it
abbrev pub LineMade : {X : Type 0} → Start → List Step → List Moment → List Moment → Result X StepRefusal → Type 0
LineMade s wanted old new (Ok x) = GrewAsking s wanted old new
LineMade s wanted old new (Err steps.Memory) = MadeFirst s wanted old new
LineMade s wanted old new (Err steps.TurnsSpent) = MadeFirst s wanted old new
LineMade s wanted old new (Err (steps.Refused refusal)) = GrewAsking s wanted old new

-- turns are spent only after 2 ^ 33 entries
abbrev pub LineSpends : {X : Type 0} → List Moment → Result X StepRefusal → Type 0
LineSpends new (Ok x) = Unit {0}
LineSpends new (Err steps.Memory) = Unit {0}
LineSpends new (Err steps.TurnsSpent) = 2 ^ 33 ≤ length new
LineSpends new (Err (steps.Refused refusal)) = Unit {0}

-- no ticket is out after it, unless the work was stopped
abbrev pub LineRests : {X : Type 0} → Start → List Moment → Result X StepRefusal → Type 0
LineRests s new (Ok x) = AreIn s new
LineRests s new (Err steps.Memory) = Unit {0}
LineRests s new (Err steps.TurnsSpent) = 2 ^ 33 ≤ length new
LineRests s new (Err (steps.Refused refusal)) = AreIn s new ⊎ HasStopped new

-- no unit is ready
abbrev pub NoneReady : Start → List Moment → Type 0
NoneReady s log = AnyReady (world_of s log) → ⊥

-- after a wait no unit is ready, unless the work was stopped
abbrev pub WaitEnds : {X : Type 0} → Start → List Moment → Result X StepRefusal → Type 0
WaitEnds s new (Ok x) = NoneReady s new
WaitEnds s new (Err steps.Memory) = Unit {0}
WaitEnds s new (Err steps.TurnsSpent) = Unit {0}
WaitEnds s new (Err (steps.Refused refusal)) = HasStopped new

-- as many elections were made as these lines ask for
abbrev pub AreElected : List ScriptLine → List Moment → List Moment → Type 0
AreElected lines old new = elections new ≡ elections old + failovers_of lines

-- A wait has ended at some point of the history: up to it what the lines before ask for was asked, and nothing else, and as many
-- elections were made; there no unit is ready, and none is out.
pub record WaitEnded (s : Start) (moment : ℕ) (before : List ScriptLine) (old log : List Moment) : Type 0 where
  pub front : List Moment
  pub back : List Moment
  pub is : log ≡ front ++ back
  pub grew : GrewAsking s (steps_of moment before) old front
  pub elected : AreElected before old front
  pub idle : IsIdle s front

-- each wait among the lines has ended
abbrev pub WaitsEnded : Start → ℕ → List ScriptLine → List Moment → List Moment → Type 0
WaitsEnded s moment lines old log = (before after : List ScriptLine) (line : ScriptLine) → lines ≡ before ++ line ∷ after → line.item ≡ items.Wait → WaitEnded s moment before old log

-- the history went on by a look that was refused, since a record swap had failed
pub record WasLookRefused (old new : List Moment) : Type 0 where
  pub look : Moment
  pub is : new ≡ old ++ look ∷ []
  pub looker : look.entry.who ≡ 0
  pub looks : look.entry.step ≡ LookStep
  pub place : ℕ
  pub refused : look.entry.reply ≡ Refused (DeposedAt place)

-- a line that asks for a check was carried out to the check's end, unless memory was wanting or turns were spent; then it may have begun
abbrev pub CheckEnds : {X : Type 0} → List Moment → List Moment → Result X StepRefusal → Type 0
CheckEnds old new (Ok x) = HasEndedCheck old new
CheckEnds old new (Err steps.Memory) = checking.BeganOne old new
CheckEnds old new (Err steps.TurnsSpent) = checking.BeganOne old new
CheckEnds old new (Err (steps.Refused refusal)) = WasLookRefused old new

-- A check has ended at some point of the history, or its look was refused: before it what the lines before ask for was asked, and
-- nothing else.
pub record CheckEnded (s : Start) (moment : ℕ) (before : List ScriptLine) (old log : List Moment) : Type 0 where
  pub front : List Moment
  pub mid : List Moment
  pub back : List Moment
  pub is : log ≡ mid ++ back
  pub grew : GrewAsking s (steps_of moment before) old front
  pub ended : HasEndedCheck front mid ⊎ WasLookRefused front mid

-- each check among the lines has ended
abbrev pub ChecksEnded : Start → ℕ → List ScriptLine → List Moment → List Moment → Type 0
ChecksEnded s moment lines old log = (before after : List ScriptLine) (line : ScriptLine) → lines ≡ before ++ line ∷ after → line.item ≡ items.Check → CheckEnded s moment before old log

-- a line that asks for a verification began with its draw; where memory was wanting or turns were spent it may have made no step
abbrev pub VerifyBegins : {X : Type 0} → List Moment → List Moment → Result X StepRefusal → Type 0
VerifyBegins old new (Ok x) = HasBegun old new
VerifyBegins old new (Err steps.Memory) = verifying.BeganOne old new
VerifyBegins old new (Err steps.TurnsSpent) = verifying.BeganOne old new
VerifyBegins old new (Err (steps.Refused refusal)) = HasBegun old new

-- a command or a look
abbrev pub AsksLine : Step → Type 0
AsksLine step = ((command : Asked) × (step ≡ AskStep command)) ⊎ (step ≡ LookStep)

-- each is one of who 0
abbrev pub AllAsk : List Moment → Type 0
AllAsk [] = Unit {0}
AllAsk (m ∷ more) = (m.entry.who ≡ 0) × AsksLine m.entry.step × AllAsk more

-- the history went on by these alone
pub record AsksOnly (old new : List Moment) : Type 0 where
  pub more : List Moment
  pub is : new ≡ old ++ more
  pub all : AllAsk more

-- what a line adds, but for a check or a verification: a wait elections, takes and steps of tickets alone, another what it asks for alone
abbrev pub AddsOnly : Item → List Moment → List Moment → Type 0
AddsOnly item old new = elim (kind_of item) [ kinds.Wait ↦ WaitsOnly old new | kinds.Check ↦ Unit {0} | kinds.Verify ↦ Unit {0} | kind ↦ AsksOnly old new ]

-- what a line added: one that asks for a check its look, fetches and end, or its look, which was refused; one that asks for a
-- verification its draw and further steps of it
pub record LinePart (item : Item) (old new : List Moment) : Type 0 where
  pub checks : item ≡ items.Check → HasEndedCheck old new ⊎ WasLookRefused old new
  pub verifies : item ≡ items.Verify → HasBegun old new
  pub only : AddsOnly item old new

-- Each line has its part, one after another, in which what it asks for was asked, and nothing else; a wait makes in its part the
-- elections for which the lines since the wait before ask, the first one also so many that are owed.
abbrev pub AreInParts : Start → ℕ → ℕ → List ScriptLine → List Moment → List Moment → Type 0
AreInParts s moment owed [] old new = new ≡ old
AreInParts s moment owed (line ∷ lines) old new =
    (mid : List Moment) × GrewAsking s (steps_of_item moment line.item) old mid × LinePart line.item old mid × LineElected owed line.item old mid × AreInParts s moment (owed_after line.item owed) lines mid new

-- the parts of the lines, and after them that of the wait at the script's end
pub record AreParted (s : Start) (moment : ℕ) (lines : List ScriptLine) (old new : List Moment) : Type 0 where
  pub mid : List Moment
  pub parts : AreInParts s moment 0 lines old mid
  pub elects : elections new ≡ elections mid + owed_then 0 lines
  pub grew : GrewAsking s [] mid new
  pub waits : WaitsOnly mid new

-- no verification is open
abbrev pub NoneOpen : Start → List Moment → Type 0
NoneOpen s log = verify.IsIdle (caller_of s log)

-- a command, or the draw of a verification
abbrev pub AsksOrDraws : Step → Type 0
AsksOrDraws step = ((command : Asked) × (step ≡ AskStep command)) ⊎ (step ≡ ReadStep DrawTest)

-- the history has gone on by steps of a wait alone, from where no verification was open
pub record IsWaiting (s : Start) (log : List Moment) : Type 0 where
  pub start : List Moment
  pub work : List Moment
  pub is : log ≡ start ++ work
  pub all : AllOfWait work
  pub closed : NoneOpen s start

-- among what was added who 0 asked for commands, and drew for verifications, only where P held, and units were taken only where Q did
pub record AskedWhere (P Q : List Moment → Type 0) (old new : List Moment) : Type 0 where
  pub more : List Moment
  pub is : new ≡ old ++ more
  pub apart : (front back : List Moment) (m : Moment) → more ≡ front ++ m ∷ back → m.entry.who ≡ 0 → AsksOrDraws m.entry.step → P (old ++ front)
  pub taken : (front back : List Moment) (m : Moment) → more ≡ front ++ m ∷ back → m.entry.step ≡ TakeStep → Q (old ++ front)

-- who 0 asked and drew only where no ticket was out; and units were taken by waits alone, each of which began where no verification was open
abbrev pub AskedApart : Start → List Moment → List Moment → Type 0
AskedApart s old new = AskedWhere (AreIn s) (IsWaiting s) old new

abbrev pub InOrStopped : Start → List Moment → Type 0
InOrStopped s log = AreIn s log ⊎ HasStopped log

abbrev pub WaitsOrStopped : Start → List Moment → Type 0
WaitsOrStopped s log = IsWaiting s log ⊎ HasStopped log

-- so it was but where the work had been stopped before, or 2 ^ 33 entries had been made
abbrev pub AskedUnlessStopped : Start → List Moment → List Moment → Type 0
AskedUnlessStopped s old new = AskedWhere (InOrStopped s) (WaitsOrStopped s) old new

-- the next wait owes so many of the elections for which these lines ask; the others were made
abbrev pub Owes : ℕ → List ScriptLine → List Moment → List Moment → Type 0
Owes owed lines old new = elections new + owed ≡ elections old + failovers_of lines

-- all lines were carried out, each in its part and asked where no ticket was out, each wait and each check has ended, no ticket is out,
-- and no verification is open
pub record AreMade (s : Start) (moment owed : ℕ) (lines : List ScriptLine) (old new : List Moment) : Type 0 where
  pub grew : GrewAsking s (steps_of moment lines) old new
  pub elected : Owes owed lines old new
  pub waits : WaitsEnded s moment lines old new
  pub checks : ChecksEnded s moment lines old new
  pub owed_is : owed ≡ owed_then 0 lines
  pub parts : AreInParts s moment 0 lines old new
  pub apart : AskedApart s old new
  pub rests : AreIn s new
  pub closed : NoneOpen s new

-- all elections were made, and no unit is ready
pub record AreDone (s : Start) (moment : ℕ) (lines : List ScriptLine) (old new : List Moment) : Type 0 where
  pub grew : GrewAsking s (steps_of moment lines) old new
  pub elected : AreElected lines old new
  pub waits : WaitsEnded s moment lines old new
  pub checks : ChecksEnded s moment lines old new
  pub parted : AreParted s moment lines old new
  pub apart : AskedApart s old new
  pub idle : IsIdle s new
  pub closed : NoneOpen s new

-- all lines were asked and all elections made, but for those that the next wait owes, each check has ended, and no verification is open
pub record AreAsked (s : Start) (moment owed : ℕ) (lines : List ScriptLine) (old new : List Moment) : Type 0 where
  pub grew : GrewAsking s (steps_of moment lines) old new
  pub elected : Owes owed lines old new
  pub checks : ChecksEnded s moment lines old new
  pub closed : NoneOpen s new

-- the work was stopped, after which the further lines were asked all the same; or 2 ^ 33 entries were made
abbrev pub WasLeft : Start → ℕ → ℕ → List ScriptLine → List Moment → List Moment → Type 0
WasLeft s moment owed lines old new = (AreAsked s moment owed lines old new × SomeStopped new) ⊎ (2 ^ 33 ≤ length new)

-- A record swap failed, and all lines were asked and all elections made; or 2 ^ 33 entries were made. For nothing else the work is left undone.
abbrev pub HasFallen : Start → ℕ → List ScriptLine → List Moment → List Moment → Type 0
HasFallen s moment lines old new = (AreAsked s moment 0 lines old new × SwapFailed new) ⊎ (2 ^ 33 ≤ length new)
