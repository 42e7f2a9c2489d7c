-- What workers, and elections beside them, have made of the history.
use Rattle.std.specs.Prelude.{◌≡◌, ◌⊎◌, ℕ, ◌+◌, ◌≤◌, true, List, [], ◌∷◌, ◌++◌, length, OnOk, IfErr, Result, Ok, Err}
use Rattle.esr_model.specs.Values.{Has}
use Rattle.esr_core.specs.Entry.{TakeStep, ElectStep, Given, Gave, Moment}
use Rattle.esr_core.specs.Ready.{AnyReady}
use Rattle.esr_core.specs.Tracked.{Tracked}
use Rattle.esr_core.specs.ReadTracked.{ReadTracked}
use Rattle.esr_source.specs.Told.{SourcesTold, TargetsTold}
use Rattle.esr_turns.specs.Passes.{LockId}
use Rattle.esr_desk.specs.declared.refusal.StepRefusal.{StepRefusal}
use Rattle.esr_desk.specs.declared.refusal.StepRefusal.TheVariants as steps
use Rattle.esr_desk.specs.Start.{Start, world_of, Legal, ticket_of}
use Rattle.esr_desk.specs.Own.{reader_of}
use Rattle.esr_desk.specs.Calls.{Call, calls_at}
use Rattle.esr_desk.specs.Grew.{NoneOut}
use Rattle.esr_quiet.specs.Asked.{GrewAsking}
use Rattle.esr_drive.specs.Outside.{IsOutside}
use Rattle.esr_drive.specs.Over.{NoReaderOut, IsOver}
use Rattle.esr_drive.specs.Ended.{WasGiven, EachOver}
use Rattle.esr_drive.specs.Stopped.{StoppedIn}
use Rattle.esr_drive.specs.Takes.{idle_call, idle_takes}
use Rattle.esr_drive.specs.Elections.{election, HasElected, WaitsOnly}
use Rattle.esr_handle.specs.Owned.{calls_in}
use Rattle.esr_handle.specs.Turned.{Seen, IsFit}

-- ---- calls

-- the h of each, added up
abbrev pub weigh : (Call → ℕ) → List Call → ℕ
weigh h [] = 0
weigh h (c ∷ calls) = h c + weigh h calls

-- whether a call elects: 1, or 0
abbrev pub election_call : Call → ℕ
election_call c = election c.entry.who c.entry.step

-- what a worker does as who 0, or who elects
abbrev pub IsCrewCall : Call → Type 0
IsCrewCall c = (c.entry.step ≡ TakeStep) ⊎ (c.entry.step ≡ ElectStep)

-- what is answered to a worker
abbrev pub Answer : Type 0
Answer = Result (Unit {0}) StepRefusal

-- so many elections were made of those wanted: fewer only where memory was wanting, or turns were spent
abbrev pub AreElected : Answer → ℕ → ℕ → Type 0
AreElected (Ok x) made wanted = made ≡ wanted
AreElected (Err steps.Memory) made wanted = made ≤ wanted
AreElected (Err steps.TurnsSpent) made wanted = made ≤ wanted
AreElected (Err (steps.Refused refusal)) made wanted = made ≡ wanted

-- So many workers, and so many elections, made these calls, up to the end of this history: at most one take a worker found no unit
-- ready. Unless the work was stopped, one of each did, and all that was given has ended.
pub record AreWorked (s : Start) (log : List Moment) (calls : List Call) (workers elects : ℕ) (answer : Answer) : Type 0 where
  pub only : (c : Call) → Has calls c → IsCrewCall c
  pub idle : weigh idle_call calls ≤ workers
  pub all : OnOk answer (weigh idle_call calls ≡ workers)
  pub elected : AreElected answer (weigh election_call calls) elects
  pub over : OnOk answer (EachOver s log calls)
  pub stopped : IfErr answer (StoppedIn s log)

-- The graver of two answers: what the history doesn't tell goes before a refusal that it tells.
abbrev pub graver : Answer → Answer → Answer
graver (Ok x) other = other
graver (Err (steps.Refused refusal)) (Err other) = Err other
graver (Err refusal) other = Err refusal

-- so many elections were made of those wanted by a worker that stops at no refusal that the history tells
abbrev pub AreMade : Answer → ℕ → ℕ → Type 0
AreMade (Ok x) made wanted = made ≡ wanted
AreMade (Err steps.Memory) made wanted = made ≤ wanted
AreMade (Err steps.TurnsSpent) made wanted = made ≤ wanted
AreMade (Err (steps.Refused refusal)) made wanted = ⊥

-- the desk has made these elections, and no other call
pub record HasElectedBy (times : ℕ) (old new : List Call) (answer : Answer) : Type 0 where
  pub more : List Call
  pub is : new ≡ old ++ more
  pub only : (c : Call) → Has more c → c.entry.step ≡ ElectStep
  pub gave : (c : Call) (k o : ℕ) (u : Given) → Has more c → c.entry.reply ≡ Gave k o u → ⊥
  pub idle : weigh idle_call more ≡ 0
  pub made : AreMade answer (weigh election_call more) times

-- ---- laws

-- what has ended stays so
abbrev pub OverStays : Type 0
OverStays = (s : Start) (old more : List Moment) (k : ℕ) → IsOver s old k → IsOver s (old ++ more) k

-- a ticket that is out was so, or was given since; so is that of a restore
abbrev pub OutWasGiven : Type 0
OutWasGiven = (s : Start) (old more : List Moment) (k : ℕ) → Legal s (old ++ more) → (ticket_of s (old ++ more) k).out ≡ true → ((ticket_of s old k).out ≡ true) ⊎ WasGiven more k

abbrev pub ReaderWasGiven : Type 0
ReaderWasGiven = (s : Start) (old more : List Moment) (k : ℕ) → Legal s (old ++ more) → (reader_of s (old ++ more) k).out ≡ true → ((reader_of s old k).out ≡ true) ⊎ WasGiven more k

-- ---- passes

-- what a worker is to work on is what the start tells
pub record IsWorkable (s : Start) (sources : SourcesTold) (targets : TargetsTold) (part_size : ℕ) : Type 0 where
  pub outside : IsOutside s sources targets part_size
  pub tracked : ReadTracked s.world
  pub ops : Tracked s.world

-- A wait may begin: nobody else steps at the desk, there are one to 64 workers, and they are to work on what the start tells.
pub record MayWait (s : Start) (sources : SourcesTold) (targets : TargetsTold) (part_size workers : ℕ) : Type 0 where
  pub alone : s.alone ≡ true
  pub some : 1 ≤ workers
  pub few : workers ≤ 64
  pub workable : IsWorkable s sources targets part_size

-- a pass of the lock that has neither stepped nor used a turn, with at least so many turns
pub record IsNewPass (s : Start) (before : List Moment) (lock : LockId) (least : ℕ) (p : Seen) : Type 0 where
  pub own : p.lock ≡ lock
  pub mine : p.mine ≡ []
  pub unused : p.used ≡ 0
  pub share : least ≤ p.left
  pub fit : IsFit s before p

-- the pass came back from so many workers and elections: the calls at its places are theirs
pub record IsBack (s : Start) (before : List Moment) (lock : LockId) (old new : Seen) (workers elects : ℕ) (answer : Answer) : Type 0 where
  pub own : new.lock ≡ lock
  pub turns : new.left + new.used ≡ old.left + old.used
  pub fit : IsFit s before new
  pub worked : AreWorked s (before ++ new.seen) (calls_in (length before) new.seen new.mine) workers elects answer

-- ---- histories

-- all calls since are those of the crew
pub record HasSat (s : Start) (old new : List Moment) (workers elects : ℕ) (answer : Answer) : Type 0 where
  pub more : List Moment
  pub is : new ≡ old ++ more
  pub legal : Legal s new
  pub worked : AreWorked s new (calls_at (length old) more) workers elects answer

-- what a wait says of its history
pub record HasWaited (s : Start) (old new : List Moment) (workers elects : ℕ) (answer : Answer) : Type 0 where
  pub grew : GrewAsking s [] old new
  pub only : WaitsOnly old new
  pub takes : idle_takes new ≤ idle_takes old + workers
  pub elected : HasElected elects old new answer
  pub rest : OnOk answer (NoneOut s old → NoReaderOut s old → NoneOut s new)
  pub readers : OnOk answer (NoneOut s old → NoReaderOut s old → NoReaderOut s new)
  pub ready : OnOk answer (AnyReady (world_of s new) → ⊥)
  pub stopped : IfErr answer (StoppedIn s new)
