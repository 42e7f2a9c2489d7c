-- What a worker keeps of its pass, and what a turn shows.
use Rattle.std.specs.Prelude.{◌≡◌, ◌⊎◌, ℕ, ◌+◌, ◌^◌, ◌<◌, ◌≤◌, Bool, true, false, List, [], ◌∷◌, ◌++◌, length, Option, Some, None, Result, Ok, Err}
use Rattle.esr_turns.specs.Histories.{said}
use Rattle.esr_turns.specs.Tickets.{MayAdd}
use Rattle.esr_turns.specs.Passes.{LockId, Holder}
use Rattle.esr_core.specs.Entry.{Moment}
use Rattle.esr_desk.specs.declared.refusal.StepRefusal.{StepRefusal}
use Rattle.esr_desk.specs.declared.refusal.StepRefusal.TheVariants as steps
use Rattle.esr_desk.specs.Start.{Start, world_of, Legal}
use Rattle.esr_desk.specs.Calls.{call_at, calls_at, HasTaken}
use Rattle.esr_desk.specs.Evidence.{NeverFailed}
use Rattle.esr_desk.specs.Numbered.{Numbered}
use Rattle.esr_desk.specs.Outcome.{Waited}
use Rattle.esr_handle.specs.Owned.{ticket_of_moment, ticket_given, IsOwn, AreBelow, calls_in}

-- as workers see it, others make steps, too
abbrev pub shared : Start → Start
shared s = record s { alone = false }

-- a pass of the lock: the entries that it has seen came since the desk was put in
abbrev pub Seen : Type 0
Seen = Holder (List Moment) Moment

-- stands for no lock
abbrev pub no_lock : LockId
no_lock = record { words = 0; slots = 0; views_name = 0; atom = 0; block = 0; offset = 0; slot_names = [] }

-- what holds of each pass: its places are of entries that it has seen, which are legal
pub record IsFit (s : Start) (before : List Moment) (p : Seen) : Type 0 where
  pub below : AreBelow (length p.seen) p.mine
  pub legal : Legal s (before ++ p.seen)
  pub never : s.quiet ≡ true → NeverFailed (before ++ p.seen)

-- A worker's pass is of this lock, with so many turns in all. Unless the worker is over, each turn that it used added an entry.
pub record IsSeat (s : Start) (before : List Moment) (lock : LockId) (total : ℕ) (own : LockId) (is_over : Bool) (p : Seen) : Type 0 where
  pub own_is : p.lock ≡ own
  pub lock_is : own ≡ lock
  pub turns : p.left + p.used ≡ total
  pub much : 2 ^ 33 ≤ s.earlier_turns + total
  pub used : is_over ≡ false → p.used ≤ length p.seen
  pub fit : IsFit s before p

-- what holds of a worker's pass in its turn, which may add an entry
pub record IsLent (s : Start) (lock : LockId) (total : ℕ) (own : LockId) (turn : Seen) : Type 0 where
  pub own_is : turn.lock ≡ own
  pub lock_is : own ≡ lock
  pub turns : turn.left + turn.used ≡ total
  pub much : 2 ^ 33 ≤ s.earlier_turns + total
  pub used : turn.used ≤ length turn.seen + 1
  pub below : AreBelow (length turn.seen) turn.mine

-- What its turn shows a worker: `value` is the whole history. Others made steps since, but none of its tickets did.
pub record Turned (s : Start) (before : List Moment) (pass turn : Seen) (value : List Moment) : Type 0 where
  pub whole : value ≡ before ++ turn.seen
  pub mine : turn.mine ≡ pass.mine
  pub legal : Legal s value
  pub numbered : Numbered 1 s.world
  pub alone : s.alone ≡ true
  pub waited : (who : ℕ) → (1 ≤ who → IsOwn pass.seen pass.mine who) → Waited (shared s) (before ++ pass.seen) value who
  pub own : (who : ℕ) → IsOwn pass.seen pass.mine who → IsOwn turn.seen turn.mine who
  pub taken : (who : ℕ) → HasTaken (calls_in (length before) pass.seen pass.mine) who → HasTaken (calls_at 0 value) who
  pub calls : calls_in (length before) turn.seen turn.mine ≡ calls_in (length before) pass.seen pass.mine
  -- each ticket that was given is below the next one
  pub given : (i ticket : ℕ) → said ticket_given turn.seen i ≡ Some ticket → ticket < (world_of s value).next_ticket

-- the history tells the answer
abbrev pub was_told : {X : Type 0} → Result X StepRefusal → Bool
was_told (Ok x) = true
was_told (Err steps.Memory) = false
was_told (Err steps.TurnsSpent) = false
was_told (Err (steps.Refused refusal)) = true

-- Where a turn comes to its end the history has an entry more, which may come and tells the answer, or is as it was and doesn't tell it.
abbrev pub Came : List Moment → Seen → List Moment → Bool → Type 0
Came before turn value is_told =
    ((value ≡ before ++ turn.seen) × (is_told ≡ false))
    ⊎ ((m : Moment) × (value ≡ (before ++ turn.seen) ++ m ∷ []) × MayAdd ticket_of_moment ticket_given turn.seen turn.mine m × (is_told ≡ true))

-- what the pass has seen then is the whole history, and the entry that came is its own
pub record Homed (before : List Moment) (turn : Seen) (value : List Moment) (pass : Seen) : Type 0 where
  pub whole : before ++ pass.seen ≡ value
  pub same : value ≡ before ++ turn.seen → calls_in (length before) pass.seen pass.mine ≡ calls_in (length before) turn.seen turn.mine
  pub more : (m : Moment) → value ≡ (before ++ turn.seen) ++ m ∷ [] → calls_in (length before) pass.seen pass.mine ≡ calls_in (length before) turn.seen turn.mine ++ call_at (length (before ++ turn.seen)) m.entry

-- ---- a worker's seat

-- its pass; one that is over takes no turn any more
pub record Seated : Type 0 where
  pub pass : Seen
  pub is_over : Bool

-- stands for that of a worker that is in its turn
abbrev pub no_seat : Seated
no_seat = record { pass = record { lock = no_lock; seen = []; mine = []; left = 0; used = 0; put = None; last = 0 }; is_over = true }

abbrev pub or_no_seat : Option Seated → Seated
or_no_seat None = no_seat
or_no_seat (Some s) = s

-- why a seat takes no turn: it is over, or no turn is left
abbrev pub RefusesTurn : Seated → StepRefusal → Type 0
RefusesTurn seat steps.Memory = seat.is_over ≡ true
RefusesTurn seat steps.TurnsSpent = (seat.is_over ≡ false) × (seat.pass.left ≡ 0)
RefusesTurn seat (steps.Refused refusal) = ⊥
