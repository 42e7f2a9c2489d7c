-- The entries of a worker: of which ticket an entry is, which one it gave, and the calls of a worker, which are the entries of who 0 at its places.
use Rattle.std.specs.Prelude.{◌≡◌, ℕ, zero, suc, ◌+◌, ◌<◌, ◌≤◌, List, [], ◌∷◌, ◌++◌, Option, Some, None}
use Rattle.esr_turns.specs.Places.{times}
use Rattle.esr_turns.specs.Histories.{said}
use Rattle.esr_core.specs.Entry.{Reply, Gave, Moment}
use Rattle.esr_desk.specs.Calls.{Call, call_at}

-- tickets are numbered from 1 on
abbrev pub ticket_by : ℕ → Option ℕ
ticket_by zero = None
ticket_by (suc k) = Some (suc k)

-- the ticket that the entry is of
abbrev pub ticket_of_moment : Moment → Option ℕ
ticket_of_moment m = ticket_by m.entry.who

abbrev pub given_by : Reply → Option ℕ
given_by (Gave ticket op unit) = Some ticket
given_by reply = None

-- the ticket that it gave
abbrev pub ticket_given : Moment → Option ℕ
ticket_given m = given_by m.entry.reply

-- the ticket was given by an entry at one of these places
abbrev pub IsOwn : List Moment → List ℕ → ℕ → Type 0
IsOwn log mine ticket = (i : ℕ) × (said ticket_given log i ≡ Some ticket) × (0 < times i mine)

-- none of these places is past a history of this length
abbrev pub AreBelow : ℕ → List ℕ → Type 0
AreBelow n mine = (k : ℕ) → n ≤ k → times k mine ≡ 0

-- the entry at a place, if it is of who 0. The first one stands at the place `base` of the whole history
abbrev pub call_in : ℕ → List Moment → ℕ → List Call
call_in base [] i = []
call_in base (m ∷ log) zero = call_at base m.entry
call_in base (m ∷ log) (suc i) = call_in (base + 1) log i

abbrev pub calls_in : ℕ → List Moment → List ℕ → List Call
calls_in base log [] = []
calls_in base log (i ∷ mine) = call_in base log i ++ calls_in base log mine
