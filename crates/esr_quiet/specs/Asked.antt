-- What was asked at lines, by a history.
use Rattle.std.specs.Prelude.{◌≡◌, ℕ, ◌<◌, ◌==◌, Bool, true, false, ◌&&◌, if◌then◌else◌, List, [], ◌∷◌, ◌++◌, None}
use Rattle.esr_model.specs.Values.{Bytes, Has}
use Rattle.esr_core.specs.Entry.{AskedIndex, Snapshot, Clone, DrawTest, Step, AskStep, TakeStep, ElectStep, ReadStep, Entry, Moment}
use Rattle.esr_desk.specs.Start.{Start, Legal}

-- A line asks for the step where it stands: it takes no unit, elects nobody, and is no further step of a check or of a verification.
-- What a verification asks for is its draw, with which it begins.
abbrev pub is_line_ask : Step → Bool
is_line_ask TakeStep = false
is_line_ask ElectStep = false
is_line_ask (ReadStep DrawTest) = true
is_line_ask (ReadStep read) = false
is_line_ask step = true

-- a step of who 0 for which a line asks
abbrev pub is_asked : Entry → Bool
is_asked e = (e.who == 0) && is_line_ask e.step

-- the step as a line asks for it: what a clone takes its entry alone tells
abbrev pub as_asked : Step → Step
as_asked (AskStep (Clone source name indices moment taken)) = AskStep (Clone source name indices moment None)
as_asked step = step

-- what was asked, in order
abbrev pub asked_steps : List Moment → List Step
asked_steps [] = []
asked_steps (m ∷ log) = if is_asked m.entry then as_asked m.entry.step ∷ asked_steps log else asked_steps log

-- a history has gone on by legal steps, and these were asked by them where nobody else makes a step
pub record GrewAsking (s : Start) (steps : List Step) (old new : List Moment) : Type 0 where
  pub more : List Moment
  pub is : new ≡ old ++ more
  pub legal : Legal s old → Legal s new
  pub asked : s.alone ≡ true → asked_steps more ≡ steps

-- the shards of each index are steady: no call of one fails
abbrev pub IsSteady : Start → List AskedIndex → Type 0
IsSteady s indices = (a : AskedIndex) (number : ℕ) → Has indices a → number < a.shards → s.steady a.place a.name number ≡ true

-- and so is each shard of which who 0 asked a snapshot
abbrev pub AreSteady : Start → List Moment → Type 0
AreSteady s log = (m : Moment) (name : Bytes) (indices : List AskedIndex) (moment : ℕ) → Has log m → m.entry.who ≡ 0 → m.entry.step ≡ AskStep (Snapshot name indices moment) → IsSteady s indices
