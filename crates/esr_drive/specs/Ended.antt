-- Tickets that were given, and that have ended.
use Rattle.std.specs.Prelude.{◌≡◌, ℕ, List, ◌++◌}
use Rattle.esr_model.specs.Values.{Has}
use Rattle.esr_core.specs.Entry.{TakeStep, Given, Gave, Moment}
use Rattle.esr_desk.specs.Calls.{Call}
use Rattle.esr_desk.specs.Start.{Start}
use Rattle.esr_drive.specs.Over.{IsOver}

-- the ticket was given by an entry of the history
pub record WasGiven (log : List Moment) (k : ℕ) : Type 0 where
  pub moment : Moment
  pub there : Has log moment
  pub op : ℕ
  pub unit : Given
  pub entry : moment.entry ≡ record { who = 0; step = TakeStep; reply = Gave k op unit }

-- each ticket that one of the calls gave has ended
abbrev pub EachOver : Start → List Moment → List Call → Type 0
EachOver s log calls = (c : Call) (k o : ℕ) (u : Given) → Has calls c → c.entry.reply ≡ Gave k o u → IsOver s log k

-- ... one of those that were added
abbrev pub AllEnded : Start → List Moment → List Call → List Call → Type 0
AllEnded s log old new = (more : List Call) → new ≡ old ++ more → EachOver s log more
