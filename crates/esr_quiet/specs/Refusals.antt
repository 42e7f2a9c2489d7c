-- The refusals that may come where nothing fails.
use Rattle.std.specs.Prelude.{◌≡◌, ◌⊎◌, ℕ, List, ◌∷◌, ◌++◌}
use Rattle.esr_model.specs.Values.{Has}
use Rattle.esr_core.specs.Entry.{Asked, Cleanup, SettlePruned, Step, AskStep, RaiseStep, SettleStep, DroppedStep, PruneStep, Refusal, CleanupRunning, StaleTerm, Refused, Moment}
use Rattle.esr_desk.specs.Start.{Start}
use Rattle.esr_quiet.specs.Smooth.{IsStaleTicket}
use Rattle.esr_core.specs.Refusing.{IsByRule}

-- a command was asked for
abbrev pub IsOfCommand : Moment → Type 0
IsOfCommand m = (command : Asked) × (m.entry.step ≡ AskStep command)

-- who 0 asked a cleanup
abbrev pub HasAskedCleanup : List Moment → Type 0
HasAskedCleanup log = (m : Moment) × Has log m × (m.entry.who ≡ 0) × (m.entry.step ≡ AskStep Cleanup)

-- a cleanup runs only where one was asked before
abbrev pub IsOfCleanup : List Moment → Refusal → Type 0
IsOfCleanup front (CleanupRunning op) = HasAskedCleanup front
IsOfCleanup front refusal = Unit {0}

-- after these moments the command was refused by a rule
abbrev pub IsOfRule : List Moment → Moment → Refusal → Type 0
IsOfRule front m refusal = (of : IsOfCommand m) × IsByRule of.0 refusal × IsOfCleanup front refusal

-- a ticket swaps the record by it: it raises, settles or drops
abbrev pub IsSwapStep : Step → Type 0
IsSwapStep RaiseStep = Unit {0}
IsSwapStep SettleStep = Unit {0}
IsSwapStep DroppedStep = Unit {0}
IsSwapStep (PruneStep SettlePruned) = Unit {0}
IsSwapStep step = ⊥

-- after these moments the swap of a stale ticket was refused as such
pub record IsOfTerm (s : Start) (front : List Moment) (m : Moment) (refusal : Refusal) : Type 0 where
  pub own : ℕ
  pub now : ℕ
  pub is : refusal ≡ StaleTerm own now
  pub swaps : IsSwapStep m.entry.step
  pub stale : IsStaleTicket s front m.entry.who

-- each refusal is that of a command, by a rule, or of a stale ticket's swap
abbrev pub AreByRule : Start → List Moment → Type 0
AreByRule s log = (front back : List Moment) (m : Moment) (refusal : Refusal) → log ≡ front ++ m ∷ back → m.entry.reply ≡ Refused refusal → IsOfRule front m refusal ⊎ IsOfTerm s front m refusal
