-- Who 0 alone asks and elects, but for steps that are blocked.
use Rattle.std.proofs.Common.{◌≡◌, ◌⊎◌, ℕ, inl, inr}
use Rattle.esr_model.specs.Values.{Formats}
use Rattle.esr_core.specs.World.{World}
use Rattle.esr_core.specs.Entry.{Step, AskStep, ElectStep, Moment}
use Rattle.esr_core.specs.Allowed.{Allowed, IsBlocked}
use Rattle.esr_core.specs.Changes.{IsReaders, IsUnits, Maker, ClientStep, ReaderStep, UnitStep}
use Rattle.esr_core.specs.Laws.Makers.{maker}

-- it asks for a command, or elects a master
abbrev pub AsksOrElects : Step → Type 0
AsksOrElects (AskStep command) = Unit {0}
AsksOrElects ElectStep = Unit {0}
AsksOrElects step = ⊥

no_reader : (step : Step) → IsReaders step → AsksOrElects step → ⊥
no_reader (AskStep command) reads asks = reads
no_reader ElectStep reads asks = reads
no_reader step reads asks = asks

no_unit : (step : Step) → IsUnits step → AsksOrElects step → ⊥
no_unit (AskStep command) units asks = units
no_unit ElectStep units asks = units
no_unit step units asks = asks

pub made_zero : (w : World) (who : ℕ) (step : Step) → Maker w who step → AsksOrElects step → who ≡ 0
made_zero w who step (ClientStep zero client) asks = zero
made_zero w who step (ReaderStep q reading reads) asks = absurd (no_reader step reads asks)
made_zero w who step (UnitStep t out units) asks = absurd (no_unit step units asks)

pub asker : (f : Formats) (size : ℕ) (w : World) (m : Moment) → Allowed f size w m → AsksOrElects m.entry.step → (m.entry.who ≡ 0) ⊎ IsBlocked w m
asker f size w m a asks = elim (maker f size w m a) [
  | inl made ↦ inl (made_zero w m.entry.who m.entry.step made asks)
  | inr blocked ↦ inr blocked
]
