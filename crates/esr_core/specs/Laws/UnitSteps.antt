-- Which steps units make, and which clients and readers do.
use Rattle.std.proofs.Common.{◌≡◌, ◌⊎◌, true, true≢false, sym, inl, inr}
use Rattle.esr_core.specs.Entry.{SettlePruned, Step, AskStep, TakeStep, SettleStep, ElectStep, LookStep, ReadStep, PruneStep}
use Rattle.esr_core.specs.Changes.{IsUnits, IsClients, IsReaders}
use Rattle.esr_core.specs.History.{is_settle}

-- a step of who 0 or of a restore's ticket
pub other_unit : (step : Step) → IsClients step ⊎ IsReaders step → IsUnits step → ⊥
other_unit (AskStep command) h unit = unit
other_unit TakeStep h unit = unit
other_unit ElectStep h unit = unit
other_unit LookStep h unit = unit
other_unit (ReadStep read) h unit = unit
other_unit step (inl client) unit = client
other_unit step (inr reader) unit = reader

pub settle_unit : (step : Step) → is_settle step ≡ true → IsUnits step
settle_unit SettleStep e = tt
settle_unit (PruneStep SettlePruned) e = tt
settle_unit step e = absurd (true≢false (sym e))
