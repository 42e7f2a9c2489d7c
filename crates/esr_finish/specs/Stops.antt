-- Which refusals stop a finalization, and which leave its ticket.
use Rattle.std.proofs.Common.{◌≡◌, true, false, Err, true≢false}
use Rattle.esr_desk.specs.declared.refusal.EntryRefusal.TheVariants as refusals
use Rattle.esr_desk.specs.declared.refusal.StepRefusal.TheVariants as steps
use Rattle.esr_core.specs.World.{Ticket}
use Rattle.esr_core.specs.Entry.{Step, BeginStep, CommitStep, LatestStep, RaiseStep, SettleStep, Refusal, DeposedAt, AbortedBy}
use Rattle.esr_desk.specs.declared.refusal.StepRefusal.{StepRefusal}
use Rattle.esr_unit.specs.Refusals.{IsWork}
use Rattle.esr_finish.specs.Refused.{IsWriting, is_fault}
use Rattle.esr_desk.specs.Taken.{LeftBy}

-- it is work of a unit
pub writing_works : (step : Step) → IsWriting step → IsWork step
writing_works (BeginStep name) writes = tt
writing_works (CommitStep name) writes = tt
writing_works LatestStep writes = tt
writing_works RaiseStep writes = tt
writing_works SettleStep writes = tt
writing_works step writes = absurd writes

-- before the step is looked at
abbrev pub IsBlock : Refusal → Type 0
IsBlock (DeposedAt place) = Unit {0}
IsBlock (AbortedBy op) = Unit {0}
IsBlock refusal = ⊥

-- for another refusal it hasn't
pub unsettled_same : (gone : Ticket → Type 0) (refusal : StepRefusal) (t u : Ticket) → is_fault refusal ≡ false → LeftBy {X = Unit {0}} gone (Err refusal) t u → u ≡ t
unsettled_same gone (steps.Refused refusals.DepotFault) t u other left = absurd (true≢false other)
unsettled_same gone refusal t u other left = left
