-- Failed calls, and texts that don't read, as refusals to open.
use Rattle.std.specs.Prelude.{None}
use Rattle.esr_model.specs.Values.{Bytes}
use Rattle.esr_depot.specs.declared.error.CallError.{CallError}
use Rattle.esr_depot.specs.declared.error.CallError.TheVariants as calls
use Rattle.esr_json.specs.declared.refusal.ReadRefusal.{ReadRefusal}
use Rattle.esr_json.specs.declared.refusal.ReadRefusal.TheVariants as reads
use Rattle.esr_opening.specs.declared.refusal.Why.TheVariants.{Unreadable}
use Rattle.esr_opening.specs.declared.refusal.OpenRefusal.{OpenRefusal}
use Rattle.esr_opening.specs.declared.refusal.OpenRefusal.TheVariants as refusals

-- the error of a call
abbrev pub call_refusal : {F : Type 0} → CallError → OpenRefusal F
call_refusal calls.Memory = refusals.Memory
call_refusal calls.Failed = refusals.DepotFault None

-- why a text of this name wasn't read
abbrev pub unread : {F : Type 0} → Bytes → ReadRefusal → OpenRefusal F
unread name reads.Memory = refusals.Memory
unread name (reads.Damaged reason) = refusals.Damaged name (Unreadable reason)
