use Rattle.std.proofs.Common.{◌≡◌, ◌||◌, drop}
use Rattle.esr_model.specs.Values.{Bytes}
use Rattle.esr_report.specs.Cleaned.{is_gone}
use Rattle.esr_report.specs.Ends.{holds_text}
use Rattle.esr_report.proofs.cleaned.texts_gone.Given as goal

abbrev pub invariant-loop-entry : goal.invariant-loop-entry
invariant-loop-entry l = (text : Bytes) → is_gone l.entries l.ticket text ≡ (holds_text l.texts text || is_gone (drop l.entry-index l.entries) l.ticket text)
