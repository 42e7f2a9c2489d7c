use Rattle.std.proofs.Common.{◌≡◌, ◌-◌, ◌^◌, min, sum_by, take}
use Rattle.esr_core.specs.Entry.{Entry}
use Rattle.esr_report.specs.Cleaned.{page_at, sizes_where}
use Rattle.esr_report.specs.Ends.{holds_text}
use Rattle.esr_report.proofs.cleaned.bytes_gone.Given as goal

abbrev pub invariant-loop-entry : goal.invariant-loop-entry
invariant-loop-entry l = l.bytes ≡ min (sum_by (λ (e : Entry). sizes_where (holds_text l.texts) (page_at l.ticket e)) (take l.entry-index l.entries)) (2 ^ 64 - 1)
