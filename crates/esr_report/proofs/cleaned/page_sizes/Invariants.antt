use Rattle.std.proofs.Common.{◌≡◌, ◌-◌, ◌^◌, min, take}
use Rattle.esr_desk.specs.Listing.{page_of}
use Rattle.esr_report.specs.Cleaned.{sizes_where}
use Rattle.esr_report.specs.Ends.{holds_text}
use Rattle.esr_report.proofs.cleaned.page_sizes.Given as goal

abbrev pub invariant-loop-listed : goal.invariant-loop-listed
invariant-loop-listed l = l.sum ≡ min (sizes_where (holds_text l.texts) (page_of (take l.listed-index l.page))) (2 ^ 64 - 1)
