use Rattle.std.proofs.Common.{◌≡◌, take}
use Rattle.esr_clone.specs.Copied.{sum_entries}
use Rattle.esr_clone.proofs.copy.sum_of.Given as goal

abbrev pub invariant-loop-entry : goal.invariant-loop-entry
invariant-loop-entry l = l.sum ≡ sum_entries (take l.entry-index l.entries)
