use Rattle.std.proofs.Common.{◌≡◌, take}
use Rattle.esr_restore.specs.Files.{sum_files}
use Rattle.esr_restore.proofs.files.sum_of.Given as goal

abbrev pub invariant-loop-entry : goal.invariant-loop-entry
invariant-loop-entry l = l.sum ≡ sum_files (take l.entry-index l.entries)
