use Rattle.std.proofs.Common.{◌≡◌, None, drop}
use Rattle.std.specs.Option.{option_copied}
use Rattle.esr_source.specs.Files.{is_rising}
use Rattle.esr_source.proofs.files.is_rising.Given as goal

abbrev pub invariant-loop-file : goal.invariant-loop-file
invariant-loop-file l = is_rising (option_copied l.last) (drop l.file-index l.files) ≡ is_rising None l.fn.files
