use Rattle.std.proofs.Common.{◌≡◌, ◌++◌, drop, map}
use Rattle.esr_source.specs.Files.{listed_of, told_file}
use Rattle.esr_source.proofs.files.listing_of.Given as goal

abbrev pub invariant-loop-file : goal.invariant-loop-file
invariant-loop-file l = l.listing ++ map (λ f. listed_of (told_file f)) (drop l.file-index l.files) ≡ map (λ f. listed_of (told_file f)) l.fn.files
