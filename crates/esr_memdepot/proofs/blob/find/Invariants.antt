use Rattle.std.proofs.Common.{◌≡◌, None, drop}
use Rattle.std.specs.Option.{option_copied}
use Rattle.esr_memdepot.specs.Past.{found, is_there}
use Rattle.esr_memdepot.proofs.blob.find.Given as goal

-- to go on from here finds what all of them give
abbrev pub invariant-loop-kept : goal.invariant-loop-kept
invariant-loop-kept l = found is_there l.name (drop l.kept-index l.blobs) (option_copied l.bytes) ≡ found is_there l.name l.blobs None
