use Rattle.std.proofs.Common.{◌≡◌, drop}
use Rattle.std.specs.FinMap.{empty}
use Rattle.esr_depot.specs.Image.{Blobs, sizes_of}
use Rattle.esr_memdepot.specs.Past.{held, is_there}
use Rattle.esr_memdepot.proofs.listing.sizes.Given as goal

-- the sizes of some blobs, over which the rest gives what all of them give
abbrev pub invariant-loop-kept : goal.invariant-loop-kept
invariant-loop-kept l = (m : Blobs) × (l.sizes.entries ≡ sizes_of m) × (held is_there (drop l.kept-index l.blobs) m ≡ held is_there l.blobs empty)
