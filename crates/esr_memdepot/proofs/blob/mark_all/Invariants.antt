use Rattle.std.proofs.Common.{◌≡◌, drop}
use Rattle.esr_memdepot.specs.Past.{mark_each}
use Rattle.esr_memdepot.proofs.blob.mark_all.Given as goal

-- to go on from here gives what all of them give
abbrev pub invariant-loop-place : goal.invariant-loop-place
invariant-loop-place l = mark_each (drop l.place l.names) l.at l.place l.blobs.items ≡ mark_each l.names l.at 0 l.fn.blobs.items
