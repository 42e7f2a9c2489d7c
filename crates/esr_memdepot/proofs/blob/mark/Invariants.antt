use Rattle.std.proofs.Common.{◌≡◌, ◌++◌, map, take, drop}
use Rattle.esr_memdepot.specs.Past.{marked}
use Rattle.esr_memdepot.proofs.blob.mark.Given as goal

abbrev pub invariant-loop-kept : goal.invariant-loop-kept
invariant-loop-kept l = l.blobs ≡ map (marked l.name l.gone) (take l.kept-index l.fn.blobs) ++ drop l.kept-index l.fn.blobs
