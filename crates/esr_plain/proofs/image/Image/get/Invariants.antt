use Rattle.std.proofs.Common.{◌≡◌, drop}
use Rattle.std.specs.FinMap as fin
use Rattle.esr_plain.specs.Images.{blobs_of}
use Rattle.esr_plain.proofs.image.Image.get.Given as goal

-- to go on from here finds what all of them give
abbrev pub invariant-loop-blob : goal.invariant-loop-blob
invariant-loop-blob l = fin.get (blobs_of (drop l.blob-index l.blob-items)) l.name ≡ fin.get l.self l.name
