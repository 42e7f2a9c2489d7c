use Rattle.std.proofs.Common.{◌≡◌, take, map}
use Rattle.esr_formats.specs.Names.{name_of}
use Rattle.esr_model.specs.Names.{BlobName}
use Rattle.esr_model.specs.Values.{Has}
use Rattle.esr_plain.proofs.reached.has_name.Given as goal

abbrev pub invariant-loop-old : goal.invariant-loop-old
invariant-loop-old l = (n : BlobName) → Has (map name_of (take l.old-index l.names)) n → n ≡ name_of l.name → ⊥
