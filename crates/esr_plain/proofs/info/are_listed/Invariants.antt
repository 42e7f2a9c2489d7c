use Rattle.std.proofs.Common.{take, map}
use Rattle.esr_formats.specs.Roots.{root_of}
use Rattle.esr_formats.specs.Refs.{ref_of_code}
use Rattle.esr_plain.specs.Infos.{AreListed}
use Rattle.esr_plain.proofs.info.are_listed.Given as goal

abbrev pub invariant-loop-index : goal.invariant-loop-index
invariant-loop-index l = AreListed (root_of l.root) l.uuid.number (map ref_of_code (take l.index-index l.indices))
