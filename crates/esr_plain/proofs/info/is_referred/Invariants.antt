use Rattle.std.proofs.Common.{take, map}
use Rattle.esr_formats.specs.Refs.{ref_of_code}
use Rattle.esr_formats.specs.Roots.{root_index_of}
use Rattle.esr_model.specs.Values.{Has, IndexRef}
use Rattle.esr_plain.proofs.Infos.{IsRefTo}
use Rattle.esr_plain.proofs.info.is_referred.Given as goal

abbrev pub invariant-loop-index : goal.invariant-loop-index
invariant-loop-index l = (r : IndexRef) → Has (map ref_of_code (take l.index-index l.indices)) r → IsRefTo (root_index_of l.listed) r → ⊥
