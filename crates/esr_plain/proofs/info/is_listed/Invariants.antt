use Rattle.std.proofs.Common.{take, map}
use Rattle.esr_formats.specs.Roots.{root_index_of}
use Rattle.esr_formats.specs.Refs.{ref_of_code}
use Rattle.esr_model.specs.Values.{Has, RootIndex}
use Rattle.esr_plain.proofs.Infos.{IsIndexOf}
use Rattle.esr_plain.proofs.info.is_listed.Given as goal

abbrev pub invariant-loop-listed : goal.invariant-loop-listed
invariant-loop-listed l = (x : RootIndex) → Has (map root_index_of (take l.listed-index l.listed-items)) x → IsIndexOf l.uuid.number (ref_of_code l.index) x → ⊥
