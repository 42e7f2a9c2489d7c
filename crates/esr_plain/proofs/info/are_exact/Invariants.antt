use Rattle.std.proofs.Common.{take, map}
use Rattle.esr_formats.specs.Refs.{ref_of_code}
use Rattle.esr_formats.specs.Roots.{root_index_of}
use Rattle.esr_model.specs.Values.{Has, RootIndex}
use Rattle.esr_plain.specs.Infos.{IsReferred}
use Rattle.esr_plain.proofs.info.are_exact.Given as goal

abbrev pub invariant-loop-listed : goal.invariant-loop-listed
invariant-loop-listed l = (x : RootIndex) → Has (map root_index_of (take l.listed-index l.listed-items)) x → Has x.snapshots l.uuid.number → IsReferred (map ref_of_code l.indices) x
