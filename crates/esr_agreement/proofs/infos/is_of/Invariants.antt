use Rattle.std.proofs.Common.{take, map}
use Rattle.esr_formats.specs.Refs.{ref_of_code}
use Rattle.esr_model.specs.Values.{Has, IndexRef}
use Rattle.esr_agreement.specs.Lists.{IsAt}
use Rattle.esr_agreement.proofs.infos.is_of.Given as goal

abbrev pub invariant-loop-told : goal.invariant-loop-told
invariant-loop-told l = (r : IndexRef) → Has (map ref_of_code (take l.told-index l.told-items)) r → IsAt r l.at.index.number l.at.number → ⊥
