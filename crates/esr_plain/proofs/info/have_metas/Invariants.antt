use Rattle.std.proofs.Common.{take, map}
use Rattle.esr_formats.specs.Refs.{ref_of_code}
use Rattle.esr_model.specs.Image.{At}
use Rattle.esr_plain.specs.Exactly.{Always}
use Rattle.esr_plain.specs.Infos.{HaveMetas}
use Rattle.esr_plain.proofs.info.have_metas.Given as goal

abbrev pub invariant-loop-index : goal.invariant-loop-index
invariant-loop-index l = Always (λ f. HaveMetas f (At f l.image) l.uuid.number (map ref_of_code (take l.index-index l.indices)))
