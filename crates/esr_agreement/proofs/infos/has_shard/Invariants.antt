use Rattle.std.proofs.Common.{take, map}
use Rattle.esr_formats.specs.Infos.{info_of_code}
use Rattle.esr_model.specs.Values.{Has, SnapInfo}
use Rattle.esr_agreement.specs.Lists.{IsOwn}
use Rattle.esr_agreement.proofs.infos.has_shard.Given as goal

abbrev pub invariant-loop-info : goal.invariant-loop-info
invariant-loop-info l = (i : SnapInfo) → Has (map info_of_code (take l.info-index l.infos)) i → IsOwn l.uuid.number l.at.index.number l.at.number i → ⊥
