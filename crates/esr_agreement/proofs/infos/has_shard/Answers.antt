use Rattle.esr_model.specs.Loops.{has_at, every_more}
use Rattle.esr_formats.specs.Infos.{info_of_code}
use Rattle.esr_model.specs.Values.{SnapInfo}
use Rattle.esr_agreement.specs.Lists.{IsOwn}
use Rattle.esr_agreement.specs.AgreementTests.{so, not_so}
use Rattle.esr_agreement.proofs.Loops.{holds}
use Rattle.esr_agreement.proofs.infos.has_shard.Goals as goal

pub returns-then-is_own : goal.returns-then-is_own
returns-then-is_own c =
    holds (
      info_of_code c.info-item.result,
      has_at info_of_code c.args.infos.now c.loop-info.info-index c.info-item.result c.loop-info-test.true c.info-item.is,
      so c.is_own.result c.is_own.ensures c.if-is_own.true,
    )

pub loop-info-preserved : goal.loop-info-preserved
loop-info-preserved c =
    every_more (λ (i : SnapInfo). IsOwn c.args.uuid.number c.args.at.index.number c.args.at.number i → ⊥) info_of_code c.args.infos.now c.loop-info.info-index c.info-item.result c.loop-info-test.true c.info-item.is c.loop-info.invariant
    (not_so c.is_own.result c.is_own.ensures c.if-is_own.false)
