use Rattle.std.proofs.Common.{sym, ap}
use Rattle.esr_model.specs.Loops.{has_at, every_more, every_all}
use Rattle.esr_names.specs.declared.ids.Id.{Id}
use Rattle.esr_formats.specs.Infos.{info_of_code}
use Rattle.esr_formats.specs.Shards.{shard_index_of}
use Rattle.esr_agreement.specs.Lists.{IsKept}
use Rattle.esr_agreement.proofs.infos.unlisted.Goals as goal

pub returns-then-not-is_kept : goal.returns-then-not-is_kept
returns-then-not-is_kept c = record {
  info = info_of_code c.info-item.result;
  there = has_at info_of_code c.args.infos.now c.loop-info.info-index c.info-item.result c.loop-info-test.true c.info-item.is;
  uuid_is = sym (ap (λ (u : Id). u.number) c.uuid_of.ensures);
  lost = c.is_kept.ensures.lost c.if-not-is_kept.true;
}

pub loop-info-preserved : goal.loop-info-preserved
loop-info-preserved c =
    every_more (IsKept c.args.at.index.number c.args.at.number (shard_index_of c.args.held.now)) info_of_code c.args.infos.now c.loop-info.info-index c.info-item.result c.loop-info-test.true c.info-item.is c.loop-info.invariant
    (c.is_kept.ensures.kept c.if-not-is_kept.false)

pub returns : goal.returns
returns c = every_all (IsKept c.args.at.index.number c.args.at.number (shard_index_of c.args.held.now)) info_of_code c.args.infos.now c.loop-info.info-index c.loop-info-test.false c.loop-info.invariant
