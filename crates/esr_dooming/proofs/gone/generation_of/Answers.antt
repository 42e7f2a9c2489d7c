use Rattle.std.proofs.Common.{refl, sym, ◌∙◌}
use Rattle.esr_dooming.proofs.Changed.{ahead_more, generation_here, generation_none}
use Rattle.esr_dooming.proofs.gone.generation_of.Goals as goal

pub loop-index-init : goal.loop-index-init
loop-index-init c = refl

pub returns-then-eq : goal.returns-then-eq
returns-then-eq c =
    generation_here c.args.indices.now c.args.shard.index.number c.args.shard.number c.loop-index.index-index c.index-item.result c.get.result c.loop-index-test.true c.index-item.is
    (sym c.eq.ensures ∙ c.if-eq.true) c.loop-index.invariant c.get.ensures

pub loop-index-preserved : goal.loop-index-preserved
loop-index-preserved c = ahead_more c.args.indices.now c.args.shard.index.number c.loop-index.index-index c.index-item.result c.loop-index-test.true c.index-item.is (sym c.eq.ensures ∙ c.if-eq.false) c.loop-index.invariant

pub returns : goal.returns
returns c = generation_none c.args.indices.now c.args.shard.index.number c.args.shard.number c.loop-index.index-index c.loop-index-test.false c.loop-index.invariant
