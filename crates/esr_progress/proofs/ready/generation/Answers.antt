use Rattle.std.proofs.Common.{ℕ, ◌≡◌, List, take, option_map, subst}
use Rattle.std.proofs.lemmas.List.{take_all}
use Rattle.esr_core.specs.World.{Op}
use Rattle.esr_formats.specs.Ids.{number_of}
use Rattle.esr_ops.specs.Ops.{IsMost, Among, IsDoneAt}
use Rattle.esr_progress.proofs.Takes.{done_step}
use Rattle.esr_progress.proofs.ready.generation.Goals as goal

pub loop-op-preserved : goal.loop-op-preserved
loop-op-preserved c =
    done_step c.args.shard.index.number c.args.shard.number c.args.ops.now c.loop-op.op-index c.op-item.result c.loop-op.most
    c.generation.result c.later-most.result c.loop-op-test.true c.loop-op.invariant c.op-item.is c.generation.ensures c.later-most.ensures

pub returns : goal.returns
returns c =
    let all : take c.loop-op.op-index c.args.ops.now ≡ c.args.ops.now = take_all c.loop-op.op-index c.args.ops.now c.loop-op-test.false in
    subst (λ (xs : List (ℕ × Op)). IsMost (Among xs (λ (e : ℕ × Op). Among e.1.shards (IsDoneAt c.args.shard.index.number c.args.shard.number))) (option_map number_of c.loop-op.most)) all c.loop-op.invariant
