use Rattle.std.proofs.Common.{ℕ, ◌≡◌, List, take, option_map, ◌∙◌, subst}
use Rattle.std.proofs.lemmas.List.{take_all}
use Rattle.esr_core.specs.World.{Op}
use Rattle.esr_formats.specs.Ids.{number_of}
use Rattle.esr_ops.specs.declared.shard.OpenShard.{OpenShard}
use Rattle.esr_ops.specs.Ops.{IsMost, Among, IsDoneAt}
use Rattle.esr_ops.proofs.OpenOps.{IsDoneOpen, generation_step, most_works}
use Rattle.esr_ops.proofs.open_op.OpenOp.generation.Goals as goal

pub loop-open-preserved : goal.loop-open-preserved
loop-open-preserved c = generation_step c.args.shard _ _ _ _ _ _ c.loop-open-test.true c.loop-open.invariant c.generation.ensures c.later-most.ensures

pub returns : goal.returns
returns c =
    let all : take c.loop-open.open-index c.deref-open-items.result.now ≡ c.self.inside.shards.items = take_all c.loop-open.open-index c.deref-open-items.result.now c.loop-open-test.false ∙ c.deref-open-items.ensures.value in
    let here = subst (λ (xs : List OpenShard). IsMost (Among xs (IsDoneOpen c.args.shard)) (option_map number_of c.loop-open.most)) all c.loop-open.invariant in
    subst (λ (v : ℕ × Op). IsMost (Among v.1.shards (IsDoneAt c.args.shard.index.number c.args.shard.number)) (option_map number_of c.loop-open.most)) c.self.view_is (most_works _ _ c.self.inside.shards.items c.args.shard _ here)
