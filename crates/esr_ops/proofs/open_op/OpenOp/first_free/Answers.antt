use Rattle.std.proofs.Common.{ℕ, ◌∙◌, sym, ap}
use Rattle.std.specs.List.{position}
use Rattle.esr_core.specs.World.{Op}
use Rattle.esr_ops.specs.Shards.{is_open_free, work_of_shard}
use Rattle.esr_ops.specs.Ops.{is_free}
use Rattle.esr_ops.specs.Lists.{position-map}
use Rattle.esr_ops.proofs.open_op.OpenOp.first_free.Goals as goal

pub returns : goal.returns
returns c =
    c.first_free.ensures ∙ ap (position (is_open_free c.args.ops.now c.args.restores.now c.self.inside.number)) c.deref.ensures.value
    ∙ sym (position-map (is_free c.args.ops.now c.args.restores.now c.self.inside.number) (work_of_shard c.self.inside.making.indices c.self.inside.places) c.self.inside.shards.items)
    ∙ ap (λ (v : ℕ × Op). position (is_free c.args.ops.now c.args.restores.now v.0) v.1.shards) c.self.view_is
