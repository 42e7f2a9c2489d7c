use Rattle.std.proofs.Common.{ℕ, ◌∙◌, sym, ap}
use Rattle.std.specs.List.{list_any}
use Rattle.esr_core.specs.World.{Op}
use Rattle.esr_ops.specs.Shards.{is_open_waiting, waits_on}
use Rattle.esr_ops.proofs.OpenOps.{any_waits-works}
use Rattle.esr_ops.proofs.open_op.OpenOp.waits_on.Goals as goal

pub returns : goal.returns
returns c =
    c.wait.ensures ∙ ap (list_any (is_open_waiting c.args.shard)) c.deref.ensures.value ∙ sym (any_waits-works _ _ c.args.shard c.self.inside.shards.items)
    ∙ ap (λ (v : ℕ × Op). list_any (waits_on c.args.shard) v.1.shards) c.self.view_is
