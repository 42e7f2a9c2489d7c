use Rattle.std.proofs.Common.{ℕ, ◌∙◌, map, sym, ap}
use Rattle.std.specs.List.{list_all}
use Rattle.esr_core.specs.World.{Op, Done, marked}
use Rattle.esr_core.specs.Steps.{all_done}
use Rattle.esr_ops.specs.declared.shard.OpenShard.{OpenShard}
use Rattle.esr_ops.specs.Shards.{is_done_with}
use Rattle.esr_ops.proofs.OpenOps.{all_done-marked}
use Rattle.esr_ops.proofs.open_op.OpenOp.completes.Goals as goal

pub returns : goal.returns
returns c r =
    c.are_done_with.ensures ∙ ap (list_all (λ (s : OpenShard). is_done_with c.args.ticket s.state)) c.deref.ensures.value ∙ sym (all_done-marked _ _ c.args.ticket r c.self.inside.shards.items)
    ∙ ap (λ (v : ℕ × Op). all_done (map (marked c.args.ticket (Done r)) v.1.shards)) c.self.view_is
