use Rattle.std.proofs.Common.{ℕ, ◌∙◌, sym, ap}
use Rattle.std.specs.List.{list_all}
use Rattle.esr_core.specs.World.{Op}
use Rattle.esr_core.specs.Steps.{is_done, all_done}
use Rattle.esr_ops.specs.declared.shard.OpenShard.{OpenShard}
use Rattle.esr_ops.specs.Shards.{state_of}
use Rattle.esr_ops.proofs.OpenOps.{all_done-works}
use Rattle.esr_ops.proofs.open_op.OpenOp.is_done.Goals as goal

pub returns : goal.returns
returns c = c.are_done.ensures ∙ ap (list_all (λ (s : OpenShard). is_done (state_of s.state))) c.deref.ensures.value ∙ sym (all_done-works _ _ c.self.inside.shards.items) ∙ ap (λ (v : ℕ × Op). all_done v.1.shards) c.self.view_is
