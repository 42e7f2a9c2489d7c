use Rattle.std.proofs.Common.{ℕ, ◌∙◌, sym, ap}
use Rattle.std.specs.List.{list_any}
use Rattle.esr_ops.specs.declared.shard.OpenShard.{OpenShard}
use Rattle.esr_ops.specs.Plan.{RestorePlan}
use Rattle.esr_ops.specs.Shards.{waits, state_of}
use Rattle.esr_ops.specs.Restores.{is_waiting}
use Rattle.esr_ops.proofs.OpenRestores.{any_waits-reads}
use Rattle.esr_ops.proofs.restore.OpenRestore.waits.Goals as goal

pub returns : goal.returns
returns c =
    c.any_waits.ensures ∙ ap (list_any (λ (s : OpenShard). waits (state_of s.state))) c.deref.ensures.value ∙ sym (any_waits-reads _ _ c.self.inside.shards.items)
    ∙ ap (λ (v : ℕ × RestorePlan). list_any is_waiting v.1.shards) c.self.view_is
