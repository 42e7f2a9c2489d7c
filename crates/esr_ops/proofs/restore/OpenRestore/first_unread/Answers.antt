use Rattle.std.proofs.Common.{ℕ, ◌∙◌, sym, ap}
use Rattle.std.specs.List.{position}
use Rattle.esr_ops.specs.declared.shard.OpenShard.{OpenShard}
use Rattle.esr_ops.specs.Plan.{RestorePlan}
use Rattle.esr_ops.specs.Shards.{is_pending, state_of}
use Rattle.esr_ops.specs.Restores.{is_unread, work_of_read}
use Rattle.esr_ops.specs.Lists.{position-map}
use Rattle.esr_ops.proofs.restore.OpenRestore.first_unread.Goals as goal

pub returns : goal.returns
returns c =
    c.first_unread.ensures ∙ ap (position (λ (s : OpenShard). is_pending (state_of s.state))) c.deref.ensures.value
    ∙ sym (position-map is_unread (work_of_read c.self.inside.indices c.self.inside.place) c.self.inside.shards.items)
    ∙ ap (λ (v : ℕ × RestorePlan). position is_unread v.1.shards) c.self.view_is
