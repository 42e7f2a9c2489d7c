use Rattle.std.proofs.Common.{ℕ, ◌≡◌, ◌-◌, ◌^◌, List, true, min, sym, ap, ◌∙◌, subst, refl}
use Rattle.std.specs.Prelude.{sum_by}
use Rattle.std.specs.List.{filter_map}
use Rattle.esr_core.specs.World.{Op}
use Rattle.esr_core.specs.Steps.{all_done}
use Rattle.esr_ops.specs.declared.shard.OpenShard.{OpenShard}
use Rattle.esr_results.specs.declared.result.ShardResult.{ShardResult as CodeResult}
use Rattle.esr_ops.specs.Shards.{result_in}
use Rattle.esr_ops.proofs.Results.{final_work}
use Rattle.esr_ops.proofs.open_op.OpenOp.finalization.Goals as goal

pub returns : goal.returns
returns c =
    let results = c.in_ok-shards.ensures ∙ ap (filter_map (λ (s : OpenShard). result_in s.state)) c.deref.ensures.value in
    let done = subst (λ (v : ℕ × Op). all_done v.1.shards ≡ true) (sym c.self.view_is) c.requires in
    let sums = c.sums-files.ensures ∙ ap (λ (rs : List CodeResult). (min (sum_by (λ (r : CodeResult). r.files) rs) (2 ^ 63 - 1), min (sum_by (λ (r : CodeResult). r.bytes) rs) (2 ^ 63 - 1))) c.as_slice.ensures in
    rw (← c.self.view_is)
    (final_work c.self.inside.making c.self.inside.places c.self.inside.shards.items c.self.inside.failed c.self.inside.source c.self.inside.aborted
    c.in_ok-shards.shards _ c.sums-files.result results done sums refl refl c.in_ok-try_clone.ensures refl c.in_ok-try_clone-2.ensures refl refl)
