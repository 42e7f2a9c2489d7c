use Rattle.std.proofs.Common.{ap, ◌∙◌, sym}
use Rattle.std.specs.Prelude.{count_by}
use Rattle.esr_results.specs.declared.pruned.PrunedShard.{PrunedShard}
use Rattle.esr_steps.proofs.DeletePlans.{kept_counted}
use Rattle.esr_steps.proofs.deleting.kept_count.Goals as goal

pub returns : goal.returns
returns c = c.count_left.ensures ∙ ap (count_by (λ (p : PrunedShard). p.kept)) c.as_slice.ensures ∙ sym (kept_counted c.args.shards.now)
