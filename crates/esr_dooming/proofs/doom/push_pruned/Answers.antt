use Rattle.std.proofs.Common.{List, map, ap, sym, subst, ◌∙◌}
use Rattle.std.specs.Ordering.{nat_cmp}
use Rattle.std.specs.BTreeSet.{contains}
use Rattle.esr_root.specs.Root.{Root}
use Rattle.esr_results.specs.declared.pruned.PrunedShard.{PrunedShard as CodePruned}
use Rattle.esr_results.specs.Pruned.{pruned_of}
use Rattle.esr_dooming.specs.Reading.{AreFew}
use Rattle.esr_dooming.proofs.Naming.{gone_named}
use Rattle.esr_dooming.proofs.doom.push_pruned.Goals as goal

pub returns : goal.returns
returns c =
    gone_named c.args.root.now c.args.next.now c.args.read.now c.as_slice-before.result.now c.as_slice-after.result.now (contains nat_cmp c.in_ok-listed.listed) (contains nat_cmp c.in_ok-left.left) c.as_slice-items.result.now c.in_ok-shards.shards
    c.args.names.now c.push_shards.new.names (c.as_slice-before.ensures.items ∙ ap (λ (r : Root). r.snapshots) c.root.view_is) (c.as_slice-after.ensures.items ∙ ap (λ (r : Root). r.snapshots) c.next.view_is)
    c.in_ok-listed.ensures c.in_ok-left.ensures c.as_slice-items.ensures c.in_ok-shards.ensures.exact c.in_ok-push_shards.ensures

pub push_shards-requires : goal.push_shards-requires
push_shards-requires c = subst (λ (xs : List CodePruned). AreFew (map pruned_of xs)) (sym c.as_slice-items.ensures) c.in_ok-shards.ensures.few
