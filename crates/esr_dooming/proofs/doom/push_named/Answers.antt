use Rattle.std.proofs.Common.{ap, ◌∙◌}
use Rattle.std.specs.Ordering.{nat_cmp}
use Rattle.std.specs.BTreeSet.{contains}
use Rattle.esr_root.specs.Root.{Root}
use Rattle.esr_dooming.proofs.Naming.{named_are}
use Rattle.esr_dooming.proofs.doom.push_named.Goals as goal

pub returns : goal.returns
returns c =
    named_are c.args.root.now c.args.uuids.now c.as_slice-ids.result.now c.as_slice-snaps.result.now c.as_slice-indices.result.now (contains nat_cmp c.in_ok-named.named) c.args.names.now c.push_snaps.new.names c.push_index_metas.new.names
    c.as_slice-ids.ensures (c.as_slice-snaps.ensures.items ∙ ap (λ (r : Root). r.snapshots) c.root.view_is) (c.as_slice-indices.ensures.items ∙ ap (λ (r : Root). r.indices) c.root.view_is)
    c.in_ok-named.ensures c.in_ok-push_snaps.ensures c.in_ok-push_index_metas.ensures
