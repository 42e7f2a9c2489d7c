use Rattle.std.proofs.Common.{sym, ap, ◌∙◌}
use Rattle.std.specs.Prelude.{not}
use Rattle.std.specs.List.{list_any}
use Rattle.std.specs.Ordering.{nat_cmp}
use Rattle.std.specs.BTreeSet.{contains}
use Rattle.esr_shardidx.specs.declared.index.SnapList.{SnapList as CodeList}
use Rattle.esr_formats.specs.Shards.{snap_list_of}
use Rattle.esr_model.specs.Values.{SnapList}
use Rattle.esr_dooming.proofs.Numbers.{any_map}
use Rattle.esr_dooming.proofs.prune.has_unlisted.Goals as goal

pub returns : goal.returns
returns c =
    c.unlisted_among.ensures ∙ ap (list_any (λ (l : CodeList). not (contains nat_cmp c.args.listed.now l.uuid.number))) c.snapshots.ensures
    ∙ sym (any_map (λ (l : SnapList). not (contains nat_cmp c.args.listed.now l.uuid)) snap_list_of c.args.held.now.snapshots)
