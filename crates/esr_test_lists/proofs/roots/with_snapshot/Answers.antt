use Rattle.std.proofs.Common.{◌≡◌, false, List, sym, ap, ◌∙◌, subst}
use Rattle.std.specs.List.{list_any}
use Rattle.esr_root.specs.Root.{Root}
use Rattle.esr_root.specs.declared.snaps.RootSnap.{RootSnap}
use Rattle.esr_root.specs.declared.indices.RootIndex.{RootIndex}
use Rattle.esr_test_lists.specs.Free.{takes_one, is_other}
use Rattle.esr_test_lists.proofs.Growing.{may_finalize}
use Rattle.esr_test_lists.proofs.roots.with_snapshot.Goals as goal

pub finalized-requires : goal.finalized-requires
finalized-requires c =
    let root = c.args.root.now in
    let snaps : c.as_slice.result.now ≡ root.snapshots = c.as_slice.ensures.items ∙ ap (λ (r : Root). r.snapshots) c.root.view_is in
    let indices : c.as_slice-2.result.now ≡ root.indices = c.as_slice-2.ensures.items ∙ ap (λ (r : Root). r.indices) c.root.view_is in
    may_finalize root c.in_ok-info.info c.in_ok-results.results c.args.name.now c.args.uuid c.args.generation
    (subst (λ (ss : List RootSnap). list_any (takes_one c.args.name.now c.args.uuid.number) ss ≡ false) snaps (sym c.any_takes.ensures ∙ c.if-any_takes.false))
    (subst (λ (xs : List RootIndex). list_any is_other xs ≡ false) indices (sym c.any_other.ensures ∙ c.if-any_other.false))
    c.in_ok-info.ensures c.in_ok-results.ensures
