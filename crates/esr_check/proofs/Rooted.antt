-- What the rule of roots says of one that was read.
use Rattle.std.proofs.Common.{◌≡◌, true, List, map, sym, ◌∙◌, subst, eqb-true}
use Rattle.esr_model.specs.Lists.{Has-mapped, Has-map, pass_has, all_has}
use Rattle.esr_names.specs.declared.ids.Id.{Id}
use Rattle.esr_root.specs.Ids.{same_id}
use Rattle.esr_root.specs.Snaps.{lists}
use Rattle.esr_root.specs.Indices.{IsListed}
use Rattle.esr_root.specs.Root.{Root, IsRoot}
use Rattle.esr_root.specs.declared.snaps.RootSnap.{RootSnap as CodeSnap}
use Rattle.esr_formats.specs.Ids.{number_of}
use Rattle.esr_formats.specs.Roots.{root_of, root_snap_of, root_index_of}
use Rattle.esr_model.specs.Values.{Has, RootSnap, RootIndex}
use Rattle.esr_core.specs.Laws.CleanupReach.{any_was}
use Rattle.esr_check.proofs.Ending.{AreListed}

-- ---- the snapshots of its indices are listed

listed_id : (snaps : List CodeSnap) (u : Id) → lists snaps u ≡ true → (snap : RootSnap) × Has (map root_snap_of snaps) snap × (snap.uuid ≡ u.number)
listed_id snaps u is =
    let found = any_was (λ (s : CodeSnap). same_id s.uuid u) snaps is in
    (root_snap_of found.0, Has-map root_snap_of snaps found.0 found.1, eqb-true found.0.uuid.number u.number found.2)

pub are_listed : (root : Root) → IsRoot root → AreListed (root_of root)
are_listed root rule x u there named =
    let index = Has-mapped root_index_of root.indices x there in
    let own = subst (λ (y : RootIndex). Has y.snapshots u) (sym index.2) named in
    let id = Has-mapped number_of index.0.snapshots u own in
    let passes = pass_has (lists root.snapshots) index.0.snapshots id.0 (all_has (IsListed root.snapshots) root.indices index.0 rule.listed index.1) id.1 in
    let snap = listed_id root.snapshots id.0 passes in
    (snap.0, snap.1, snap.2 ∙ id.2)
