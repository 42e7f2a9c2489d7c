use Rattle.std.proofs.Common.{◌+◌, List, map, take, sym, ap, ◌∙◌, subst}
use Rattle.esr_root.specs.Root.{Root as CodeRoot}
use Rattle.esr_root.specs.declared.snaps.RootSnap.{RootSnap as CodeSnap}
use Rattle.esr_formats.specs.Roots.{root_of, root_snap_of}
use Rattle.esr_formats.specs.Formats.{formats}
use Rattle.esr_model.specs.Shelf.{Shelved}
use Rattle.esr_model.specs.Image.{AllPairs, At, SnapStands}
use Rattle.esr_plain.proofs.Loops.{exact_some, exact_none, pairs_more, pairs_none}
use Rattle.esr_plain.proofs.snap.shelf_of.Goals as goal

pub returns-in_default : goal.returns-in_default
returns-in_default c = λ known told shelf pairs.
    let f = formats known told in
    let stands = SnapStands f (At f c.args.image.now) (root_of c.args.root.now) in
    let items = c.as_slice-snap-items.result.now in
    let snaps = c.as_slice-snap-items.ensures.items ∙ ap (λ (r : CodeRoot). r.snapshots) c.root.view_is in
    let none = exact_none (stands (root_snap_of c.snap-item.result)) c.in_ok-snap.field-0 c.in_default.is (c.in_ok-snap.ensures known told) in
    pairs_none stands root_snap_of items c.loop-snap.snap-index c.snap-item.result c.loop-snap-test.true c.snap-item.is none shelf
    (subst (λ (ss : List CodeSnap). AllPairs stands (map root_snap_of ss) shelf) (sym snaps) pairs)

pub loop-snap-preserved : goal.loop-snap-preserved
loop-snap-preserved c = λ known told.
    let f = formats known told in
    let stands = SnapStands f (At f c.args.image.now) (root_of c.args.root.now) in
    let items = c.as_slice-snap-items.result.now in
    let one = exact_some (stands (root_snap_of c.snap-item.result)) c.in_ok-snap.field-0 c.in-Some.snap c.in-Some.is (c.in_ok-snap.ensures known told) in
    subst (λ (shelf : List Shelved). AllPairs stands (map root_snap_of (take (c.loop-snap.snap-index + 1) items)) shelf) (sym c.in_ok-push.ensures.ok)
    (pairs_more stands root_snap_of items c.loop-snap.shelf c.loop-snap.snap-index c.snap-item.result c.in-Some.snap c.loop-snap-test.true c.snap-item.is (c.loop-snap.invariant known told) one)
