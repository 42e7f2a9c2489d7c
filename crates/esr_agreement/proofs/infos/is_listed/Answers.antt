use Rattle.std.proofs.Common.{◌≡◌, List, map, ap, ◌∙◌, subst}
use Rattle.esr_model.specs.Loops.{has_at, every_more}
use Rattle.esr_root.specs.Root.{Root as CodeRoot}
use Rattle.esr_root.specs.declared.snaps.RootSnap.{RootSnap as CodeSnap}
use Rattle.esr_formats.specs.Roots.{root_snap_of}
use Rattle.esr_model.specs.Values.{Has, RootSnap}
use Rattle.esr_agreement.specs.AgreementTests.{so, not_so}
use Rattle.esr_agreement.proofs.Loops.{holds}
use Rattle.esr_agreement.proofs.infos.is_listed.Goals as goal

pub returns-then-is_snap : goal.returns-then-is_snap
returns-then-is_snap c =
    let xs = c.as_slice-snap-items.result.now in
    let own = root_snap_of c.snap-item.result in
    let items = c.as_slice-snap-items.ensures.items ∙ ap (λ (r : CodeRoot). r.snapshots) c.root.view_is in
    let there = subst (λ (ss : List CodeSnap). Has (map root_snap_of ss) own) items (has_at root_snap_of xs c.loop-snap.snap-index c.snap-item.result c.loop-snap-test.true c.snap-item.is) in
    holds (own, there, so c.is_snap.result c.is_snap.ensures c.if-is_snap.true)

pub loop-snap-preserved : goal.loop-snap-preserved
loop-snap-preserved c =
    every_more (λ (s : RootSnap). s.uuid ≡ c.args.uuid.number → ⊥) root_snap_of c.as_slice-snap-items.result.now c.loop-snap.snap-index c.snap-item.result c.loop-snap-test.true c.snap-item.is c.loop-snap.invariant
    (not_so c.is_snap.result c.is_snap.ensures c.if-is_snap.false)
