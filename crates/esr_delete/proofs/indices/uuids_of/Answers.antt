use Rattle.std.proofs.Common.{map, ap, ◌∙◌}
use Rattle.esr_root.specs.Root.{Root}
use Rattle.esr_formats.specs.Ids.{number_of}
use Rattle.esr_delete.proofs.Uuids.{uuids_more, uuids_all}
use Rattle.esr_delete.proofs.indices.uuids_of.Goals as goal

pub loop-snap-init : goal.loop-snap-init
loop-snap-init c = ap (map number_of) c.new-uuids.ensures

pub loop-snap-preserved : goal.loop-snap-preserved
loop-snap-preserved c = uuids_more c.as_slice-snap-items.result.now c.loop-snap.snap-index c.snap-item.result c.loop-snap.uuids c.push.new.self c.loop-snap-test.true c.snap-item.is c.loop-snap.invariant c.in_ok-push.ensures.ok

pub returns : goal.returns
returns c =
    uuids_all c.as_slice-snap-items.result.now c.args.root.now.snapshots c.loop-snap.snap-index c.loop-snap.uuids (c.as_slice-snap-items.ensures.items ∙ ap (λ (r : Root). r.snapshots) c.root.view_is) c.loop-snap-test.false c.loop-snap.invariant
