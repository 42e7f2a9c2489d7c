use Rattle.std.proofs.Common.{◌∷◌, []}
use Rattle.esr_names.specs.declared.blob.BlobName.TheVariants as code
use Rattle.esr_formats.specs.Roots.{root_snap_of}
use Rattle.esr_model.specs.Names.{Snap, Meta}
use Rattle.esr_plain.specs.Reach.{OfSnap}
use Rattle.esr_plain.proofs.Reaching.{are_two, some_more, two_pushed}
use Rattle.esr_plain.proofs.reached.snap_names.Goals as goal

pub loop-snap-preserved : goal.loop-snap-preserved
loop-snap-preserved c =
    let u = c.snap-item.result.uuid in
    some_more OfSnap root_snap_of c.args.snaps.now c.loop-snap.snap-index c.snap-item.result c.loop-snap.names c.push-in-loop-snap.new.self (Snap u.number ∷ Meta u.number ∷ []) c.loop-snap-test.true c.snap-item.is
    (two_pushed c.loop-snap.names c.push.new.self c.push-in-loop-snap.new.self (code.Snap u) (code.Meta u) c.in_ok-push.ensures.ok c.in_ok-push-2.ensures.ok) c.loop-snap.invariant (are_two (Snap u.number) (Meta u.number))
