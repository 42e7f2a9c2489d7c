use Rattle.esr_memdepot.specs.Past.{marked}
use Rattle.esr_memdepot.proofs.Held.{map_step}
use Rattle.esr_memdepot.proofs.blob.mark.Goals as goal

pub loop-kept-preserved : goal.loop-kept-preserved
loop-kept-preserved c =
    let step = map_step (marked c.args.name.now c.args.gone) c.args.blobs.now c.loop-kept.kept-index c.kept-item.result c.loop-kept-test.true in
    rw (c.take_away.ensures, c.loop-kept.invariant) step
