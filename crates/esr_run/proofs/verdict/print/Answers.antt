use Rattle.std.proofs.Common.{◌++◌, take, arith}
use Rattle.std.proofs.KnownBytes.{Appends-trans}
use Rattle.esr_run.proofs.Reading.{whole_more}
use Rattle.esr_run.proofs.verdict.print.Goals as goal

pub loop-rest-preserved : goal.loop-rest-preserved
loop-rest-preserved g c =
    let inv = c.loop-rest.invariant in
    record {
      front = inv.front ++ take c.in-Ok.taken c.loop-rest.rest.now;
      whole = whole_more c.args.text.now inv.front c.loop-rest.rest.now c.in-Ok.taken inv.whole;
      wrote = Appends-trans (g.O.Out.contents c.args.out.now) (g.O.Out.contents c.loop-rest.out) (g.O.Out.contents c.write.new.self) inv.front (take c.in-Ok.taken c.loop-rest.rest.now) inv.wrote c.in-Ok.ensures.taken;
      later = omega (arith, inv.later, c.write.ensures.cause.later);
    }
