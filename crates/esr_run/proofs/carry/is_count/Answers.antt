use Rattle.std.proofs.Common.{arith}
use Rattle.esr_run.proofs.carry.is_count.Goals as goal

pub returns : goal.returns
returns c = omega (arith, c.ranges._n.fits)
