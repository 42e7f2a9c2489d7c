use Rattle.esr_handle.proofs.Growing.{begins_itself, counted_then}
use Rattle.esr_handle.proofs.sitting.Sitting.new.Goals as goal

pub invariant_of-result : goal.invariant_of-result
invariant_of-result g c = (
  counted_then g.B.Since.before (g.Q.Desk.seen c.args.desk) c.left-base.result 1099511627776 c.requires.before c.left-base.ensures,
  begins_itself g.B.Since.before (g.Q.Desk.seen c.args.desk) c.requires.before,
  c.requires.alone,
)
