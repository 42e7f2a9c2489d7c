use Rattle.std.proofs.Common.{◌∙◌}
use Rattle.esr_accept.proofs.cleanup.accept_cleanup.Goals as goal

pub returns-in-Some : goal.returns-in-Some
returns-in-Some c w is = c.in-Some.ensures w is

pub returns : goal.returns
returns c w is = (c.in_default.ensures w is, c.next_op-op.ensures ∙ is.next_op, c.in_ok-after.ensures w is)
