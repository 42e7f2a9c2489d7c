use Rattle.std.proofs.Common.{inr}
use Rattle.esr_steps.proofs.ending.end_cleanup.Goals as goal

pub end_op-requires-clause-may : goal.end_op-requires-clause-may
end_op-requires-clause-may g c = inr c.requires.may
