use Rattle.std.proofs.Common.{inl}
use Rattle.esr_steps.proofs.ending.end_drop.Goals as goal

pub end_op-requires-clause-may : goal.end_op-requires-clause-may
end_op-requires-clause-may g c = inl c.requires.may
