use Rattle.esr_test_steps.proofs.steps.step.Goals as goal

pub work-requires-clause-outside : goal.work-requires-clause-outside
work-requires-clause-outside g c κs within = c.requires.workable.outside

pub work-requires-clause-tracked : goal.work-requires-clause-tracked
work-requires-clause-tracked g c κs within = c.requires.workable.tracked

pub work-requires-clause-ops : goal.work-requires-clause-ops
work-requires-clause-ops g c κs within = c.requires.workable.ops
