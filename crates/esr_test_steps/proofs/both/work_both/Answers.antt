use Rattle.std.proofs.Common.{arith}
use Rattle.esr_test_steps.proofs.Sharing.{seen_outside}
use Rattle.esr_test_steps.proofs.both.work_both.Goals as goal

pub new-own-requires-clause-own : goal.new-own-requires-clause-own
new-own-requires-clause-own g c = λ lives within. (c.requires.one.own, c.requires.picked.0)

pub new-own-requires-clause-turns : goal.new-own-requires-clause-turns
new-own-requires-clause-turns g c = λ lives within. (c.requires.picked.1, c.requires.one.unused)

pub new-own-requires-clause-much : goal.new-own-requires-clause-much
new-own-requires-clause-much g c = let taken = c.requires.earlier in omega (arith, taken)

pub new-own-requires-clause-fit : goal.new-own-requires-clause-fit
new-own-requires-clause-fit g c = λ lives within. c.requires.one.fit

pub new-elector-requires-clause-own : goal.new-elector-requires-clause-own
new-elector-requires-clause-own g c = λ lives within. (c.requires.other.own, c.requires.picked.0)

pub new-elector-requires-clause-turns : goal.new-elector-requires-clause-turns
new-elector-requires-clause-turns g c = λ lives within. (c.requires.picked.2, c.requires.other.unused)

pub new-elector-requires-clause-much : goal.new-elector-requires-clause-much
new-elector-requires-clause-much g c = let taken = c.requires.earlier in omega (arith, taken)

pub new-elector-requires-clause-fit : goal.new-elector-requires-clause-fit
new-elector-requires-clause-fit g c = λ lives within. c.requires.other.fit

pub work-answer-requires-clause-outside : goal.work-answer-requires-clause-outside
work-answer-requires-clause-outside g c = λ lives within. seen_outside g.Q.Desk.start (g.S.Sources.told c.args.outside.now.sources.now) (g.T.Targets.told c.args.outside.now.targets.now) c.args.outside.now.part_size c.requires.workable.outside

pub work-answer-requires-clause-tracked : goal.work-answer-requires-clause-tracked
work-answer-requires-clause-tracked g c = λ lives within. c.requires.workable.tracked

pub work-answer-requires-clause-ops : goal.work-answer-requires-clause-ops
work-answer-requires-clause-ops g c = λ lives within. c.requires.workable.ops
