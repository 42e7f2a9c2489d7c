use Rattle.std.proofs.Common.{List, subst}
use Rattle.esr_turns.specs.Histories.{StartsWith}
use Rattle.esr_core.specs.Entry.{Moment}
use Rattle.esr_handle.proofs.sitting.SittingLawful.is_legal.Goals as goal

pub returns-clause-begins : goal.returns-clause-begins
returns-clause-begins g c = subst (λ (log : List Moment). StartsWith log g.B.Since.before) c.self.view_is c.self.invariant.1

pub returns-clause-alone : goal.returns-clause-alone
returns-clause-alone g c = c.self.invariant.2
