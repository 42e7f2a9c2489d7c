use Rattle.std.proofs.Common.{subst}
use Rattle.esr_desk.specs.Start.{Legal}
use Rattle.esr_solo.proofs.solo.SoloSole.is_legal.Goals as goal

pub returns-clause-legal : goal.returns-clause-legal
returns-clause-legal g c = subst (Legal g.K.Told.start) c.self.view_is c.self.invariant.8

pub returns-clause-numbered : goal.returns-clause-numbered
returns-clause-numbered g c = c.self.invariant.4
