use Rattle.std.proofs.Common.{subst}
use Rattle.esr_desk.specs.Start.{Legal}
use Rattle.esr_repo.proofs.repo.Repo.is_legal.Goals as goal

pub returns : goal.returns
returns g c = subst (Legal g.K.Told.start) c.self.view_is c.self.invariant.0.repo.steady.legal
