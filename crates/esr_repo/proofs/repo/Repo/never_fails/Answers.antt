use Rattle.esr_repo.proofs.Calms.{never_failed}
use Rattle.esr_repo.proofs.repo.Repo.never_fails.Goals as goal

pub returns : goal.returns
returns g c = λ quiet short. never_failed g.K.Told.start.quiet (g.D.Depot.look c.self.inside.depot) g.K.Told.clock c.self.inside.history.items c.args.self.now c.self.invariant.2 c.self.view_is quiet short
