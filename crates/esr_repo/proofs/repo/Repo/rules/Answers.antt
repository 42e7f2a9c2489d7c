use Rattle.std.proofs.Common.{List, subst}
use Rattle.esr_core.specs.Entry.{Moment}
use Rattle.esr_desk.specs.Start.{world_of}
use Rattle.esr_repo.specs.Repo.{Gone}
use Rattle.esr_repo.specs.Tickets.{AreStale}
use Rattle.esr_repo.specs.Log.{log_of}
use Rattle.esr_repo.specs.InfosAfter.{InfosAfter}
use Rattle.esr_repo.proofs.NewInfos.{infos_go}
use Rattle.esr_repo.proofs.repo.Repo.rules.Goals as goal

pub returns-clause-gone : goal.returns-clause-gone
returns-clause-gone g c = subst (λ (log : List Moment). Gone (world_of g.K.Told.start log)) c.self.view_is c.self.invariant.0.repo.steady.gone

pub returns-clause-stale : goal.returns-clause-stale
returns-clause-stale g c = subst (λ (log : List Moment). AreStale (world_of g.K.Told.start log)) c.self.view_is c.self.invariant.0.repo.steady.stale

pub returns-clause-infos : goal.returns-clause-infos
returns-clause-infos g c =
    subst (λ (log : List Moment). InfosAfter g.K.Told.start log) c.self.view_is
    (infos_go g.K.Told.start (log_of (g.D.Depot.look c.self.inside.depot) g.K.Told.clock c.self.inside.history.items) c.self.invariant.0.repo.steady.tracked c.self.invariant.0.repo.steady.pruning)
