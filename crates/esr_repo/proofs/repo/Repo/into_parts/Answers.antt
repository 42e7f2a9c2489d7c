use Rattle.std.proofs.Common.{List, sym, subst}
use Rattle.esr_core.specs.Entry.{Entry}
use Rattle.esr_repo.specs.Repo.{Kept, IsRepo}
use Rattle.esr_repo.specs.Past.{IsPast}
use Rattle.esr_repo.specs.Counted.{IsCounted}
use Rattle.esr_repo.specs.Deposed.{AreDeposedSo}
use Rattle.esr_repo.specs.Calm.{IsCalm}
use Rattle.esr_repo.proofs.repo.Repo.into_parts.Goals as goal

pub returns-clause-repo : goal.returns-clause-repo
returns-clause-repo g c =
    let k : Kept = record { cluster = c.self.inside.cluster; root = c.self.inside.root; infos = c.self.inside.infos.items; plan = c.self.inside.progress; next = c.self.inside.next.number } in (
      k,
      c.self.inside.deposed,
      subst (λ (es : List Entry). IsRepo (g.D.Depot.look c.self.inside.depot) g.K.Told.start g.K.Told.clock es k c.self.inside.deposed) (sym c.from_vec.ensures) c.self.invariant.0.repo,
    )

pub returns-clause-past : goal.returns-clause-past
returns-clause-past g c =
    subst (λ (es : List Entry). IsPast g.K.Told.start g.K.Told.clock g.K.Told.past (g.D.Depot.look c.self.inside.depot) es) (sym c.from_vec.ensures) c.self.invariant.0.past

pub returns-clause-counted : goal.returns-clause-counted
returns-clause-counted g c = subst (IsCounted g.K.Told.faults (g.D.Counted.faults c.self.inside.depot)) (sym c.from_vec.ensures) c.self.invariant.1.counted

pub returns-clause-named : goal.returns-clause-named
returns-clause-named g c = subst AreDeposedSo (sym c.from_vec.ensures) c.self.invariant.1.named

pub returns-clause-calm : goal.returns-clause-calm
returns-clause-calm g c = subst (λ (es : List Entry). IsCalm g.K.Told.start.quiet (g.D.Depot.look c.self.inside.depot).sure es) (sym c.from_vec.ensures) c.self.invariant.2
