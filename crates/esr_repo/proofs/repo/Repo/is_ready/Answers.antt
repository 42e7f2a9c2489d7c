use Rattle.std.proofs.Common.{sym, ◌∙◌}
use Rattle.esr_desk.specs.Start.{world_of}
use Rattle.esr_repo.specs.Repo.{Kept}
use Rattle.esr_repo.proofs.ReadyUnits.{next_ready, none_ready, goes_live, fell}
use Rattle.esr_repo.proofs.repo.Repo.is_ready.Goals as goal

pub returns-then-is_some-clause-ready : goal.returns-then-is_some-clause-ready
returns-then-is_some-clause-ready g c =
    let k : Kept = record { cluster = c.self.inside.cluster; root = c.self.inside.root; infos = c.self.inside.infos.items; plan = c.self.inside.progress; next = c.self.inside.next.number } in
    λ any live.
    absurd (fell (g.D.Depot.look c.self.inside.depot) g.K.Told.start g.K.Told.clock c.self.inside.history.items k c.args.self.now c.self.inside.deposed c.self.invariant.0.repo c.self.view_is (sym c.is_some.ensures ∙ c.if-is_some.true) live)

pub ready-requires-clause-live : goal.ready-requires-clause-live
ready-requires-clause-live g c =
    let k : Kept = record { cluster = c.self.inside.cluster; root = c.self.inside.root; infos = c.self.inside.infos.items; plan = c.self.inside.progress; next = c.self.inside.next.number } in
    goes_live (g.D.Depot.look c.self.inside.depot) g.K.Told.start g.K.Told.clock c.self.inside.history.items k c.args.self.now c.self.inside.deposed c.self.invariant.0.repo c.self.view_is (sym c.is_some.ensures ∙ c.if-is_some.false)

pub returns-clause-ready : goal.returns-clause-ready
returns-clause-ready g c = λ any live. next_ready (world_of g.K.Told.start c.args.self.now) c.in_ok-next.next c.in_ok-next.ensures.next (sym c.is_some-2.ensures ∙ any)

pub returns-clause-none : goal.returns-clause-none
returns-clause-none g c = λ none. none_ready (world_of g.K.Told.start c.args.self.now) c.in_ok-next.next c.in_ok-next.ensures.next (sym c.is_some-2.ensures ∙ none)
