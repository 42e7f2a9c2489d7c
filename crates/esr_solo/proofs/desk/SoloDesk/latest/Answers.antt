use Rattle.std.proofs.Common.{refl, List, sym, subst}
use Rattle.esr_solo.proofs.Stepping.{keeps, outcome, spent}
use Rattle.esr_core.specs.Entry.{LatestStep, Moment}
use Rattle.esr_solo.proofs.Calls.{calls_ticket}
use Rattle.esr_desk.specs.Once.{IsFresh}
use Rattle.esr_solo.proofs.desk.SoloDesk.latest.Goals as goal

pub returns-then-self-eq0-clause-step : goal.returns-then-self-eq0-clause-step
returns-then-self-eq0-clause-step g c = spent g.K.Told.start c.self.inside.repo c.args.self.now c.args.ticket c.self.inside.left c.self.view_is c.self.invariant.8 c.self.invariant.0 c.if-self-eq0.true

pub invariant_of-self : goal.invariant_of-self
invariant_of-self g c =
    keeps _ g.K.Told.start c.self.inside.repo c.latest-answer.new.repo c.args.ticket c.self.inside.faults.items c.self.inside.targets.items c.self.inside.left c.spend.new.left _ c.self.invariant c.if-self-eq0.false
    LatestStep _ c.latest-answer.result c.spend.ensures.left (λ x why e d. cc) (λ x before who. refl) (λ name e no_metadata noted. cc) c.latest-answer.ensures.step tt tt

pub returns-clause-step : goal.returns-clause-step
returns-clause-step g c = outcome g.K.Told.start c.self.inside.repo c.args.self.now c.latest-answer.new.repo c.args.ticket LatestStep _ c.latest-answer.result
    c.self.inside.left c.self.view_is c.self.invariant.8 c.self.invariant.0 c.if-self-eq0.false c.spend.ensures.grounds c.latest-answer.ensures.step

pub returns-clause-calls : goal.returns-clause-calls
returns-clause-calls g c = calls_ticket g.K.Told.start c.self.inside.repo c.args.self.now c.latest-answer.new.repo c.args.ticket LatestStep _ c.latest-answer.result c.self.view_is c.requires.mine.some c.latest-answer.ensures.step

pub latest-answer-requires-clause-new : goal.latest-answer-requires-clause-new
latest-answer-requires-clause-new g c = subst (λ (log : List Moment). IsFresh g.K.Told.start log c.args.ticket LatestStep) (sym c.self.view_is) c.requires.new
