use Rattle.esr_solo.proofs.Stepping.{keeps, outcome, spent, is_short, turns_left}
use Rattle.esr_core.specs.Entry.{BeginStep, Moment}
use Rattle.esr_desk.specs.Start.{ticket_of}
use Rattle.esr_desk.specs.Once.{IsFresh}
use Rattle.esr_desk.specs.Conditions.{CanBegin}
use Rattle.esr_formats.specs.Names.{name_of}
use Rattle.std.proofs.Common.{◌≡◌, ◌<◌, ◌^◌, List, length, true, IsTrue, refl, sym, subst}
use Rattle.esr_solo.proofs.Calls.{calls_ticket}
use Rattle.esr_solo.proofs.desk.SoloDesk.begin.Goals as goal

pub returns-then-self-eq0-clause-step : goal.returns-then-self-eq0-clause-step
returns-then-self-eq0-clause-step g c = spent g.K.Told.start c.self.inside.repo c.args.self.now c.args.ticket c.self.inside.left c.self.view_is c.self.invariant.8 c.self.invariant.0 c.if-self-eq0.true

pub invariant_of-self : goal.invariant_of-self
invariant_of-self g c =
    keeps _ g.K.Told.start c.self.inside.repo c.begin-answer.new.repo c.args.ticket c.self.inside.faults.items c.self.inside.targets.items c.self.inside.left c.spend.new.left _ c.self.invariant c.if-self-eq0.false
    (BeginStep (name_of c.args.blob.name)) _ c.begin-answer.result c.spend.ensures.left (λ x why e d. cc) (λ x before who. refl) (λ name e no_metadata noted. cc) c.begin-answer.ensures.step tt tt

pub returns-clause-step : goal.returns-clause-step
returns-clause-step g c = outcome g.K.Told.start c.self.inside.repo c.args.self.now c.begin-answer.new.repo c.args.ticket
    (BeginStep (name_of c.args.blob.name)) _ c.begin-answer.result c.self.inside.left c.self.view_is c.self.invariant.8 c.self.invariant.0 c.if-self-eq0.false c.spend.ensures.grounds c.begin-answer.ensures.step

pub returns-clause-calls : goal.returns-clause-calls
returns-clause-calls g c =
    calls_ticket g.K.Told.start c.self.inside.repo c.args.self.now c.begin-answer.new.repo c.args.ticket (BeginStep (name_of c.args.blob.name)) _ c.begin-answer.result c.self.view_is c.requires.mine.some c.begin-answer.ensures.step

pub returns-clause-sure : goal.returns-clause-sure
returns-clause-sure g c = turns_left c.begin-answer.result (g.K.Told.start.quiet ≡ true) (length c.self.inside.repo < 2 ^ 41)
    (λ s. IsTrue (g.D.Stage.Stage.is_sure s.stage)) (is_short c.self.inside.repo c.self.inside.left c.self.invariant.0 c.if-self-eq0.false) c.begin-answer.ensures.sure

pub begin-answer-requires-clause-may : goal.begin-answer-requires-clause-may
begin-answer-requires-clause-may g c = subst (λ (log : List Moment). CanBegin g.K.Told.start (ticket_of g.K.Told.start log c.args.ticket) (name_of c.args.blob.name)) (sym c.self.view_is) c.requires.may

pub begin-answer-requires-clause-new : goal.begin-answer-requires-clause-new
begin-answer-requires-clause-new g c = subst (λ (log : List Moment). IsFresh g.K.Told.start log c.args.ticket (BeginStep (name_of c.args.blob.name))) (sym c.self.view_is) c.requires.new
