use Rattle.std.proofs.Common.{refl}
use Rattle.esr_solo.proofs.Stepping.{keeps, outcome, spent}
use Rattle.esr_core.specs.Entry.{AskStep}
use Rattle.esr_ops.specs.Asked.{asked_of}
use Rattle.esr_solo.proofs.Calls.{calls_client}
use Rattle.esr_solo.proofs.client.SoloClient.ask.Goals as goal

pub returns-then-self-eq0-clause-step : goal.returns-then-self-eq0-clause-step
returns-then-self-eq0-clause-step g c = spent g.K.Told.start c.self.inside.repo c.args.self.now 0 c.self.inside.left c.self.view_is c.self.invariant.8 c.self.invariant.0 c.if-self-eq0.true

pub invariant_of-self : goal.invariant_of-self
invariant_of-self g c =
    keeps _ g.K.Told.start c.self.inside.repo c.ask-answer.new.repo 0 c.self.inside.faults.items c.self.inside.targets.items c.self.inside.left c.spend.new.left _ c.self.invariant c.if-self-eq0.false
    (AskStep (asked_of c.args.command.now)) _ c.ask-answer.result c.spend.ensures.left (λ x why e d. cc) (λ x before who. refl) (λ name e no_metadata noted. cc) c.ask-answer.ensures tt tt

pub returns-clause-step : goal.returns-clause-step
returns-clause-step g c = outcome g.K.Told.start c.self.inside.repo c.args.self.now c.ask-answer.new.repo 0
    (AskStep (asked_of c.args.command.now)) _ c.ask-answer.result c.self.inside.left c.self.view_is c.self.invariant.8 c.self.invariant.0 c.if-self-eq0.false c.spend.ensures.grounds c.ask-answer.ensures

pub returns-clause-calls : goal.returns-clause-calls
returns-clause-calls g c = calls_client g.K.Told.start c.self.inside.repo c.args.self.now c.ask-answer.new.repo (AskStep (asked_of c.args.command.now)) _ c.ask-answer.result c.self.view_is c.ask-answer.ensures
