use Rattle.esr_solo.proofs.Stepping.{keeps, outcome, spent}
use Rattle.esr_core.specs.Entry.{TakeStep}
use Rattle.esr_desk.specs.Outcome.{take_reply}
use Rattle.esr_solo.proofs.Taking.{took_none, taken_new, taken_mine}
use Rattle.esr_solo.proofs.Calls.{calls_client}
use Rattle.esr_solo.proofs.desk.SoloDesk.take.Goals as goal

pub returns-then-self-eq0-clause-step : goal.returns-then-self-eq0-clause-step
returns-then-self-eq0-clause-step g c = spent g.K.Told.start c.self.inside.repo c.args.self.now 0 c.self.inside.left c.self.view_is c.self.invariant.8 c.self.invariant.0 c.if-self-eq0.true

pub invariant_of-self : goal.invariant_of-self
invariant_of-self g c =
    keeps _ g.K.Told.start c.self.inside.repo c.take-answer.new.repo 0 c.self.inside.faults.items c.self.inside.targets.items c.self.inside.left c.spend.new.left _ c.self.invariant c.if-self-eq0.false
    TakeStep take_reply c.take-answer.result c.spend.ensures.left (λ x why e d. cc) took_none (λ name e no_metadata noted. cc) c.take-answer.ensures.step tt tt

pub returns-clause-step : goal.returns-clause-step
returns-clause-step g c = outcome g.K.Told.start c.self.inside.repo c.args.self.now c.take-answer.new.repo 0 TakeStep take_reply c.take-answer.result
    c.self.inside.left c.self.view_is c.self.invariant.8 c.self.invariant.0 c.if-self-eq0.false c.spend.ensures.grounds c.take-answer.ensures.step

pub returns-clause-calls : goal.returns-clause-calls
returns-clause-calls g c = calls_client g.K.Told.start c.self.inside.repo c.args.self.now c.take-answer.new.repo TakeStep take_reply c.take-answer.result c.self.view_is c.take-answer.ensures.step

pub returns-clause-new : goal.returns-clause-new
returns-clause-new g c = taken_new g.K.Told.start c.self.inside.repo c.take-answer.new.repo c.take-answer.result c.each_ticket_is_new.ensures c.self.invariant.4 c.self.invariant.5 c.take-answer.ensures.step

pub returns-clause-mine : goal.returns-clause-mine
returns-clause-mine g c = taken_mine g.K.Told.start c.self.inside.repo c.take-answer.new.repo c.take-answer.result c.each_ticket_is_new.ensures c.self.invariant.4 c.take-answer.ensures.step
