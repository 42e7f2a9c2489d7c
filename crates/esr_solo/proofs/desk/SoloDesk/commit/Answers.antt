use Rattle.std.proofs.Common.{List, sym, subst}
use Rattle.esr_solo.proofs.Stepping.{keeps, outcome, spent}
use Rattle.esr_core.specs.Entry.{CommitStep, Moment}
use Rattle.esr_formats.specs.Names.{name_of}
use Rattle.esr_desk.specs.Outcome.{commit_reply}
use Rattle.esr_solo.proofs.Committing.{commit_fresh, no_end_of}
use Rattle.esr_solo.proofs.Calls.{calls_ticket}
use Rattle.esr_desk.specs.Once.{IsFresh}
use Rattle.esr_solo.proofs.desk.SoloDesk.commit.Goals as goal

pub returns-then-self-eq0-clause-step : goal.returns-then-self-eq0-clause-step
returns-then-self-eq0-clause-step g c = spent g.K.Told.start c.self.inside.repo c.args.self.now c.args.ticket c.self.inside.left c.self.view_is c.self.invariant.8 c.self.invariant.0 c.if-self-eq0.true

pub invariant_of-self : goal.invariant_of-self
invariant_of-self g c =
    keeps _ g.K.Told.start c.self.inside.repo c.commit-answer.new.repo c.args.ticket c.self.inside.faults.items c.self.inside.targets.items c.self.inside.left c.spend.new.left _ c.self.invariant c.if-self-eq0.false
    (CommitStep (name_of c.args.name)) commit_reply c.commit-answer.result c.spend.ensures.left (λ x why e d. cc) (no_end_of (name_of c.args.name))
    (commit_fresh g.K.Told.start c.self.inside.repo c.args.self.now c.args.ticket (name_of c.args.name) c.self.view_is c.requires.may.2.once) c.commit-answer.ensures.step tt tt

pub returns-clause-step : goal.returns-clause-step
returns-clause-step g c = outcome g.K.Told.start c.self.inside.repo c.args.self.now c.commit-answer.new.repo c.args.ticket
    (CommitStep (name_of c.args.name)) commit_reply c.commit-answer.result c.self.inside.left c.self.view_is c.self.invariant.8 c.self.invariant.0 c.if-self-eq0.false c.spend.ensures.grounds c.commit-answer.ensures.step

pub returns-clause-calls : goal.returns-clause-calls
returns-clause-calls g c =
    calls_ticket g.K.Told.start c.self.inside.repo c.args.self.now c.commit-answer.new.repo c.args.ticket (CommitStep (name_of c.args.name)) commit_reply c.commit-answer.result c.self.view_is c.requires.mine.some c.commit-answer.ensures.step

pub commit-answer-requires-clause-new : goal.commit-answer-requires-clause-new
commit-answer-requires-clause-new g c = subst (λ (log : List Moment). IsFresh g.K.Told.start log c.args.ticket (CommitStep (name_of c.args.name))) (sym c.self.view_is) c.requires.new
