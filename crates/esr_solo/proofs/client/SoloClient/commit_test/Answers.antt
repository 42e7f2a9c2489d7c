use Rattle.std.proofs.Common.{refl, List, sym, subst}
use Rattle.esr_solo.proofs.Stepping.{keeps, outcome, spent}
use Rattle.esr_core.specs.Entry.{ReadStep, CommitTest, Moment}
use Rattle.esr_formats.specs.Names.{name_of}
use Rattle.esr_names.specs.IdText.{id_text}
use Rattle.esr_solo.proofs.Testing.{test_new}
use Rattle.esr_solo.proofs.Calls.{calls_client}
use Rattle.esr_desk.specs.Once.{IsFresh}
use Rattle.esr_solo.proofs.client.SoloClient.commit_test.Goals as goal

pub returns-then-self-eq0-clause-step : goal.returns-then-self-eq0-clause-step
returns-then-self-eq0-clause-step g c = spent g.K.Told.start c.self.inside.repo c.args.self.now 0 c.self.inside.left c.self.view_is c.self.invariant.8 c.self.invariant.0 c.if-self-eq0.true

pub invariant_of-self : goal.invariant_of-self
invariant_of-self g c =
    keeps _ g.K.Told.start c.self.inside.repo c.commit_test-answer.new.repo 0 c.self.inside.faults.items c.self.inside.targets.items c.self.inside.left c.spend.new.left _ c.self.invariant c.if-self-eq0.false
    (ReadStep (CommitTest (name_of c.args.name))) _ c.commit_test-answer.result c.spend.ensures.left (λ x why e d. cc) (λ x before who. refl) (λ name e no_metadata noted. cc) c.commit_test-answer.ensures.step
    (test_new g.K.Told.start c.self.inside.repo c.args.self.now c.commit_test-answer.new.repo (name_of c.args.name) _ c.commit_test-answer.result c.self.view_is c.requires.holds c.requires.may c.commit_test-answer.ensures.own) tt

pub returns-clause-step : goal.returns-clause-step
returns-clause-step g c = outcome g.K.Told.start c.self.inside.repo c.args.self.now c.commit_test-answer.new.repo 0
    (ReadStep (CommitTest (name_of c.args.name))) _ c.commit_test-answer.result c.self.inside.left c.self.view_is c.self.invariant.8 c.self.invariant.0 c.if-self-eq0.false c.spend.ensures.grounds c.commit_test-answer.ensures.step

pub returns-clause-calls : goal.returns-clause-calls
returns-clause-calls g c = calls_client g.K.Told.start c.self.inside.repo c.args.self.now c.commit_test-answer.new.repo (ReadStep (CommitTest (name_of c.args.name))) _ c.commit_test-answer.result c.self.view_is c.commit_test-answer.ensures.step

pub commit_test-answer-requires-clause-holds : goal.commit_test-answer-requires-clause-holds
commit_test-answer-requires-clause-holds g c = (id_text c.requires.holds.0, c.requires.holds.2)

pub commit_test-answer-requires-clause-new : goal.commit_test-answer-requires-clause-new
commit_test-answer-requires-clause-new g c = subst (λ (log : List Moment). IsFresh g.K.Told.start log 0 (ReadStep (CommitTest (name_of c.args.name)))) (sym c.self.view_is) c.requires.new
