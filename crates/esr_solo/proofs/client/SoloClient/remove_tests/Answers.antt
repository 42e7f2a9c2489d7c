use Rattle.esr_solo.proofs.Stepping.{keeps, outcome, spent}
use Rattle.esr_core.specs.Entry.{ReadStep, RemoveTests, Moment}
use Rattle.esr_formats.specs.Names.{name_of}
use Rattle.std.proofs.Common.{map, refl, List, sym, subst}
use Rattle.esr_solo.proofs.Calls.{calls_client}
use Rattle.esr_desk.specs.Once.{IsFresh}
use Rattle.esr_solo.proofs.client.SoloClient.remove_tests.Goals as goal

pub returns-then-self-eq0-clause-step : goal.returns-then-self-eq0-clause-step
returns-then-self-eq0-clause-step g c = spent g.K.Told.start c.self.inside.repo c.args.self.now 0 c.self.inside.left c.self.view_is c.self.invariant.8 c.self.invariant.0 c.if-self-eq0.true

pub invariant_of-self : goal.invariant_of-self
invariant_of-self g c =
    keeps _ g.K.Told.start c.self.inside.repo c.remove_tests-answer.new.repo 0 c.self.inside.faults.items c.self.inside.targets.items c.self.inside.left c.spend.new.left _ c.self.invariant c.if-self-eq0.false
    (ReadStep (RemoveTests (map name_of c.args.names.now))) _ c.remove_tests-answer.result c.spend.ensures.left (λ x why e d. cc) (λ x before who. refl) (λ name e no_metadata noted. cc) c.remove_tests-answer.ensures.step tt tt

pub returns-clause-step : goal.returns-clause-step
returns-clause-step g c = outcome g.K.Told.start c.self.inside.repo c.args.self.now c.remove_tests-answer.new.repo 0
    (ReadStep (RemoveTests (map name_of c.args.names.now))) _ c.remove_tests-answer.result c.self.inside.left c.self.view_is c.self.invariant.8 c.self.invariant.0 c.if-self-eq0.false c.spend.ensures.grounds c.remove_tests-answer.ensures.step

pub returns-clause-calls : goal.returns-clause-calls
returns-clause-calls g c =
    calls_client g.K.Told.start c.self.inside.repo c.args.self.now c.remove_tests-answer.new.repo (ReadStep (RemoveTests (map name_of c.args.names.now))) _ c.remove_tests-answer.result c.self.view_is c.remove_tests-answer.ensures.step

pub remove_tests-answer-requires-clause-new : goal.remove_tests-answer-requires-clause-new
remove_tests-answer-requires-clause-new g c = subst (λ (log : List Moment). IsFresh g.K.Told.start log 0 (ReadStep (RemoveTests (map name_of c.args.names.now)))) (sym c.self.view_is) c.requires.new
