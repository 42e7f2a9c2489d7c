use Rattle.esr_solo.proofs.Stepping.{keeps, outcome, spent, is_short, turns_left}
use Rattle.esr_core.specs.Entry.{ReadStep, BeginTest, Moment}
use Rattle.esr_formats.specs.Names.{name_of}
use Rattle.std.proofs.Common.{◌≡◌, ◌<◌, ◌^◌, length, true, IsTrue, refl, List, sym, subst}
use Rattle.esr_solo.proofs.Calls.{calls_client}
use Rattle.esr_desk.specs.Once.{IsFresh}
use Rattle.esr_solo.proofs.client.SoloClient.begin_test.Goals as goal

pub returns-then-self-eq0-clause-step : goal.returns-then-self-eq0-clause-step
returns-then-self-eq0-clause-step g c = spent g.K.Told.start c.self.inside.repo c.args.self.now 0 c.self.inside.left c.self.view_is c.self.invariant.8 c.self.invariant.0 c.if-self-eq0.true

pub invariant_of-self : goal.invariant_of-self
invariant_of-self g c =
    keeps _ g.K.Told.start c.self.inside.repo c.begin_test-answer.new.repo 0 c.self.inside.faults.items c.self.inside.targets.items c.self.inside.left c.spend.new.left _ c.self.invariant c.if-self-eq0.false
    (ReadStep (BeginTest (name_of c.args.blob.name))) _ c.begin_test-answer.result c.spend.ensures.left (λ x why e d. cc) (λ x before who. refl) (λ name e no_metadata noted. cc) c.begin_test-answer.ensures.step tt tt

pub returns-clause-step : goal.returns-clause-step
returns-clause-step g c = outcome g.K.Told.start c.self.inside.repo c.args.self.now c.begin_test-answer.new.repo 0
    (ReadStep (BeginTest (name_of c.args.blob.name))) _ c.begin_test-answer.result c.self.inside.left c.self.view_is c.self.invariant.8 c.self.invariant.0 c.if-self-eq0.false c.spend.ensures.grounds c.begin_test-answer.ensures.step

pub returns-clause-calls : goal.returns-clause-calls
returns-clause-calls g c = calls_client g.K.Told.start c.self.inside.repo c.args.self.now c.begin_test-answer.new.repo (ReadStep (BeginTest (name_of c.args.blob.name))) _ c.begin_test-answer.result c.self.view_is c.begin_test-answer.ensures.step

pub returns-clause-sure : goal.returns-clause-sure
returns-clause-sure g c = turns_left c.begin_test-answer.result (g.K.Told.start.quiet ≡ true) (length c.self.inside.repo < 2 ^ 41)
    (λ s. IsTrue (g.D.Stage.Stage.is_sure s.stage)) (is_short c.self.inside.repo c.self.inside.left c.self.invariant.0 c.if-self-eq0.false) c.begin_test-answer.ensures.sure

pub begin_test-answer-requires-clause-new : goal.begin_test-answer-requires-clause-new
begin_test-answer-requires-clause-new g c = subst (λ (log : List Moment). IsFresh g.K.Told.start log 0 (ReadStep (BeginTest (name_of c.args.blob.name)))) (sym c.self.view_is) c.requires.new
