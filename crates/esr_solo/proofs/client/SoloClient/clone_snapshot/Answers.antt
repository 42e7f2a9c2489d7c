use Rattle.std.proofs.Common.{None, refl}
use Rattle.esr_core.specs.Entry.{Clone, AskStep}
use Rattle.esr_solo.proofs.Calls.{calls_client}
use Rattle.esr_solo.proofs.Stepping.{keeps, outcome, spent}
use Rattle.esr_solo.proofs.client.SoloClient.clone_snapshot.Goals as goal

pub returns-then-self-eq0 : goal.returns-then-self-eq0
returns-then-self-eq0 g c = record {
  step = (
    None,
    spent g.K.Told.start c.self.inside.repo c.args.self.now 0 c.self.inside.left c.self.view_is c.self.invariant.8 c.self.invariant.0 c.if-self-eq0.true,
    refl,
  );
}

pub invariant_of-self : goal.invariant_of-self
invariant_of-self g c =
    keeps _ g.K.Told.start c.self.inside.repo c.clone_snapshot-answer.new.repo 0 c.self.inside.faults.items c.self.inside.targets.items c.self.inside.left c.spend.new.left _ c.self.invariant c.if-self-eq0.false
    (AskStep (Clone c.args.ask.now.source.now c.args.ask.now.name.now c.args.ask.now.indices.now c.args.ask.now.moment c.clone_snapshot-answer.ensures.0)) _ c.clone_snapshot-answer.result c.spend.ensures.left
    (λ x why e d. cc) (λ x before who. refl) (λ name e no_metadata noted. cc) c.clone_snapshot-answer.ensures.1 tt tt

pub returns : goal.returns
returns g c = record {
  step = (
    c.clone_snapshot-answer.ensures.0,
    outcome g.K.Told.start c.self.inside.repo c.args.self.now c.clone_snapshot-answer.new.repo 0 (AskStep (Clone c.args.ask.now.source.now c.args.ask.now.name.now c.args.ask.now.indices.now c.args.ask.now.moment c.clone_snapshot-answer.ensures.0))
        _ c.clone_snapshot-answer.result c.self.inside.left c.self.view_is c.self.invariant.8 c.self.invariant.0 c.if-self-eq0.false c.spend.ensures.grounds c.clone_snapshot-answer.ensures.1,
    calls_client g.K.Told.start c.self.inside.repo c.args.self.now c.clone_snapshot-answer.new.repo
        (AskStep (Clone c.args.ask.now.source.now c.args.ask.now.name.now c.args.ask.now.indices.now c.args.ask.now.moment c.clone_snapshot-answer.ensures.0)) _ c.clone_snapshot-answer.result c.self.view_is c.clone_snapshot-answer.ensures.1,
  );
}
