use Rattle.std.proofs.Common.{None, sym, subst, refl}
use Rattle.esr_core.specs.Entry.{Clone, Step, AskStep, Accepted}
use Rattle.esr_desk.specs.Entries.{step_of}
use Rattle.esr_repo.specs.Next.{Added}
use Rattle.esr_repo.specs.May.{MaySwap}
use Rattle.esr_client.proofs.Clones.{wanting, passed_on}
use Rattle.esr_repo.specs.Fresh.{goes_as}
use Rattle.esr_client.proofs.Asks.{goes_ask}
use Rattle.esr_client.proofs.cloning.accept_clone.Goals as goal

pub returns-in_err-op : goal.returns-in_err-op
returns-in_err-op g c =
    (None, wanting g.K.Told.start c.args.repo.now 0 (AskStep (Clone c.args.ask.now.source.now c.args.ask.now.name.now c.args.ask.now.indices.now c.args.ask.now.moment None)) (λ op. Accepted op) c.from_residual.result c.from_residual.ensures.1)

pub swap-requires-clause-may : goal.swap-requires-clause-may
swap-requires-clause-may g c =
    subst
    (λ (step : Step).
    MaySwap g.K.Told.start c.args.repo.now 0 step (Accepted c.in_ok-op.op) c.in_ok-op.renewed.cluster c.in_ok-op.renewed.root c.in_ok-op.renewed.left c.in_ok-op.renewed.info c.in_ok-op.renewed.progress c.in_ok-op.renewed.next.number)
    (sym c.in_ok-op.ensures.1) c.in_ok-op.ensures.2

pub returns-in_err-swap : goal.returns-in_err-swap
returns-in_err-swap g c = (
  c.in_ok-op.ensures.0,
  passed_on g.K.Told.start c.args.repo.now c.swap.new.self 0 (step_of c.in_ok-op.step)
      (AskStep (Clone c.args.ask.now.source.now c.args.ask.now.name.now c.args.ask.now.indices.now c.args.ask.now.moment c.in_ok-op.ensures.0)) (λ op. Accepted op) c.from_residual-in_err-swap.result c.in_err-swap.field-0.0
      c.in_ok-op.ensures.1 c.from_residual-in_err-swap.ensures.1 c.in_err-swap.ensures.step,
)

pub returns : goal.returns
returns g c = (c.in_ok-op.ensures.0, subst (λ (step : Step). Added g.K.Told.start c.args.repo.now c.swap.new.self 0 step (Accepted c.in_ok-op.op)) c.in_ok-op.ensures.1 c.in_ok-swap.ensures.step)

pub swap-requires-clause-goes : goal.swap-requires-clause-goes
swap-requires-clause-goes g c =
    goes_as g.K.Told.start c.args.repo.now 0 (AskStep (Clone c.args.ask.now.source.now c.args.ask.now.name.now c.args.ask.now.indices.now c.args.ask.now.moment c.in_ok-op.ensures.0))
    (step_of c.in_ok-op.step) (AskStep (Clone c.args.ask.now.source.now c.args.ask.now.name.now c.args.ask.now.indices.now c.args.ask.now.moment c.in_ok-op.ensures.0)) refl c.in_ok-op.ensures.1
    (goes_ask g.K.Told.start c.args.repo.now _ (Clone c.args.ask.now.source.now c.args.ask.now.name.now c.args.ask.now.indices.now c.args.ask.now.moment c.in_ok-op.ensures.0) c.requires.goes)
