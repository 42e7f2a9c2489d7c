use Rattle.std.proofs.Common.{List, None, subst, refl}
use Rattle.esr_core.specs.Entry.{Clone, AskStep, Accepted, Moment}
use Rattle.esr_desk.specs.Entries.{step_of}
use Rattle.esr_repo.specs.Next.{AddedOr}
use Rattle.esr_client.proofs.Clones.{wanting, passed_on, took_from}
use Rattle.esr_client.proofs.Asks.{free_as}
use Rattle.esr_repo.specs.Fresh.{goes_as, own_as}
use Rattle.esr_client.proofs.cloning.clone_snapshot.Goals as goal

pub returns-in_err-asked : goal.returns-in_err-asked
returns-in_err-asked g c =
    (None, wanting g.K.Told.start c.args.repo.now 0 (AskStep (Clone c.args.ask.now.source.now c.args.ask.now.name.now c.args.ask.now.indices.now c.args.ask.now.moment None)) (λ op. Accepted op) c.from_residual.result c.from_residual.ensures.1)

pub returns-in_err-check : goal.returns-in_err-check
returns-in_err-check g c = (
  None,
  passed_on g.K.Told.start c.args.repo.now c.check.new.self 0 (step_of c.in_ok-asked.asked)
      (AskStep (Clone c.args.ask.now.source.now c.args.ask.now.name.now c.args.ask.now.indices.now c.args.ask.now.moment None)) (λ op. Accepted op) c.from_residual-in_err-check.result c.in_err-check.field-0.0
      c.in_ok-asked.ensures c.from_residual-in_err-check.ensures.1 c.in_err-check.ensures.step,
)

pub returns-in-Ok : goal.returns-in-Ok
returns-in-Ok g c =
    took_from g.K.Told.start c.args.repo.now c.check.new.self c.accept_clone.new.repo c.args.ask.now.source.now c.args.ask.now.name.now c.args.ask.now.indices.now c.args.ask.now.moment
    (λ op. Accepted op) c.accept_clone.result c.in_ok-check.ensures.step.0 c.accept_clone.ensures

pub returns-in-Err : goal.returns-in-Err
returns-in-Err g c = (
  None,
  subst (λ (log : List Moment). AddedOr g.K.Told.start log c.refuse_clone.new.repo 0 (AskStep (Clone c.args.ask.now.source.now c.args.ask.now.name.now c.args.ask.now.indices.now c.args.ask.now.moment None)) c.refuse_clone.result)
      c.in_ok-check.ensures.step.0 c.refuse_clone.ensures,
)

pub accept_clone-requires-clause-may : goal.accept_clone-requires-clause-may
accept_clone-requires-clause-may g c = c.in-Ok.ensures

pub refuse_clone-requires-clause-why : goal.refuse_clone-requires-clause-why
refuse_clone-requires-clause-why g c = c.in-Err.ensures

pub check-requires-clause-fresh : goal.check-requires-clause-fresh
check-requires-clause-fresh g c =
    free_as g.K.Told.start c.args.repo.now 0 (step_of c.in_ok-asked.asked) (AskStep (Clone c.args.ask.now.source.now c.args.ask.now.name.now c.args.ask.now.indices.now c.args.ask.now.moment None)) c.in_ok-asked.ensures tt

pub check-requires-clause-own : goal.check-requires-clause-own
check-requires-clause-own g c = own_as g.K.Told.start c.args.repo.now 0 (step_of c.in_ok-asked.asked) (AskStep (Clone c.args.ask.now.source.now c.args.ask.now.name.now c.args.ask.now.indices.now c.args.ask.now.moment None)) c.in_ok-asked.ensures tt

pub accept_clone-requires-clause-goes : goal.accept_clone-requires-clause-goes
accept_clone-requires-clause-goes g c = goes_as g.K.Told.start c.check.new.self 0 (step_of c.in_ok-asked.asked) (AskStep (Clone c.args.ask.now.source.now c.args.ask.now.name.now c.args.ask.now.indices.now c.args.ask.now.moment None))
    (AskStep (Clone c.args.ask.now.source.now c.args.ask.now.name.now c.args.ask.now.indices.now c.args.ask.now.moment None)) c.in_ok-asked.ensures refl c.in_ok-check.ensures.goes

pub refuse_clone-requires-clause-goes : goal.refuse_clone-requires-clause-goes
refuse_clone-requires-clause-goes g c = goes_as g.K.Told.start c.check.new.self 0 (step_of c.in_ok-asked.asked) (AskStep (Clone c.args.ask.now.source.now c.args.ask.now.name.now c.args.ask.now.indices.now c.args.ask.now.moment None))
    (AskStep (Clone c.args.ask.now.source.now c.args.ask.now.name.now c.args.ask.now.indices.now c.args.ask.now.moment None)) c.in_ok-asked.ensures refl c.in_ok-check.ensures.goes
