use Rattle.std.proofs.Common.{IfSome, sym, subst, refl, None}
use Rattle.esr_core.specs.Entry.{Step, Clone, AskStep}
use Rattle.esr_desk.specs.Refusals.{refusal_of}
use Rattle.esr_client.specs.Asked.{entry_of}
use Rattle.esr_repo.specs.Next.{AddedOr}
use Rattle.esr_client.proofs.Clones.{refuses_clone}
use Rattle.esr_repo.specs.May.{MayRefuse}
use Rattle.esr_desk.specs.Entries.{step_of}
use Rattle.esr_repo.specs.Fresh.{goes_as}
use Rattle.esr_client.proofs.cloning.refuse_clone.Goals as goal

pub refuse_asked-requires-clause-may : goal.refuse_asked-requires-clause-may
refuse_asked-requires-clause-may g c =
    subst (λ (step : Step). IfSome (entry_of c.args.refusal) (λ e. MayRefuse g.K.Told.start c.args.repo.now 0 step (refusal_of e))) (sym c.in-Ok.ensures)
    (refuses_clone g.K.Told.start c.args.repo.now c.args.ask.now.source.now c.args.ask.now.name.now c.args.ask.now.indices.now c.args.ask.now.moment c.args.refusal c.requires.why)

pub returns-in-Ok : goal.returns-in-Ok
returns-in-Ok g c = subst (λ (step : Step). AddedOr g.K.Told.start c.args.repo.now c.refuse_asked.new.repo 0 step c.refuse_asked.result) c.in-Ok.ensures c.refuse_asked.ensures

pub refuse_asked-requires-clause-goes : goal.refuse_asked-requires-clause-goes
refuse_asked-requires-clause-goes g c = goes_as g.K.Told.start c.args.repo.now 0 (AskStep (Clone c.args.ask.now.source.now c.args.ask.now.name.now c.args.ask.now.indices.now c.args.ask.now.moment None))
    (step_of c.in-Ok.step) (AskStep (Clone c.args.ask.now.source.now c.args.ask.now.name.now c.args.ask.now.indices.now c.args.ask.now.moment None)) refl c.in-Ok.ensures c.requires.goes
