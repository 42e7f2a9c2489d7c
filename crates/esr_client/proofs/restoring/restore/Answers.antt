use Rattle.std.proofs.Common.{IfSome, refl, sym, subst}
use Rattle.esr_core.specs.Entry.{Step, Restore, AskStep}
use Rattle.esr_desk.specs.Refusals.{refusal_of}
use Rattle.esr_desk.specs.Start.{world_of}
use Rattle.esr_repo.specs.May.{MayRefuse}
use Rattle.esr_client.specs.Asked.{entry_of}
use Rattle.esr_client.proofs.Restores.{refuses_restore}
use Rattle.esr_desk.specs.Entries.{step_of}
use Rattle.esr_client.proofs.Asks.{free_as}
use Rattle.esr_repo.specs.Fresh.{goes_as, own_as}
use Rattle.esr_client.proofs.restoring.restore.Goals as goal

pub refuse_asked-requires-clause-may : goal.refuse_asked-requires-clause-may
refuse_asked-requires-clause-may g c =
    subst (λ (step : Step). IfSome (entry_of c.in-Err.refusal) (λ e. MayRefuse g.K.Told.start c.check.new.self 0 step (refusal_of e))) (sym c.in_ok-refused-in-Err.ensures)
    (refuses_restore g.K.Told.start c.check.new.self c.args.name.now c.args.place.now c.in-Err.refusal (c.in-Err.ensures (world_of g.K.Told.start c.check.new.self) c.plan.ensures (sym c.safe_root.ensures)))

pub accept_restore-requires-clause-may : goal.accept_restore-requires-clause-may
accept_restore-requires-clause-may g c = c.in-Ok.ensures (world_of g.K.Told.start c.check.new.self) c.plan.ensures (sym c.safe_root.ensures)

pub accept_restore-requires-clause-goes : goal.accept_restore-requires-clause-goes
accept_restore-requires-clause-goes g c =
    goes_as g.K.Told.start c.check.new.self 0 (step_of c.in_ok-asks.field-0) (AskStep (Restore c.args.name.now c.args.place.now)) (AskStep (Restore c.args.name.now c.args.place.now)) c.in_ok-asks.ensures refl c.in_ok-check.ensures.goes

pub check-requires-clause-fresh : goal.check-requires-clause-fresh
check-requires-clause-fresh g c = free_as g.K.Told.start c.args.repo.now 0 (step_of c.in_ok-asks.field-0) (AskStep (Restore c.args.name.now c.args.place.now)) c.in_ok-asks.ensures tt

pub check-requires-clause-own : goal.check-requires-clause-own
check-requires-clause-own g c = own_as g.K.Told.start c.args.repo.now 0 (step_of c.in_ok-asks.field-0) (AskStep (Restore c.args.name.now c.args.place.now)) c.in_ok-asks.ensures tt

pub refuse_asked-requires-clause-goes : goal.refuse_asked-requires-clause-goes
refuse_asked-requires-clause-goes g c =
    goes_as g.K.Told.start c.check.new.self 0 (step_of c.in_ok-asks.field-0) (step_of c.in_ok-refused-in-Err.refused) (AskStep (Restore c.args.name.now c.args.place.now)) c.in_ok-asks.ensures c.in_ok-refused-in-Err.ensures c.in_ok-check.ensures.goes
