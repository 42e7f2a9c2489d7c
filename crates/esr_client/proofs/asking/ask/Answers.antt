use Rattle.std.proofs.Common.{IfSome, sym, subst}
use Rattle.esr_core.specs.Entry.{AskStep}
use Rattle.esr_ops.specs.declared.command.Command.{Command}
use Rattle.esr_ops.specs.Asked.{asked_of}
use Rattle.esr_desk.specs.Refusals.{refusal_of}
use Rattle.esr_client.specs.Asked.{entry_of}
use Rattle.esr_repo.specs.May.{MayRefuse}
use Rattle.esr_repo.specs.Fresh.{free_fresh}
use Rattle.esr_client.proofs.Asks.{goes_ask}
use Rattle.esr_client.proofs.asking.ask.Goals as goal

pub refuse_asked-requires-clause-may : goal.refuse_asked-requires-clause-may
refuse_asked-requires-clause-may g c =
    subst (λ (command : Command). IfSome (entry_of c.in-Err.refusal) (λ e. MayRefuse g.K.Told.start c.check.new.self 0 (AskStep (asked_of command)) (refusal_of e))) (sym c.in_ok-try_clone-2.ensures)
    c.in-Err.ensures.err

pub check-requires-clause-fresh : goal.check-requires-clause-fresh
check-requires-clause-fresh g c = free_fresh g.K.Told.start c.args.repo.now 0 (AskStep (asked_of c.in_ok-try_clone.field-0)) tt

pub swap-requires-clause-goes : goal.swap-requires-clause-goes
swap-requires-clause-goes g c = goes_ask g.K.Told.start c.check.new.self _ _ c.in_ok-check.ensures.goes

pub refuse_asked-requires-clause-goes : goal.refuse_asked-requires-clause-goes
refuse_asked-requires-clause-goes g c = goes_ask g.K.Told.start c.check.new.self _ _ c.in_ok-check.ensures.goes
