use Rattle.std.proofs.Common.{Option, IfSome, sym, subst}
use Rattle.esr_desk.specs.Entries.{step_of}
use Rattle.esr_desk.specs.Refusals.{refusal_of}
use Rattle.esr_desk.specs.declared.refusal.EntryRefusal.{EntryRefusal}
use Rattle.esr_repo.specs.May.{MayRefuse}
use Rattle.esr_client.proofs.accepting.refuse_asked.Goals as goal

pub refuse-requires-clause-may : goal.refuse-requires-clause-may
refuse-requires-clause-may g c =
    subst (λ (o : Option EntryRefusal). IfSome o (λ e. MayRefuse g.K.Told.start c.args.repo.now 0 (step_of c.args.step) (refusal_of e))) (sym c.in-Some.ensures) c.requires.may
