use Rattle.std.proofs.Common.{not, inl, inr, refl, ap, subst}
use Rattle.std.specs.Io.KnownBytes.{Appends}
use Rattle.esr_depot.specs.Calls.{HasCause}
use Rattle.esr_run.specs.Causes.{TookFront}
use Rattle.esr_run.proofs.verdict.print_verdict.Goals as goal

pub returns-then-print : goal.returns-then-print
returns-then-print g c = record {
  printed = inl (refl, subst (Appends (g.O.Out.contents c.args.out.now) (g.O.Out.contents c.print.new.out)) c.as_slice.ensures (c.print.ensures.written c.if-print.true));
}

pub returns-else-print : goal.returns-else-print
returns-else-print g c = record {
  printed = inr (record {
    status_is = c.exit_unprinted.ensures;
    cause = subst (λ b. HasCause (g.O.Counted.faults c.args.out.now) (g.O.Counted.faults c.print.new.out) b) (ap not c.if-print.false) c.print.ensures.cause;
    front = subst (TookFront (g.O.Out.contents c.args.out.now) (g.O.Out.contents c.print.new.out)) c.as_slice.ensures c.print.ensures.front;
  });
}
