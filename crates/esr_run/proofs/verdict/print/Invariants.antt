use Rattle.std.proofs.Common.{◌≡◌, ◌++◌, ◌≤◌, ℕ, List, length}
use Rattle.std.specs.Io.KnownBytes.{Appends}
use Rattle.esr_run.proofs.verdict.print.Given as goal

abbrev pub invariant-loop-rest : goal.invariant-loop-rest
invariant-loop-rest g l =
    record {
      front : List ℕ;
      whole : l.fn.text ≡ front ++ l.rest;
      wrote : Appends (g.O.Out.contents l.fn.out) (g.O.Out.contents l.out) front;
      later : g.O.Counted.faults l.fn.out ≤ g.O.Counted.faults l.out;
    }

abbrev pub decreases-loop-rest : goal.decreases-loop-rest
decreases-loop-rest g l = length l.rest
