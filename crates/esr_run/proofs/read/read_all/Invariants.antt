use Rattle.std.proofs.Common.{◌≤◌, ◌-◌, length}
use Rattle.std.specs.Io.KnownBytes.{Consumes}
use Rattle.esr_run.proofs.read.read_all.Given as goal

abbrev pub invariant-loop-alloc : goal.invariant-loop-alloc
invariant-loop-alloc g l =
    record {
      took : Consumes (g.I.Lines.left l.fn.script) (g.I.Lines.left l.script) l.kept;
      few : length l.kept ≤ 4194305;
      later : g.I.Counted.faults l.fn.script ≤ g.I.Counted.faults l.script;
    }

abbrev pub decreases-loop-alloc : goal.decreases-loop-alloc
decreases-loop-alloc g l = 4194305 - length l.kept
