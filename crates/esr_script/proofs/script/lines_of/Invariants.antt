use Rattle.std.proofs.Common.{◌≡◌, ◌+◌, ◌≤◌, [], length}
use Rattle.esr_script.specs.Lines.{lines_from}
use Rattle.esr_script.proofs.script.lines_of.Given as goal

abbrev pub invariant-loop-rest : goal.invariant-loop-rest
invariant-loop-rest l = record {
  left : lines_from [] [] l.fn.bytes ≡ lines_from l.lines l.line l.rest;
  few : length l.lines + length l.line + length l.rest ≤ length l.fn.bytes;
}

abbrev pub decreases-loop-rest : goal.decreases-loop-rest
decreases-loop-rest l = length l.rest
