use Rattle.std.proofs.Common.{◌≡◌, ◌++◌, drop}
use Rattle.esr_targets.specs.Lines.{asked_entries, ops_from, ops_of_lines}
use Rattle.esr_targets.proofs.list.ops_of_lines.Given as goal

abbrev pub invariant-loop-line : goal.invariant-loop-line
invariant-loop-line l = ops_of_lines l.lines l.fn.history ≡ l.ops.items ++ ops_from (drop l.line-index l.lines) (asked_entries l.rest)
