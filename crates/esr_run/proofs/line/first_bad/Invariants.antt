use Rattle.std.proofs.Common.{◌≡◌, drop}
use Rattle.esr_run.specs.Script.{first_bad}
use Rattle.esr_run.proofs.line.first_bad.Given as goal

abbrev pub invariant-loop-line : goal.invariant-loop-line
invariant-loop-line l = first_bad l.lines ≡ first_bad (drop l.line-index l.lines)
