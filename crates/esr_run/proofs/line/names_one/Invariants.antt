use Rattle.std.proofs.Common.{◌≡◌, drop}
use Rattle.esr_run.specs.Script.{names_one}
use Rattle.esr_run.proofs.line.names_one.Given as goal

abbrev pub invariant-loop-other : goal.invariant-loop-other
invariant-loop-other l = names_one l.name l.names ≡ names_one l.name (drop l.other-index l.names)
