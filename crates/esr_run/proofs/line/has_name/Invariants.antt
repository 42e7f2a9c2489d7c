use Rattle.std.proofs.Common.{◌≡◌, drop}
use Rattle.esr_run.specs.Script.{has_name}
use Rattle.esr_run.proofs.line.has_name.Given as goal

abbrev pub invariant-loop-index : goal.invariant-loop-index
invariant-loop-index l = has_name l.name l.indices ≡ has_name l.name (drop l.index-index l.indices)
