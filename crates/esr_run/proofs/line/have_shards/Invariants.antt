use Rattle.std.proofs.Common.{◌≡◌, drop}
use Rattle.esr_run.specs.Script.{have_shards}
use Rattle.esr_run.proofs.line.have_shards.Given as goal

abbrev pub invariant-loop-index : goal.invariant-loop-index
invariant-loop-index l = have_shards l.indices ≡ have_shards (drop l.index-index l.indices)
