use Rattle.std.proofs.Common.{◌≡◌, map}
use Rattle.esr_formats.specs.Names.{name_of}
use Rattle.esr_verify.specs.Steps.{test_names}
use Rattle.esr_verify.proofs.names.list_names.Given as goal

abbrev pub invariant-loop-worker : goal.invariant-loop-worker
invariant-loop-worker l = map name_of l.names ≡ test_names l.id.number l.worker
