use Rattle.std.proofs.Common.{◌≡◌, drop}
use Rattle.esr_names.specs.NameRule.{byte_fault}
use Rattle.esr_names.proofs.name.name_fault.Given as goal

abbrev pub invariant-loop-place : goal.invariant-loop-place
invariant-loop-place l = byte_fault 0 l.bytes ≡ byte_fault l.place (drop l.place l.bytes)
