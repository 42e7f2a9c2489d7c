use Rattle.std.proofs.Common.{◌≡◌, ◌-◌, ◌^◌, min, sum_by, take}
use Rattle.esr_upload.specs.Entries.{len_planned}
use Rattle.esr_upload.proofs.files.sum_of.Given as goal

abbrev pub invariant-loop-plan : goal.invariant-loop-plan
invariant-loop-plan l = l.sum ≡ min (sum_by len_planned (take l.plan-index l.plans)) (2 ^ 64 - 1)
