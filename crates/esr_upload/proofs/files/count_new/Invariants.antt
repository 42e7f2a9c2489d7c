use Rattle.std.proofs.Common.{◌≡◌, ◌≤◌, take}
use Rattle.esr_upload.specs.Entries.{new_count}
use Rattle.esr_upload.proofs.files.count_new.Given as goal

abbrev pub invariant-loop-plan : goal.invariant-loop-plan
invariant-loop-plan l = (l.count ≡ new_count (take l.plan-index l.plans)) × (l.count ≤ l.plan-index)
