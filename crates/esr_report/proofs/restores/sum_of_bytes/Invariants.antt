use Rattle.std.proofs.Common.{◌≡◌, ◌-◌, ◌^◌, min, sum_by, map, take}
use Rattle.esr_report.specs.Replies.{bytes_of}
use Rattle.esr_report.specs.Ends.{end_of_code}
use Rattle.esr_report.proofs.restores.sum_of_bytes.Given as goal

abbrev pub invariant-loop-end : goal.invariant-loop-end
invariant-loop-end l = l.sum ≡ min (sum_by bytes_of (map end_of_code (take l.end-index l.ends))) (2 ^ 64 - 1)
