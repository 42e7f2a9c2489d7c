use Rattle.std.proofs.Common.{◌≡◌, drop, map, option_map}
use Rattle.esr_core.specs.After.{or_else}
use Rattle.esr_desk.specs.Entries.{why_of}
use Rattle.esr_report.specs.Replies.{first_by, failure_of}
use Rattle.esr_report.specs.Ends.{end_of_code}
use Rattle.esr_report.proofs.restores.first_failure.Given as goal

abbrev pub invariant-loop-end : goal.invariant-loop-end
invariant-loop-end l = first_by failure_of (map end_of_code l.ends) ≡ or_else (option_map why_of l.failure) (first_by failure_of (map end_of_code (drop l.end-index l.ends)))
