use Rattle.std.proofs.Common.{◌≡◌, drop}
use Rattle.esr_report.specs.Replies.{has_name}
use Rattle.esr_report.proofs.aborts.has_name.Given as goal

abbrev pub invariant-loop-other : goal.invariant-loop-other
invariant-loop-other l = has_name l.names l.name ≡ has_name (drop l.other-index l.names) l.name
