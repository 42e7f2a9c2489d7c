use Rattle.std.proofs.Common.{◌≡◌, ℕ, take}
use Rattle.esr_core.specs.After.{or_else}
use Rattle.esr_report.specs.Replies.{name_of_op, aborts_at}
use Rattle.esr_report.specs.Ends.{first_end}
use Rattle.esr_report.specs.Aborts.{if_named}
use Rattle.esr_report.proofs.aborts.push_aborted.Given as goal

abbrev pub invariant-loop-accepted : goal.invariant-loop-accepted
invariant-loop-accepted l = (op : ℕ) → first_end l.ends.items op ≡ or_else (first_end l.fn.ends.items op) (if_named (name_of_op (take l.accepted-index l.before) op) (aborts_at l.before op l.entry))
