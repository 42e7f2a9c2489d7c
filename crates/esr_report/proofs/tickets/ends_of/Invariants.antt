use Rattle.std.proofs.Common.{◌≡◌, ℕ, [], take, drop}
use Rattle.esr_core.specs.After.{or_else}
use Rattle.esr_report.specs.Replies.{end_of_op}
use Rattle.esr_report.specs.Ends.{first_end}
use Rattle.esr_report.proofs.tickets.ends_of.Given as goal

abbrev pub invariant-loop-at : goal.invariant-loop-at
invariant-loop-at l = (op : ℕ) → end_of_op l.entries op [] l.entries ≡ or_else (first_end l.ends.items op) (end_of_op l.entries op (take l.at l.entries) (drop l.at l.entries))
