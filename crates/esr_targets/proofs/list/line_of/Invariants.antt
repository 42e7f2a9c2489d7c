use Rattle.std.proofs.Common.{◌≡◌, drop}
use Rattle.esr_targets.specs.Listed.{line_of}
use Rattle.esr_targets.proofs.list.line_of.Given as goal

abbrev pub invariant-loop-known : goal.invariant-loop-known
invariant-loop-known l = line_of l.ops l.op ≡ line_of (drop l.known-index l.ops) l.op
