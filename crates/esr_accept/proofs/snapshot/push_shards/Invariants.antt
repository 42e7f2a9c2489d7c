use Rattle.std.proofs.Common.{◌≡◌, ◌++◌}
use Rattle.esr_accept.specs.Asking.{shards_from}
use Rattle.esr_accept.proofs.snapshot.push_shards.Given as goal

-- so many of them so far
abbrev pub invariant-loop-number : goal.invariant-loop-number
invariant-loop-number l = l.shards.items ≡ l.initial.shards.items ++ shards_from l.at l.index 0 l.number
