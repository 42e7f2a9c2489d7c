use Rattle.std.proofs.Common.{◌≡◌, ◌++◌, drop}
use Rattle.esr_accept.specs.Asking.{shards_of}
use Rattle.esr_accept.proofs.snapshot.shards.Given as goal

-- the rest of the indices gives the rest of the shards
abbrev pub invariant-loop-at : goal.invariant-loop-at
invariant-loop-at l = shards_of 0 l.indices ≡ l.shards.items ++ shards_of l.at (drop l.at l.indices)
