use Rattle.std.proofs.Common.{◌≡◌, ◌++◌, map, take, drop}
use Rattle.esr_ops.specs.Shards.{failed_open}
use Rattle.esr_ops.proofs.shard.give_up.Given as goal

abbrev pub invariant-loop-open : goal.invariant-loop-open
invariant-loop-open l = l.open-items ≡ map (failed_open l.ticket) (take l.open-index l.initial.open-items) ++ drop l.open-index l.initial.open-items
