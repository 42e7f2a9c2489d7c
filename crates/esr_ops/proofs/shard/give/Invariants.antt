use Rattle.std.proofs.Common.{◌≡◌, ◌++◌, map, take, drop}
use Rattle.esr_ops.specs.Shards.{given_open}
use Rattle.esr_ops.proofs.shard.give.Given as goal

abbrev pub invariant-loop-open : goal.invariant-loop-open
invariant-loop-open l = l.open-items ≡ map (given_open l.ticket l.shard) (take l.open-index l.initial.open-items) ++ drop l.open-index l.initial.open-items
