use Rattle.std.proofs.Common.{◌≡◌, ◌++◌, map, take, drop}
use Rattle.esr_ops.specs.Shards.{marked_open}
use Rattle.esr_ops.proofs.shard.mark.Given as goal

abbrev pub invariant-loop-open : goal.invariant-loop-open
invariant-loop-open l = l.open-items ≡ map (marked_open l.ticket l.state) (take l.open-index l.initial.open-items) ++ drop l.open-index l.initial.open-items
