use Rattle.std.proofs.Common.{◌≡◌, take}
use Rattle.std.specs.List.{filter_map}
use Rattle.esr_ops.specs.Shards.{result_in}
use Rattle.esr_ops.proofs.shard.results.Given as goal

abbrev pub invariant-loop-open : goal.invariant-loop-open
invariant-loop-open l = l.results ≡ filter_map (λ s. result_in s.state) (take l.open-index l.shards)
