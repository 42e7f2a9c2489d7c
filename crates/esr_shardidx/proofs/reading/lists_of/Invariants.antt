use Rattle.std.proofs.Common.{◌≡◌, [], drop, map}
use Rattle.serde_json.specs.View.{view}
use Rattle.esr_shardidx.specs.Indices.{lists_from}
use Rattle.esr_shardidx.specs.Marks.{IsNamed}
use Rattle.esr_shardidx.proofs.reading.lists_of.Given as goal

abbrev pub invariant-loop-value : goal.invariant-loop-value
invariant-loop-value l =
    IsNamed l.entries l.lists l.named
    × (lists_from l.entries [] (map view l.values) ≡ lists_from l.entries l.lists (map view (drop l.value-index l.values)))
