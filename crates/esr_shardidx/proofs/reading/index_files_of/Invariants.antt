use Rattle.std.proofs.Common.{◌≡◌, [], drop, map}
use Rattle.serde_json.specs.View.{view}
use Rattle.esr_shardidx.specs.Indices.{index_files_from, Rises}
use Rattle.esr_shardidx.proofs.reading.index_files_of.Given as goal

abbrev pub invariant-loop-value : goal.invariant-loop-value
invariant-loop-value l =
    Rises l.files × (index_files_from [] (map view l.values) ≡ index_files_from l.files (map view (drop l.value-index l.values)))
