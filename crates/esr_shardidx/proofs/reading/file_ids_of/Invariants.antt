use Rattle.std.proofs.Common.{◌≡◌, [], drop, map}
use Rattle.serde_json.specs.View.{view}
use Rattle.esr_shardidx.specs.Indices.{file_ids_from}
use Rattle.esr_shardidx.proofs.reading.file_ids_of.Given as goal

abbrev pub invariant-loop-value : goal.invariant-loop-value
invariant-loop-value l = file_ids_from [] (map view l.values) ≡ file_ids_from l.ids (map view (drop l.value-index l.values))
