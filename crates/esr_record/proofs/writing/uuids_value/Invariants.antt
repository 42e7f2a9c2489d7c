use Rattle.std.proofs.Common.{◌≡◌, take, map}
use Rattle.serde_json.specs.View.{view}
use Rattle.esr_names.specs.Indices.{id_data}
use Rattle.esr_record.proofs.writing.uuids_value.Given as goal

abbrev pub invariant-loop-uuid : goal.invariant-loop-uuid
invariant-loop-uuid l = map view l.values.items ≡ map id_data (take l.uuid-index l.uuids)
