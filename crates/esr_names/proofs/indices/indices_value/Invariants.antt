use Rattle.std.proofs.Common.{◌≡◌, take, map}
use Rattle.serde_json.specs.View.{view}
use Rattle.esr_names.specs.Indices.{ref_data}
use Rattle.esr_names.proofs.indices.indices_value.Given as goal

abbrev pub invariant-loop-index : goal.invariant-loop-index
invariant-loop-index l = map view l.values.items ≡ map ref_data (take l.index-index l.refs)
