use Rattle.std.proofs.Common.{◌≡◌, take, map}
use Rattle.serde_json.specs.View.{view}
use Rattle.esr_record.specs.Text.{op_data}
use Rattle.esr_record.proofs.writing.ops_value.Given as goal

abbrev pub invariant-loop-op : goal.invariant-loop-op
invariant-loop-op l = map view l.values.items ≡ map op_data (take l.op-index l.ops)
