use Rattle.std.proofs.Common.{◌≡◌, [], drop, map}
use Rattle.serde_json.specs.View.{view}
use Rattle.esr_record.specs.Op.{AreOps, last_op}
use Rattle.esr_record.specs.Reading.{ops_from}
use Rattle.esr_record.proofs.reading.ops_of.Given as goal

abbrev pub invariant-loop-value : goal.invariant-loop-value
invariant-loop-value l = (ops_from 0 [] (map view l.values) ≡ ops_from l.last l.ops (map view (drop l.value-index l.values))) × (l.last ≡ last_op l.ops) × AreOps 0 l.ops
