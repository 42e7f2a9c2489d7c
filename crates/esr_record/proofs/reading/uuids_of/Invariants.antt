use Rattle.std.proofs.Common.{◌≡◌, [], drop, map}
use Rattle.serde_json.specs.View.{view}
use Rattle.esr_record.specs.Op.{AreUuids}
use Rattle.esr_record.specs.Reading.{uuids_from}
use Rattle.esr_record.proofs.reading.uuids_of.Given as goal

abbrev pub invariant-loop-value : goal.invariant-loop-value
invariant-loop-value l = (uuids_from [] (map view l.values) ≡ uuids_from l.uuids (map view (drop l.value-index l.values))) × AreUuids [] l.uuids
