use Rattle.std.proofs.Common.{◌≡◌, [], drop, map}
use Rattle.serde_json.specs.View.{view}
use Rattle.esr_root.specs.Reading.{ids_from}
use Rattle.esr_root.proofs.read.ids_of.Given as goal

abbrev pub invariant-loop-value : goal.invariant-loop-value
invariant-loop-value l = ids_from [] (map view l.values) ≡ ids_from l.ids (map view (drop l.value-index l.values))
