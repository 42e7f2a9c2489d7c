use Rattle.std.proofs.Common.{◌≡◌, [], drop, map}
use Rattle.serde_json.specs.View.{view}
use Rattle.esr_root.specs.Reading.{snaps_from}
use Rattle.esr_root.proofs.read.snaps_of.Given as goal

abbrev pub invariant-loop-value : goal.invariant-loop-value
invariant-loop-value l = snaps_from [] (map view l.values) ≡ snaps_from l.snaps (map view (drop l.value-index l.values))
