use Rattle.std.proofs.Common.{◌≡◌, [], drop, map}
use Rattle.serde_json.specs.View.{view}
use Rattle.esr_root.specs.Reading.{generations_from}
use Rattle.esr_root.proofs.read.generations_from.Given as goal

abbrev pub invariant-loop-value : goal.invariant-loop-value
invariant-loop-value l = generations_from [] (map view l.values) ≡ generations_from l.generations (map view (drop l.value-index l.values))
