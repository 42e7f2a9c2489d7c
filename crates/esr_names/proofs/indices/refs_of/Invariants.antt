use Rattle.std.proofs.Common.{◌≡◌, [], drop, map}
use Rattle.serde_json.specs.View.{view}
use Rattle.esr_names.specs.Indices.{refs_from, AreRefs}
use Rattle.esr_names.proofs.indices.refs_of.Given as goal

abbrev pub invariant-loop-value : goal.invariant-loop-value
invariant-loop-value l = (refs_from [] (map view l.values) ≡ refs_from l.refs (map view (drop l.value-index l.values))) × AreRefs [] l.refs
