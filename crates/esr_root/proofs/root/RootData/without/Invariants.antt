use Rattle.std.proofs.Common.{◌≡◌, take, map}
use Rattle.std.specs.Prelude.{filter}
use Rattle.esr_root.specs.Changes.{has_some, thinned}
use Rattle.esr_root.proofs.root.RootData.without.Given as goal

abbrev pub invariant-loop-index : goal.invariant-loop-index
invariant-loop-index l = l.items ≡ filter has_some (map (thinned l.uuids) (take l.index-index l.self.indices))
