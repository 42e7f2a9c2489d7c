use Rattle.std.proofs.Common.{◌≡◌, drop}
use Rattle.esr_root.specs.Indices.{place_from}
use Rattle.esr_root.proofs.change.place.Given as goal

abbrev pub invariant-loop-at : goal.invariant-loop-at
invariant-loop-at l = place_from 0 l.name l.indices ≡ place_from l.at l.name (drop l.at l.indices)
