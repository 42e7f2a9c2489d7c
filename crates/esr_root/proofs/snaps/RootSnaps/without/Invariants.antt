use Rattle.std.proofs.Common.{◌≡◌, take, not}
use Rattle.std.specs.Prelude.{filter}
use Rattle.esr_root.specs.Ids.{has_id}
use Rattle.esr_root.proofs.snaps.RootSnaps.without.Given as goal

abbrev pub invariant-loop-snap : goal.invariant-loop-snap
invariant-loop-snap l = l.items ≡ filter (λ s. not (has_id s.uuid l.uuids)) (take l.snap-index l.self)
