use Rattle.std.proofs.Common.{◌≡◌, take, not}
use Rattle.std.specs.Prelude.{filter}
use Rattle.esr_root.specs.Ids.{has_id}
use Rattle.esr_root.proofs.indices.RootIndex.without.Given as goal

abbrev pub invariant-loop-uuid : goal.invariant-loop-uuid
invariant-loop-uuid l = l.snapshots ≡ filter (λ u. not (has_id u l.uuids)) (take l.uuid-index l.self.snapshots)
