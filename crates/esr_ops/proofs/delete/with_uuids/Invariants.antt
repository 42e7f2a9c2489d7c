use Rattle.std.proofs.Common.{◌≡◌, [], drop, map}
use Rattle.esr_formats.specs.Ids.{number_of}
use Rattle.esr_record.specs.Op.{AreUuids}
use Rattle.esr_ops.specs.Deletes.{with_uuids}
use Rattle.esr_ops.proofs.delete.with_uuids.Given as goal

-- the rest is added to the uuids so far
abbrev pub invariant-loop-uuid : goal.invariant-loop-uuid
invariant-loop-uuid l = (with_uuids (map number_of l.known) (map number_of l.uuids) ≡ with_uuids (map number_of l.all) (map number_of (drop l.uuid-index l.uuids))) × AreUuids [] l.all
