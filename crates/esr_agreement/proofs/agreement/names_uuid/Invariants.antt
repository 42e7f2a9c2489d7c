use Rattle.std.proofs.Common.{◌≡◌, drop, map}
use Rattle.esr_model.specs.Shelf.{names_uuid}
use Rattle.esr_formats.specs.Ids.{number_of}
use Rattle.esr_agreement.proofs.agreement.names_uuid.Given as goal

abbrev pub invariant-loop-other : goal.invariant-loop-other
invariant-loop-other l = names_uuid (map number_of l.uuids) l.uuid.number ≡ names_uuid (map number_of (drop l.other-index l.uuids)) l.uuid.number
