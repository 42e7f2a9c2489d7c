use Rattle.std.proofs.Common.{◌≡◌, drop, map}
use Rattle.esr_formats.specs.Ids.{number_of}
use Rattle.esr_model.specs.Shelf.{names_uuid}
use Rattle.esr_plain.proofs.shelf.names_uuid.Given as goal

abbrev pub invariant-loop-named : goal.invariant-loop-named
invariant-loop-named l = names_uuid (map number_of l.uuids) l.uuid.number ≡ names_uuid (map number_of (drop l.named-index l.uuids)) l.uuid.number
