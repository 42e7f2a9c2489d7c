use Rattle.std.proofs.Common.{◌≡◌, take, map}
use Rattle.esr_formats.specs.Ids.{number_of}
use Rattle.esr_accept.specs.AskedDeletes.{growing}
use Rattle.esr_accept.proofs.delete.grown_deletes.Given as goal

abbrev pub invariant-loop-delete : goal.invariant-loop-delete
invariant-loop-delete l = l.copy.items ≡ map (growing (map number_of l.uuids) l.number) (take l.delete-index l.deletes)
