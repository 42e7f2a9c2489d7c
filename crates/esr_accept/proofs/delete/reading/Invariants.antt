use Rattle.std.proofs.Common.{◌≡◌, drop, map}
use Rattle.esr_formats.specs.Ids.{number_of}
use Rattle.esr_accept.specs.AskedDeletes.{reading}
use Rattle.esr_accept.proofs.delete.reading.Given as goal

-- the search goes on with what is left
abbrev pub invariant-loop-restore : goal.invariant-loop-restore
invariant-loop-restore l = reading l.restores (map number_of l.uuids) ≡ reading (drop l.restore-index l.restores) (map number_of l.uuids)
