use Rattle.std.proofs.Common.{◌≡◌, drop, map}
use Rattle.esr_core.specs.Deletes.{first_delete}
use Rattle.esr_formats.specs.Ids.{number_of}
use Rattle.esr_formats.specs.Roots.{root_snap_of}
use Rattle.esr_accept.specs.AskedDeletes.{runs_in}
use Rattle.esr_accept.proofs.delete.running.Given as goal

-- the search goes on with what is left
abbrev pub invariant-loop-delete : goal.invariant-loop-delete
invariant-loop-delete l =
    first_delete (runs_in (map root_snap_of l.snaps) l.tickets l.term (map number_of l.uuids)) l.deletes ≡ first_delete (runs_in (map root_snap_of l.snaps) l.tickets l.term (map number_of l.uuids)) (drop l.delete-index l.deletes)
