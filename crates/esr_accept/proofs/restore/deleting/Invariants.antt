use Rattle.std.proofs.Common.{◌≡◌, drop}
use Rattle.esr_accept.specs.Asking.{deleting}
use Rattle.esr_accept.proofs.restore.deleting.Given as goal

-- the search goes on with what is left
abbrev pub invariant-loop-delete : goal.invariant-loop-delete
invariant-loop-delete l = deleting l.deletes l.uuid.number ≡ deleting (drop l.delete-index l.deletes) l.uuid.number
