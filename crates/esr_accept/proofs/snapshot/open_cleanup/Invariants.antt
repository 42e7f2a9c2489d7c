use Rattle.std.proofs.Common.{◌≡◌, drop}
use Rattle.esr_accept.specs.Asking.{open_cleanup}
use Rattle.esr_accept.proofs.snapshot.open_cleanup.Given as goal

-- the search goes on with what is left
abbrev pub invariant-loop-delete : goal.invariant-loop-delete
invariant-loop-delete l = open_cleanup l.deletes ≡ open_cleanup (drop l.delete-index l.deletes)
