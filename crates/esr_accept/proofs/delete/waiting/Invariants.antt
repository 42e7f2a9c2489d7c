use Rattle.std.proofs.Common.{◌≡◌, drop}
use Rattle.esr_core.specs.Deletes.{first_delete}
use Rattle.esr_accept.specs.AskedDeletes.{waits_in}
use Rattle.esr_accept.proofs.delete.waiting.Given as goal

-- the search goes on with what is left
abbrev pub invariant-loop-delete : goal.invariant-loop-delete
invariant-loop-delete l = first_delete (waits_in l.tickets l.term) l.deletes ≡ first_delete (waits_in l.tickets l.term) (drop l.delete-index l.deletes)
