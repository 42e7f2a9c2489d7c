use Rattle.std.proofs.Common.{◌≡◌, [], replicate}
use Rattle.esr_accept.proofs.clone.no_places.Given as goal

abbrev pub invariant-loop : goal.invariant-loop
invariant-loop l = l.places ≡ replicate l.counter []
