use Rattle.std.proofs.Common.{◌≡◌, take, map}
use Rattle.esr_accept.proofs.snapshot.places.Given as goal

abbrev pub invariant-loop-index : goal.invariant-loop-index
invariant-loop-index l = l.places ≡ map (λ a. a.place) (take l.index-index l.asked)
