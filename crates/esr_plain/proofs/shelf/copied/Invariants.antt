use Rattle.std.proofs.Common.{◌≡◌, drop}
use Rattle.esr_model.specs.Shelf.{shelved_at}
use Rattle.esr_plain.proofs.shelf.copied.Given as goal

abbrev pub invariant-loop-snap : goal.invariant-loop-snap
invariant-loop-snap l = shelved_at l.shelf l.source.number ≡ shelved_at (drop l.snap-index l.shelf) l.source.number
