use Rattle.esr_model.specs.Image.{At}
use Rattle.esr_plain.specs.Exactly.{Always}
use Rattle.esr_plain.proofs.Parts.{Begun, IsThere}
use Rattle.esr_plain.proofs.files.joined.Given as goal

abbrev pub invariant-loop-k : goal.invariant-loop-k
invariant-loop-k l = (begun : Begun l.shard l.entry l.k l.bytes) × Always (λ f. IsThere (At f l.image) l.shard l.entry l.k begun.parts)
