use Rattle.std.proofs.Common.{◌≡◌, ◌++◌, None, replicate}
use Rattle.esr_root.proofs.generations.Generations.padded.Given as goal

abbrev pub invariant-loop : goal.invariant-loop
invariant-loop l = l.items ≡ l.self ++ replicate l.counter None
