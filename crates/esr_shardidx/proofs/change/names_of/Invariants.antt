use Rattle.std.proofs.Common.{◌≡◌, take, map}
use Rattle.esr_shardidx.specs.Indices.{name_of}
use Rattle.esr_shardidx.proofs.change.names_of.Given as goal

abbrev pub invariant-loop-entry : goal.invariant-loop-entry
invariant-loop-entry l = l.names ≡ map name_of (take l.entry-index l.entries)
