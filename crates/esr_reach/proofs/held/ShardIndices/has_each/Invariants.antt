use Rattle.std.proofs.Common.{take, map}
use Rattle.esr_formats.specs.Roots.{root_index_of}
use Rattle.esr_model.specs.Values.{Has, RootIndex}
use Rattle.esr_reach.specs.Reading.{HasShards}
use Rattle.esr_reach.proofs.held.ShardIndices.has_each.Given as goal

abbrev pub invariant-loop-index : goal.invariant-loop-index
invariant-loop-index l = (x : RootIndex) → Has (map root_index_of (take l.index-index l.index-items)) x → HasShards x l.self
