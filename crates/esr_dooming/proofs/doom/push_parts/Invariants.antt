use Rattle.std.proofs.Common.{take}
use Rattle.esr_formats.specs.Shards.{entry_of}
use Rattle.esr_model.specs.Parts.{part_names}
use Rattle.esr_reach.specs.Names.{Pushed}
use Rattle.esr_dooming.proofs.doom.push_parts.Given as goal

abbrev pub invariant-loop-k : goal.invariant-loop-k
invariant-loop-k l = Pushed l.fn.names l.names (take l.k (part_names l.shard.index.number l.shard.number (entry_of l.entry)))
