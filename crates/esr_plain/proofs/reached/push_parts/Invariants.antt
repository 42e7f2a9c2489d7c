use Rattle.std.proofs.Common.{◌≡◌, ◌++◌, take, map}
use Rattle.esr_formats.specs.Names.{name_of}
use Rattle.esr_formats.specs.Shards.{entry_of}
use Rattle.esr_model.specs.Parts.{part_names}
use Rattle.esr_plain.proofs.reached.push_parts.Given as goal

abbrev pub invariant-loop-k : goal.invariant-loop-k
invariant-loop-k l = map name_of l.names ≡ map name_of l.fn.names ++ take l.k (part_names l.shard.index.number l.shard.number (entry_of l.entry))
