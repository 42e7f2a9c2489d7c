use Rattle.std.proofs.Common.{take, map, flat_map}
use Rattle.esr_formats.specs.Shards.{entry_of}
use Rattle.esr_model.specs.Parts.{part_names}
use Rattle.esr_reach.specs.Names.{Pushed}
use Rattle.esr_reach.proofs.reached.push_files.Given as goal

abbrev pub invariant-loop-entry : goal.invariant-loop-entry
invariant-loop-entry l = Pushed l.fn.names l.names (flat_map (part_names l.shard.index.number l.shard.number) (map entry_of (take l.entry-index l.files)))
