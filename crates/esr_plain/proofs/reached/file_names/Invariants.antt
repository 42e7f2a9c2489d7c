use Rattle.std.proofs.Common.{take, map}
use Rattle.esr_formats.specs.Shards.{entry_of}
use Rattle.esr_plain.specs.Reach.{AreNames, OfSome, OfFile}
use Rattle.esr_plain.proofs.reached.file_names.Given as goal

abbrev pub invariant-loop-entry : goal.invariant-loop-entry
invariant-loop-entry l = AreNames l.names (OfSome (OfFile l.shard.index.number l.shard.number) (map entry_of (take l.entry-index l.entry-items)))
