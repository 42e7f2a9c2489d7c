use Rattle.std.proofs.Common.{take, map}
use Rattle.esr_formats.specs.Shards.{entry_of}
use Rattle.esr_model.specs.Image.{AllPairs, At}
use Rattle.esr_plain.specs.Exactly.{Always}
use Rattle.esr_plain.specs.Joined.{IsStored}
use Rattle.esr_plain.proofs.files.stored_files.Given as goal

abbrev pub invariant-loop-entry : goal.invariant-loop-entry
invariant-loop-entry l = Always (λ f. AllPairs (IsStored f (At f l.image) l.shard.index.number l.shard.number) (map entry_of (take l.entry-index l.entries)) l.files)
