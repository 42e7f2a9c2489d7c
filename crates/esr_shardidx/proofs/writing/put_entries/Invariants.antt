use Rattle.std.proofs.Common.{◌∷◌, take}
use Rattle.json.specs.Token.{Token}
use Rattle.esr_shardidx.specs.Entries.{entry_data}
use Rattle.esr_shardidx.specs.Written.{Adds}
use Rattle.esr_shardidx.proofs.Pieces.{pieces}
use Rattle.esr_shardidx.proofs.writing.put_entries.Given as goal

abbrev pub invariant-loop-entry : goal.invariant-loop-entry
invariant-loop-entry l = Adds l.fn.out l.out (Token.begin_array ∷ pieces entry_data (take l.entry-index l.entries))
