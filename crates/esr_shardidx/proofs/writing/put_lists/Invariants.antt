use Rattle.std.proofs.Common.{◌∷◌, take}
use Rattle.json.specs.Token.{Token}
use Rattle.esr_shardidx.specs.Indices.{list_data}
use Rattle.esr_shardidx.specs.Written.{Adds}
use Rattle.esr_shardidx.proofs.Pieces.{pieces}
use Rattle.esr_shardidx.proofs.writing.put_lists.Given as goal

abbrev pub invariant-loop-list : goal.invariant-loop-list
invariant-loop-list l = Adds l.fn.out l.out (Token.begin_array ∷ pieces list_data (take l.list-index l.lists))
