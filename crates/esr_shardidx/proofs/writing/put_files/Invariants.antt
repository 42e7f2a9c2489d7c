use Rattle.std.proofs.Common.{◌∷◌, take}
use Rattle.json.specs.Token.{Token}
use Rattle.esr_shardidx.specs.Indices.{file_data}
use Rattle.esr_shardidx.specs.Written.{Adds}
use Rattle.esr_shardidx.proofs.Pieces.{pieces}
use Rattle.esr_shardidx.proofs.writing.put_files.Given as goal

abbrev pub invariant-loop-file : goal.invariant-loop-file
invariant-loop-file l = Adds l.fn.out l.out (Token.begin_array ∷ pieces file_data (take l.file-index l.files))
