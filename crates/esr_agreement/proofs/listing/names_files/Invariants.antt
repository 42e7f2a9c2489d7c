use Rattle.std.proofs.Common.{take, map}
use Rattle.esr_formats.specs.Ids.{number_of}
use Rattle.esr_formats.specs.Shards.{entry_of}
use Rattle.esr_model.specs.Image.{AllPairs}
use Rattle.esr_agreement.specs.Lists.{Names}
use Rattle.esr_agreement.proofs.listing.names_files.Given as goal

abbrev pub invariant-loop-k : goal.invariant-loop-k
invariant-loop-k l = AllPairs (Names (map entry_of l.entries)) (map number_of (take l.k l.ids)) (map entry_of (take l.k l.files))
