use Rattle.std.proofs.Common.{take, flat_map}
use Rattle.std.specs.BTreeSet.{contains}
use Rattle.esr_names.specs.contracts.blob.BlobNameOrd.TheImpl as name_block
use Rattle.esr_reach.specs.Names.{Pushed}
use Rattle.esr_dooming.specs.Unreached.{blob_piece}
use Rattle.esr_dooming.proofs.clean.push_unreached.Given as goal

abbrev pub invariant-loop-blob : goal.invariant-loop-blob
invariant-loop-blob l = Pushed l.fn.names l.names (flat_map (blob_piece (contains name_block.ghosts.cmp l.reached)) (take l.blob-index l.page))
