use Rattle.std.proofs.Common.{take, map, flat_map}
use Rattle.std.specs.Ordering.{nat_cmp}
use Rattle.std.specs.BTreeSet.{contains}
use Rattle.esr_formats.specs.Shards.{entry_of}
use Rattle.esr_reach.specs.Names.{Pushed}
use Rattle.esr_results.specs.Pruned.{pruned_of}
use Rattle.esr_dooming.specs.Pieces.{file_piece}
use Rattle.esr_dooming.proofs.doom.push_files.Given as goal

abbrev pub invariant-loop-entry : goal.invariant-loop-entry
invariant-loop-entry l = Pushed l.fn.names l.names (flat_map (file_piece (contains nat_cmp l.has) (pruned_of l.shard)) (map entry_of (take l.entry-index l.files)))
