use Rattle.std.proofs.Common.{take, map, flat_map}
use Rattle.esr_formats.specs.Roots.{root_index_of}
use Rattle.esr_dooming.specs.Pieces.{Added, gone_index}
use Rattle.esr_dooming.proofs.gone.push_indices.Given as goal

abbrev pub invariant-loop-index : goal.invariant-loop-index
invariant-loop-index l = Added l.fn.gone l.gone (flat_map (gone_index (map root_index_of l.new)) (map root_index_of (take l.index-index l.indices)))
