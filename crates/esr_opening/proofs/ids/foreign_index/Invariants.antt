use Rattle.std.proofs.Common.{◌≡◌, drop, map}
use Rattle.esr_formats.specs.Roots.{root_index_of}
use Rattle.esr_opening.specs.Foreign.{index_ids, first_from}
use Rattle.esr_opening.proofs.ids.foreign_index.Given as goal

abbrev pub invariant-loop-index : goal.invariant-loop-index
invariant-loop-index l = first_from l.bound.number (index_ids (map root_index_of l.indices)) ≡ first_from l.bound.number (index_ids (map root_index_of (drop l.index-index l.indices)))
