use Rattle.std.proofs.Common.{◌≡◌, drop, map}
use Rattle.esr_model.specs.Image.{index_at}
use Rattle.esr_formats.specs.Roots.{root_index_of}
use Rattle.esr_progress.proofs.ready.root_generation.Given as goal

-- the search goes on with what is left
abbrev pub invariant-loop-index : goal.invariant-loop-index
invariant-loop-index l = index_at (map root_index_of l.index-items) l.shard.index.number ≡ index_at (map root_index_of (drop l.index-index l.index-items)) l.shard.index.number
