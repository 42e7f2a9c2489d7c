use Rattle.std.proofs.Common.{◌≡◌, drop, map}
use Rattle.esr_formats.specs.Roots.{root_index_of}
use Rattle.esr_model.specs.Image.{index_at, at_shard_of}
use Rattle.esr_plain.proofs.shard.generation.Given as goal

-- to go on from here finds what all of them give
abbrev pub invariant-loop-index : goal.invariant-loop-index
invariant-loop-index l =
    at_shard_of (index_at (map root_index_of (drop l.index-index l.index-items)) l.shard.index.number) l.shard.number
    ≡ at_shard_of (index_at (map root_index_of l.index-items) l.shard.index.number) l.shard.number
