use Rattle.std.proofs.Common.{◌≡◌, ℕ, take, map, option_map, Some, IsSome}
use Rattle.esr_formats.specs.Ids.{number_of}
use Rattle.esr_model.specs.Image.{at_shard}
use Rattle.esr_reach.specs.Held.{held_at}
use Rattle.esr_reach.proofs.held.ShardIndices.has_shards.Given as goal

abbrev pub invariant-loop-number : goal.invariant-loop-number
invariant-loop-number l = (k g : ℕ) → at_shard (map (option_map number_of) (take l.number l.generation-items)) k ≡ Some g → IsSome (held_at l.self l.index.id.number k)
