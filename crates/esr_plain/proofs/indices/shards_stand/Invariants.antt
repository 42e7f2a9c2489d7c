use Rattle.std.proofs.Common.{◌≡◌, ◌<◌, ℕ, map, Some, option_map}
use Rattle.esr_formats.specs.Ids.{number_of}
use Rattle.esr_formats.specs.Roots.{root_of}
use Rattle.esr_model.specs.Image.{At, IndexStands, at_shard}
use Rattle.esr_plain.specs.Exactly.{Always}
use Rattle.esr_plain.proofs.indices.shards_stand.Given as goal

abbrev pub invariant-loop-number : goal.invariant-loop-number
invariant-loop-number l = Always (λ f. (k g : ℕ) → k < l.number → at_shard (map (option_map number_of) l.generation-items) k ≡ Some g → IndexStands f (At f l.image) (root_of l.root) l.index.id.number k g)
