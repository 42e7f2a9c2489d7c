-- A shard whose generation goes with a delete, as the definitions see it.
use Rattle.std.specs.Prelude.{◌≡◌, ◌<◌, length, List, false}
use Rattle.esr_model.specs.Values.{Has, RootIndex, RootData}
use Rattle.esr_model.specs.Delete.{PrunedShard}
use Rattle.esr_results.specs.declared.pruned.PrunedShard.{PrunedShard as CodePruned}

abbrev pub pruned_of : CodePruned → PrunedShard
pruned_of p = record { index = p.shard.index.number; number = p.shard.number; base = p.base.number; kept = p.kept }

-- its number is one of the layout, and the index of the root has a place for it
pub record IsPlaced (root : RootData) (p : PrunedShard) : Type 0 where
  pub few : p.number < 1024
  pub long : (x : RootIndex) → Has root.indices x → x.id ≡ p.index → p.number < length x.generations

abbrev pub ArePlaced : RootData → List PrunedShard → Type 0
ArePlaced root shards = (p : PrunedShard) → Has shards p → IsPlaced root p

-- what stands in a list past its end
abbrev pub no_shard : CodePruned
no_shard = record { shard = record { index = record { number = 0 }; number = 0 }; base = record { number = 0 }; kept = false }
