-- The shards of a list of the code, one after another.
use Rattle.std.proofs.Common.{◌≡◌, ◌<◌, inl, inr, ℕ, zero, suc, List, [], ◌∷◌, map, length, take, get_or, sym, ap, ◌∙◌, subst, arith}
use Rattle.esr_model.specs.Loops.{has_at, item_is}
use Rattle.esr_model.specs.Values.{Has, RootData}
use Rattle.esr_model.specs.Delete.{PrunedShard}
use Rattle.esr_core.specs.Pruning.{AreOfRoot}
use Rattle.esr_results.specs.declared.pruned.PrunedShard.{PrunedShard as CodePruned}
use Rattle.esr_results.specs.Pruned.{pruned_of, no_shard}

-- the next one is one of them
pub shard_in : (items shards : List CodePruned) (k : ℕ) → items ≡ shards → k < length items → Has (map pruned_of shards) (pruned_of (get_or items k no_shard))
shard_in items shards k same less = subst (λ (xs : List CodePruned). Has (map pruned_of xs) (pruned_of (get_or items k no_shard))) same (has_at pruned_of items k (get_or items k no_shard) less (item_is items k no_shard less))

-- none before it is of its shard
apart_from : (root : RootData) (items : List CodePruned) → AreOfRoot root (map pruned_of items) → (k : ℕ) → k < length items → (q : PrunedShard) → Has (map pruned_of (take k items)) q
    → (pruned_of (get_or items k no_shard)).index ≡ q.index → (pruned_of (get_or items k no_shard)).number ≡ q.number → ⊥
apart_from root [] are k less q m same number = absurd (omega arith)
apart_from root (x ∷ items) are zero less q m same number = absurd m
apart_from root (x ∷ items) are (suc k) less q (inl here) same number =
    let p = pruned_of (get_or items k no_shard) in
    let there = has_at pruned_of items k (get_or items k no_shard) (omega arith) (item_is items k no_shard (omega arith)) in
    are.1 p there (ap (λ (y : PrunedShard). y.index) here ∙ sym same) (ap (λ (y : PrunedShard). y.number) here ∙ sym number)
apart_from root (x ∷ items) are (suc k) less q (inr later) same number = apart_from root items are.2 k (omega arith) q later same number

pub apart_at : (root : RootData) (items shards : List CodePruned) (k : ℕ) → items ≡ shards → AreOfRoot root (map pruned_of shards) → k < length items → (q : PrunedShard) → Has (map pruned_of (take k items)) q
    → (pruned_of (get_or items k no_shard)).index ≡ q.index → (pruned_of (get_or items k no_shard)).number ≡ q.number → ⊥
apart_at root items shards k same are less = apart_from root items (subst (λ (xs : List CodePruned). AreOfRoot root (map pruned_of xs)) (sym same) are) k less
