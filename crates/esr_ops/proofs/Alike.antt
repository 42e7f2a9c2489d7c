-- Shards of one index and number stay of one state.
use Rattle.std.proofs.Common.{◌≡◌, List, map, sym, ap, ◌∙◌}
use Rattle.esr_model.specs.Lists.{Has-mapped}
use Rattle.esr_ops.specs.declared.shard.ShardState.{ShardState as CodeState}
use Rattle.esr_ops.specs.declared.shard.OpenShard.{OpenShard}
use Rattle.esr_ops.specs.Shards.{AreAlike}

-- after a change of states alone that goes by state
pub alike_by : (g : OpenShard → CodeState) → ((a b : OpenShard) → a.shard.index.number ≡ b.shard.index.number → a.shard.number ≡ b.shard.number → a.state ≡ b.state → g a ≡ g b)
    → (xs : List OpenShard) → AreAlike xs → AreAlike (map {A = OpenShard} (λ s. record s { state = g s }) xs)
alike_by g same xs alike a b ha hb i n =
    let (x, hx, ex) = Has-mapped {A = OpenShard} (λ s. record s { state = g s }) xs a ha in
    let (y, hy, ey) = Has-mapped {A = OpenShard} (λ s. record s { state = g s }) xs b hb in
    let id : x.shard.index.number ≡ y.shard.index.number = ap (λ (s : OpenShard). s.shard.index.number) ex ∙ i ∙ sym (ap (λ (s : OpenShard). s.shard.index.number) ey) in
    let number : x.shard.number ≡ y.shard.number = ap (λ (s : OpenShard). s.shard.number) ex ∙ n ∙ sym (ap (λ (s : OpenShard). s.shard.number) ey) in
    sym (ap (λ (s : OpenShard). s.state) ex) ∙ same x y id number (alike x y hx hy id number) ∙ ap (λ (s : OpenShard). s.state) ey
