-- A shard that is done isn't out.
use Rattle.std.proofs.Common.{◌≡◌, ℕ}
use Rattle.esr_model.specs.Values.{ShardResult}
use Rattle.esr_core.specs.World.{Done, Out}

pub done_out : (r : ShardResult) (k : ℕ) → Done r ≡ Out k → ⊥
done_out r k e = cc
