-- After the settle of a delete or cleanup names are doomed that its root doesn't reach.
use Rattle.std.specs.Prelude.{◌≡◌, ℕ, suc, ◌<◌, true, List, ◌++◌, Some}
use Rattle.std.specs.FinMap as fin
use Rattle.esr_model.specs.Names.{BlobName, Root}
use Rattle.esr_model.specs.Values.{Has, Formats}
use Rattle.esr_core.specs.World.{World, Ticket, Shard, Swap, HeldIn, ledger_of}
use Rattle.esr_core.specs.Swaps.{IsUnsettled, Counts}
use Rattle.esr_core.specs.Generations.{DoneAt}
use Rattle.esr_model.specs.Reach.{Reached}

pub record Dooms (f : Formats) (w : World) (names : List BlobName) (new : World) : Type 0 where
  -- the new root and what it reaches aside
  pub root_aside : (n : ℕ) → w.safe ≡ suc n → Has names (Root n) → ⊥
  pub reach_aside : (name : BlobName) → Has names name → Reached f (HeldIn f w) w.root name → ⊥
  pub begun : (n : ℕ) → Has names (Root n) → n < w.pending
  -- it is the last root that was begun, and no swap counts any more
  pub last : w.pending ≡ w.safe
  pub no_swap : (k : ℕ) (t : Ticket) (s : Swap) → fin.get w.tickets k ≡ Some t → IsUnsettled f t s → Counts (ledger_of w) t → ⊥
  -- the barrier: no shard of an open op is done or out
  pub no_done : (uuid index shard g : ℕ) → DoneAt w.ops uuid index shard g → ⊥
  pub no_shard : (k : ℕ) (t : Ticket) → fin.get w.tickets k ≡ Some t → t.out ≡ true → (index shard : ℕ) → t.work ≡ Shard index shard → ⊥
  pub new_is : new ≡ record w { doomed = names ++ w.doomed }
