-- What is known of a list of open ops.
use Rattle.std.specs.Prelude.{◌≡◌, ℕ, ◌+◌, ◌<◌, ◌≤◌, ◌^◌, suc, Bool, true, false}
use Rattle.esr_model.specs.Values.{RootData}
use Rattle.esr_model.specs.Kept.{first_id}
use Rattle.esr_core.specs.Tracked.{Named}
use Rattle.esr_core.specs.World.{World}
use Rattle.esr_ops.specs.Plan.{Plan, UnitKind, OfShard, OfFinalize, OfDelete, OfDrop, IsPlanOf}

-- It is that of a world in which no ticket was given, and its names and ids are apart.
pub record IsStart (p : Plan) (root : RootData) (next : ℕ) : Type 0 where
  pub w : World
  pub plan : IsPlanOf w p
  pub first : p.next_ticket ≡ 1
  pub named : Named root p.ops next

-- It is that of a world in which not more tickets were given than so many. Until it is begun its names and ids are apart.
pub record IsBoard (p : Plan) (root : RootData) (term next given : ℕ) (begun : Bool) : Type 0 where
  pub w : World
  pub plan : IsPlanOf w p
  pub few : p.next_ticket ≤ given + 1
  pub low_term : term < 2 ^ 63
  pub in_term : next < first_id (suc term)
  pub named : begun ≡ false → Named root p.ops next

-- the kinds of units whose swaps settle
abbrev pub is_final : UnitKind → Bool
is_final (OfShard index number) = false
is_final OfFinalize = true
is_final OfDelete = false
is_final OfDrop = false

abbrev pub is_delete : UnitKind → Bool
is_delete (OfShard index number) = false
is_delete OfFinalize = false
is_delete OfDelete = true
is_delete OfDrop = false
