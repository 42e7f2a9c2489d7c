-- The infos that are kept, after a step that swaps the record.
use Rattle.std.specs.Prelude.{◌≡◌, ℕ, List, filter, Some, None}
use Rattle.esr_model.specs.Values.{RootData, SnapInfo, ShardResult}
use Rattle.esr_model.specs.Shelf.{Command}
use Rattle.esr_core.specs.World.{Finalize}
use Rattle.esr_core.specs.Entry.{Step, SettleStep, PruneStep, SettlePruned, Reply, HasEnded, Refused, DepotFault, Moment}
use Rattle.esr_root.specs.Root.{Root}
use Rattle.esr_root.specs.Snaps.{lists}
use Rattle.esr_meta.specs.Info.{Info}
use Rattle.esr_formats.specs.Roots.{root_of}
use Rattle.esr_desk.specs.Conditions.{IsUnpruned, CanSettle}
use Rattle.esr_desk.specs.Delete.Conditions.{CanSettleDelete}
use Rattle.esr_desk.specs.Start.{Start, world_of, ticket_of}
use Rattle.esr_repo.specs.Repo.{HasInfos}
use Rattle.esr_repo.specs.May.{IsMadeInfo, InfosServe}

-- the step settles nothing
abbrev pub LeavesInfos : Step → Reply → Type 0
LeavesInfos SettleStep (Refused DepotFault) = ⊥
LeavesInfos SettleStep (Refused refusal) = Unit {0}
LeavesInfos SettleStep reply = ⊥
LeavesInfos (PruneStep SettlePruned) (Refused DepotFault) = ⊥
LeavesInfos (PruneStep SettlePruned) (Refused refusal) = Unit {0}
LeavesInfos (PruneStep SettlePruned) reply = ⊥
LeavesInfos step reply = Unit {0}

-- how those that are kept go on over it
pub record InfosAfter (s : Start) (log : List Moment) : Type 0 where
  -- over a step that settles nothing they stay
  pub stay : (who : ℕ) (step : Step) → LeavesInfos step HasEnded → InfosServe s log who step None None
  -- over the settle of a finalization there is one more
  pub more : (k : ℕ) (root : RootData) (info : Info) (final : SnapInfo) (results : List ShardResult) (made : Command) → IsMadeInfo s log k info
      → CanSettle s (ticket_of s log k) root → (ticket_of s log k).term ≡ (world_of s log).term → IsUnpruned (ticket_of s log k)
      → (ticket_of s log k).work ≡ Finalize final results made → InfosServe s log k SettleStep None (Some info)
  -- over that of a delete or cleanup those are left whose snapshots the new root lists
  pub left : (k : ℕ) (root : Root) (infos kept : List Info) → CanSettleDelete s (ticket_of s log k) (root_of root) → (ticket_of s log k).term ≡ (world_of s log).term
      → HasInfos s (world_of s log) infos → kept ≡ filter (λ (i : Info). lists root.snapshots i.uuid) infos → InfosServe s log k (PruneStep SettlePruned) (Some kept) None
