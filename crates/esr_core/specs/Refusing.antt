-- How steps may be refused while no record swap has failed.
use Rattle.std.specs.Prelude.{◌≡◌, ◌⊎◌, ℕ, true, List, Option, Bool, false, T, ◌==◌}
use Rattle.esr_model.specs.Names.{BlobName}
use Rattle.esr_model.specs.Values.{Bytes, Has}
use Rattle.esr_model.specs.Delete.{PrunedShard}
use Rattle.esr_core.specs.World.{World}
use Rattle.esr_core.specs.Entry.{AskedIndex, CloneOf, Asked, Snapshot, Clone, DeleteSnapshots, Restore, Cleanup, is_recorded, ReadBlob, DrawTest, BeginTest, CommitTest, RemoveTests, FetchShard, PlanShards, SettlePruned, RemoveDoomed, Step, AskStep, DrawStep, BeginStep, CommitStep, LatestStep, FetchStep, ListStep, RaiseStep, SettleStep, DroppedStep, ElectStep, ReadStep, PruneStep, Refusal, CleanupRunning, NameInUse, TooMany, StaleTerm, GenerationsSpent, TermsSpent, IdsSpent, NameTaken, DepotFault, NoSnapshot, NoIndex, BeingDeleted, CloneRunning, RestoreRunning, BusyOp, BusyTicket, Refused, Moment}
use Rattle.esr_core.specs.After.{swaps_record}
use Rattle.esr_core.specs.Allowed.{Blocks}

-- ---- a command, by a rule

-- a rule of accepting refuses a snapshot
abbrev pub RefusesSnapshot : Refusal → Type 0
RefusesSnapshot (CleanupRunning op) = Unit {0}
RefusesSnapshot (NameInUse uuid) = Unit {0}
RefusesSnapshot (TooMany limit) = T (limit == 1000)
RefusesSnapshot refusal = ⊥

-- or a restore
abbrev pub RefusesRestore : Refusal → Type 0
RefusesRestore (NoSnapshot place) = T (place == 0)
RefusesRestore (BeingDeleted op) = Unit {0}
RefusesRestore (TooMany limit) = T (limit == 1000)
RefusesRestore refusal = ⊥

-- or a clone
abbrev pub RefusesClone : Refusal → Type 0
RefusesClone (CleanupRunning op) = Unit {0}
RefusesClone (NameInUse uuid) = Unit {0}
RefusesClone (NoSnapshot place) = T (place == 0)
RefusesClone (BeingDeleted op) = Unit {0}
RefusesClone (NoIndex place) = Unit {0}
RefusesClone (TooMany limit) = T (limit == 1000)
RefusesClone refusal = ⊥

-- or a delete
abbrev pub RefusesDelete : Refusal → Type 0
RefusesDelete (CleanupRunning op) = Unit {0}
RefusesDelete (NoSnapshot place) = Unit {0}
RefusesDelete (CloneRunning op) = Unit {0}
RefusesDelete (RestoreRunning op) = Unit {0}
RefusesDelete (TooMany limit) = T (limit == 1000)
RefusesDelete refusal = ⊥

-- or a cleanup
abbrev pub RefusesCleanup : Refusal → Type 0
RefusesCleanup (CleanupRunning op) = Unit {0}
RefusesCleanup (BusyOp op) = Unit {0}
RefusesCleanup refusal = ⊥

-- or any command
abbrev pub IsByRule : Asked → Refusal → Type 0
IsByRule (Snapshot name indices moment) refusal = RefusesSnapshot refusal
IsByRule (Restore name place) refusal = RefusesRestore refusal
IsByRule (Clone source name names moment taken) refusal = RefusesClone refusal
IsByRule (DeleteSnapshots names) refusal = RefusesDelete refusal
IsByRule Cleanup refusal = RefusesCleanup refusal

-- the rules of some command give the refusal
abbrev pub is_rule : Refusal → Bool
is_rule (CleanupRunning op) = true
is_rule (NameInUse uuid) = true
is_rule (TooMany limit) = true
is_rule (NoSnapshot place) = true
is_rule (NoIndex place) = true
is_rule (BeingDeleted op) = true
is_rule (CloneRunning op) = true
is_rule (RestoreRunning op) = true
is_rule (BusyOp op) = true
is_rule refusal = false

-- ---- each step

-- A step may be refused so: a command by a rule of its kind, or since its ids are spent, and a cleanup also since a ticket is out; a
-- step that draws ids or begins a generation or a term, since these are spent; a record swap of a ticket, as its term is over; a
-- commit, as its name is taken; and a call of the container, as it failed. A step that is none of these isn't refused.
pub data MayRefuse : Step → Refusal → Type 0 where
  ByRule : (command : Asked) (refusal : Refusal) → IsByRule command refusal → MayRefuse (AskStep command) refusal
  TicketStands : (ticket : ℕ) → MayRefuse (AskStep Cleanup) (BusyTicket ticket)
  NoIdForAsk : (name : Bytes) (indices : List AskedIndex) (moment next : ℕ) → MayRefuse (AskStep (Snapshot name indices moment)) (IdsSpent next)
  NoIdForClone : (source name : Bytes) (names : List Bytes) (moment next : ℕ) (taken : Option CloneOf) → MayRefuse (AskStep (Clone source name names moment taken)) (IdsSpent next)
  AskFault : (command : Asked) → is_recorded command ≡ true → MayRefuse (AskStep command) DepotFault
  NoIds : (count next : ℕ) → MayRefuse (DrawStep count) (IdsSpent next)
  BeginFault : (name : BlobName) → MayRefuse (BeginStep name) DepotFault
  CommitFault : (name : BlobName) → MayRefuse (CommitStep name) DepotFault
  CommitTaken : (name : BlobName) → MayRefuse (CommitStep name) (NameTaken name)
  LatestFault : MayRefuse LatestStep DepotFault
  FetchFault : (name : BlobName) → MayRefuse (FetchStep name) DepotFault
  ListFault : (from : Option Bytes) → MayRefuse (ListStep from) DepotFault
  RaiseFault : MayRefuse RaiseStep DepotFault
  RaiseStale : (own now : ℕ) → MayRefuse RaiseStep (StaleTerm own now)
  RaiseSpent : (pending : ℕ) → MayRefuse RaiseStep (GenerationsSpent pending)
  SettleFault : MayRefuse SettleStep DepotFault
  SettleStale : (own now : ℕ) → MayRefuse SettleStep (StaleTerm own now)
  DropFault : MayRefuse DroppedStep DepotFault
  DropStale : (own now : ℕ) → MayRefuse DroppedStep (StaleTerm own now)
  ElectFault : MayRefuse ElectStep DepotFault
  NoTerms : (term : ℕ) → MayRefuse ElectStep (TermsSpent term)
  ReadFault : (name : BlobName) → MayRefuse (ReadStep (ReadBlob name)) DepotFault
  NoTestId : (next : ℕ) → MayRefuse (ReadStep DrawTest) (IdsSpent next)
  BeginTestFault : (name : BlobName) → MayRefuse (ReadStep (BeginTest name)) DepotFault
  CommitTestFault : (name : BlobName) → MayRefuse (ReadStep (CommitTest name)) DepotFault
  TestTaken : (name : BlobName) → MayRefuse (ReadStep (CommitTest name)) (NameTaken name)
  RemoveFault : (names : List BlobName) → MayRefuse (ReadStep (RemoveTests names)) DepotFault
  FetchShardFault : (name : BlobName) → MayRefuse (PruneStep (FetchShard name)) DepotFault
  NoPlanIds : (shards : List PrunedShard) (next : ℕ) → MayRefuse (PruneStep (PlanShards shards)) (IdsSpent next)
  SettleDeleteFault : MayRefuse (PruneStep SettlePruned) DepotFault
  SettleDeleteStale : (own now : ℕ) → MayRefuse (PruneStep SettlePruned) (StaleTerm own now)
  RemoveDoomedFault : (names : List BlobName) → MayRefuse (PruneStep (RemoveDoomed names)) DepotFault

-- the step was refused as it may be, or before it was looked at
abbrev pub RefusedSo : World → ℕ → Step → Refusal → Type 0
RefusedSo w who step refusal = Blocks w who step refusal ⊎ MayRefuse step refusal

-- a record swap of the history failed
pub record SwapFailed (log : List Moment) : Type 0 where
  pub moment : Moment
  pub there : Has log moment
  pub swap : swaps_record moment.entry.step ≡ true
  pub failed : moment.entry.reply ≡ Refused DepotFault
