-- Steps that repeat none that was made, and steps that go on.
use Rattle.std.proofs.Common.{◌≡◌, ℕ, List, sym, ◌∙◌, subst}
use Rattle.esr_core.specs.Entry.{Read, ReadBlob, RestoredShard, CheckedAll, DrawTest, BeginTest, CommitTest, RemoveTests, VerifiedAll, ReadFails, Prune, FetchShard, PlanShards, SettlePruned, RemoveDoomed, EndDelete, DeleteFails, Step, AskStep, TakeStep, DrawStep, BeginStep, CommitStep, LatestStep, FetchStep, ListStep, RaiseStep, SettleStep, DoneStep, FailedStep, FinishStep, DroppedStep, ElectStep, LookStep, ReadStep, PruneStep, Moment}
use Rattle.esr_core.specs.Past.{RepeatsRead, RepeatsPrune, Repeats}
use Rattle.esr_desk.specs.Start.{Start}
use Rattle.esr_desk.specs.Own.{caller_of}
use Rattle.esr_desk.specs.Once.{IsFresh}
use Rattle.esr_repo.specs.Client.{ReadsOwn}
use Rattle.esr_repo.specs.Next.{GoesOn}

-- ---- steps that may be made again

abbrev pub IsFreeRead : Read → Type 0
IsFreeRead (RestoredShard files bytes) = Unit {0}
IsFreeRead (CheckedAll snapshots blobs) = Unit {0}
IsFreeRead VerifiedAll = Unit {0}
IsFreeRead (ReadFails why) = Unit {0}
IsFreeRead read = ⊥

abbrev pub IsFreePrune : Prune → Type 0
IsFreePrune EndDelete = Unit {0}
IsFreePrune (DeleteFails why) = Unit {0}
IsFreePrune prune = ⊥

-- asks, takes, elections, looks and ends
abbrev pub IsFree : Step → Type 0
IsFree (AskStep command) = Unit {0}
IsFree TakeStep = Unit {0}
IsFree (DoneStep result) = Unit {0}
IsFree (FailedStep why) = Unit {0}
IsFree FinishStep = Unit {0}
IsFree ElectStep = Unit {0}
IsFree LookStep = Unit {0}
IsFree (ReadStep read) = IsFreeRead read
IsFree (PruneStep prune) = IsFreePrune prune
IsFree step = ⊥

reads_again : (was read : Read) → IsFreeRead read → RepeatsRead was read → ⊥
reads_again (ReadBlob a) (ReadBlob b) free same = free
reads_again DrawTest DrawTest free same = free
reads_again (BeginTest a) (BeginTest b) free same = free
reads_again (CommitTest a) (CommitTest b) free same = free
reads_again (RemoveTests a) (RemoveTests b) free same = free
reads_again was read free same = same

prunes_again : (was prune : Prune) → IsFreePrune prune → RepeatsPrune was prune → ⊥
prunes_again (FetchShard a) (FetchShard b) free same = free
prunes_again (PlanShards a) (PlanShards b) free same = free
prunes_again SettlePruned SettlePruned free same = free
prunes_again (RemoveDoomed a) (RemoveDoomed b) free same = free
prunes_again was prune free same = same

again : (was step : Step) → IsFree step → Repeats was step → ⊥
again (DrawStep a) (DrawStep b) free same = free
again (BeginStep a) (BeginStep b) free same = free
again (CommitStep a) (CommitStep b) free same = free
again LatestStep LatestStep free same = free
again (FetchStep a) (FetchStep b) free same = free
again (ListStep a) (ListStep b) free same = free
again RaiseStep RaiseStep free same = free
again SettleStep SettleStep free same = free
again DroppedStep DroppedStep free same = free
again (ReadStep a) (ReadStep b) free same = reads_again a b free same
again (PruneStep a) (PruneStep b) free same = prunes_again a b free same
again was step free same = same

pub free_fresh : (s : Start) (log : List Moment) (who : ℕ) (step : Step) → IsFree step → IsFresh s log who step
free_fresh s log who step free e has same = again e.step step free same

-- ---- steps that go on

pub own_as : (s : Start) (log : List Moment) (who : ℕ) (given step : Step) → given ≡ step → ReadsOwn (caller_of s log) who step → ReadsOwn (caller_of s log) who given
own_as s log who given step is = subst (λ (x : Step). ReadsOwn (caller_of s log) who x) (sym is)

pub fresh_as : (s : Start) (log : List Moment) (who : ℕ) (given step : Step) → given ≡ step → IsFresh s log who step → IsFresh s log who given
fresh_as s log who given step is = subst (λ (x : Step). IsFresh s log who x) (sym is)

pub goes_as : (s : Start) (log : List Moment) (who : ℕ) (a b step : Step) → a ≡ step → b ≡ step → GoesOn s log who a → GoesOn s log who b
goes_as s log who a b step first second = subst (λ (x : Step). GoesOn s log who x) (first ∙ sym second)
