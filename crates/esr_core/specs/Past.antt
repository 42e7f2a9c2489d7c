-- What the tickets and who 0 have done so far.
use Rattle.std.specs.Prelude.{◌≡◌, ℕ, zero, Bool, true, false, ◌==◌, if◌then◌else◌, List, [], ◌∷◌, ◌++◌}
use Rattle.esr_model.specs.Names.{BlobName}
use Rattle.esr_model.specs.Values.{Has}
use Rattle.esr_core.specs.Entry.{Read, ReadBlob, CheckedAll, DrawTest, BeginTest, CommitTest, RemoveTests, VerifiedAll, ReadFails, Prune, FetchShard, PlanShards, SettlePruned, RemoveDoomed, Step, AskStep, DrawStep, BeginStep, CommitStep, LatestStep, FetchStep, ListStep, RaiseStep, SettleStep, DroppedStep, LookStep, ReadStep, PruneStep, StaleTerm, DeposedAt, Reply, WasRemoved, Refused, Entry}
use Rattle.esr_core.specs.World.{World}

-- a step that was refused since a record swap had failed isn't counted
abbrev pub is_counted : Reply → Bool
is_counted (Refused (DeposedAt place)) = false
is_counted reply = true

abbrev pub with_entry : List Entry → Entry → List Entry
with_entry entries e = if is_counted e.reply then e ∷ entries else entries

-- who 0 begins anew where it asks or looks, and where a check or verification of it ends
abbrev pub begins_anew : ℕ → Step → Bool
begins_anew zero (AskStep command) = true
begins_anew zero LookStep = true
begins_anew zero (ReadStep (CheckedAll snapshots blobs)) = true
begins_anew zero (ReadStep VerifiedAll) = true
begins_anew zero (ReadStep (ReadFails why)) = true
begins_anew who step = false

-- the entries of a ticket; of who 0 those since it began anew
abbrev pub entries_by : List Entry → ℕ → List Entry
entries_by [] who = []
entries_by (e ∷ entries) who = if e.who == who then (if begins_anew who e.step then [] else e ∷ entries_by entries who) else entries_by entries who

-- the names that its removals have named, whatever they were answered
abbrev pub batch_of : Step → List BlobName
batch_of (PruneStep (RemoveDoomed names)) = names
batch_of step = []

abbrev pub removal_names : List Entry → List BlobName
removal_names [] = []
removal_names (e ∷ entries) = batch_of e.step ++ removal_names entries

-- those that its removals took away: these were answered Ok
abbrev pub batch_gone : Step → Reply → List BlobName
batch_gone (PruneStep (RemoveDoomed names)) WasRemoved = names
batch_gone step reply = []

abbrev pub gone_names : List Entry → List BlobName
gone_names [] = []
gone_names (e ∷ entries) = batch_gone e.step e.reply ++ gone_names entries

abbrev pub IsRemoval : Step → Type 0
IsRemoval (PruneStep (RemoveDoomed names)) = Unit {0}
IsRemoval step = ⊥

-- a step of the ticket was refused, as its term is over
pub record WasStale (w : World) (k : ℕ) : Type 0 where
  pub entry : Entry
  pub there : Has (entries_by w.entries k) entry
  pub own : ℕ
  pub now : ℕ
  pub refused : entry.reply ≡ Refused (StaleTerm own now)

-- ---- no step is made twice

-- both removals name a blob, or neither names any
abbrev pub ShareName : List BlobName → List BlobName → Type 0
ShareName [] [] = Unit {0}
ShareName was names = (name : BlobName) × Has was name × Has names name

abbrev pub RepeatsRead : Read → Read → Type 0
RepeatsRead (ReadBlob a) (ReadBlob b) = a ≡ b
RepeatsRead DrawTest DrawTest = Unit {0}
RepeatsRead (BeginTest a) (BeginTest b) = a ≡ b
RepeatsRead (CommitTest a) (CommitTest b) = a ≡ b
RepeatsRead (RemoveTests a) (RemoveTests b) = ShareName a b
RepeatsRead was read = ⊥

abbrev pub RepeatsPrune : Prune → Prune → Type 0
RepeatsPrune (FetchShard a) (FetchShard b) = a ≡ b
RepeatsPrune (PlanShards a) (PlanShards b) = Unit {0}
RepeatsPrune SettlePruned SettlePruned = Unit {0}
RepeatsPrune (RemoveDoomed a) (RemoveDoomed b) = ShareName a b
RepeatsPrune was prune = ⊥

-- Each is made once on one name, a page of a listing once after one name; a draw, a raise, a settle, a replacement of `index.latest`, a drop and a removal of nothing are made once.
abbrev pub Repeats : Step → Step → Type 0
Repeats (DrawStep a) (DrawStep b) = Unit {0}
Repeats (BeginStep a) (BeginStep b) = a ≡ b
Repeats (CommitStep a) (CommitStep b) = a ≡ b
Repeats LatestStep LatestStep = Unit {0}
Repeats (FetchStep a) (FetchStep b) = a ≡ b
Repeats (ListStep a) (ListStep b) = a ≡ b
Repeats RaiseStep RaiseStep = Unit {0}
Repeats SettleStep SettleStep = Unit {0}
Repeats DroppedStep DroppedStep = Unit {0}
Repeats (ReadStep a) (ReadStep b) = RepeatsRead a b
Repeats (PruneStep a) (PruneStep b) = RepeatsPrune a b
Repeats was step = ⊥

-- none of its entries is of this step
abbrev pub IsNewStep : World → ℕ → Step → Type 0
IsNewStep w who step = (e : Entry) → Has (entries_by w.entries who) e → Repeats e.step step → ⊥
