-- What accepting a command answers.
use Rattle.std.specs.Prelude.{◌≡◌, ℕ, Bool, List, [], suc, ◌+◌, ◌<◌, ◌≤◌, true, Option, Some, None, Result, Ok, Err}
use Rattle.std.specs.FinMap as fin
use Rattle.esr_model.specs.Values.{Bytes}
use Rattle.esr_model.specs.Kept.{first_id}
use Rattle.esr_core.specs.World.{World, Deletion}
use Rattle.esr_core.specs.Entry.{Asked, Snapshot, Clone, DeleteSnapshots, Restore, Cleanup}
use Rattle.esr_core.specs.Ready.{IsOpen}
use Rattle.esr_core.specs.After.{asked, asked_op, new_names, cleanup_opened}
use Rattle.esr_core.specs.Generations.{OpTexts}
use Rattle.esr_formats.specs.Formats.{formats}
use Rattle.esr_core.specs.Allowed.{NoCleanup, IsNameOf, IsUnused, open_count, IsListed, IsSpared, IsBeingDeleted, IsFirstMissing, MayName, MayCopy, MayClone, AreNamed, IsFirstUnused, Copies, ReadsOne, IsLowest, MayDelete, IsNewDelete, AcceptsDelete, NoneOpen, HasTicket, AcceptsCleanup}
use Rattle.esr_core.specs.Deletes.{named_uuids, delete_number, asked_delete}
use Rattle.esr_names.specs.declared.ids.Id.{Id}
use Rattle.esr_ops.specs.declared.refusal.Refusal.{Refusal}
use Rattle.esr_ops.specs.declared.refusal.Refusal.TheVariants as refusals
use Rattle.esr_ops.specs.declared.command.Accepted.{Accepted}
use Rattle.esr_ops.specs.Plan.{Plan, IsPlanOf}

-- how many ids the command draws: its uuid, and one for each index name that neither the root nor an open op has
abbrev pub drawn_by : World → Asked → ℕ
drawn_by w (Snapshot name indices moment) = suc (new_names w indices)
drawn_by w command = 0

-- no rule of accepting refuses it
pub record MayAccept (w : World) (name : Bytes) : Type 0 where
  pub no_cleanup : NoCleanup w
  pub unused : IsUnused w name
  pub room : open_count w < 1000

-- the texts of its op can be written
abbrev pub TextsAreWritable : World → Asked → Type 0
TextsAreWritable w (Snapshot name indices moment) =
    (known : Bytes → Bytes → ℕ → Bool) (told : Bytes → Bytes → ℕ → Option (List (Bytes × Bytes))) → OpTexts (formats known told) (asked_op w name indices moment)
TextsAreWritable w command = Unit {0}

-- the op was added; its uuid is the next id
pub record IsAccepted (w : World) (command : Asked) (new : Plan) (accepted : Accepted) : Type 0 where
  pub number : accepted.op ≡ w.next_op
  pub drawn : accepted.drawn ≡ drawn_by w command
  pub fits : w.next_id + accepted.drawn < first_id (suc w.term)
  pub plan : IsPlanOf (asked w command) new
  pub texts : TextsAreWritable w command

-- the first rule that refuses it
abbrev pub IsRefused : World → Bytes → Asked → Refusal → Type 0
IsRefused w name command refusals.Memory = Unit {0}
IsRefused w name command (refusals.CleanupRunning op) = (x : Deletion) × (fin.get w.deletes op ≡ Some x) × (x.clean ≡ true)
IsRefused w name command (refusals.NameInUse uuid) = NoCleanup w × IsNameOf w name uuid.number
IsRefused w name command (refusals.TooMany limit) = (limit ≡ 1000) × NoCleanup w × IsUnused w name × (1000 ≤ open_count w)
IsRefused w name command (refusals.NoSnapshot place) = ⊥
IsRefused w name command (refusals.NoIndex place) = ⊥
IsRefused w name command (refusals.BeingDeleted op) = ⊥
IsRefused w name command (refusals.CloneRunning op) = ⊥
IsRefused w name command (refusals.RestoreRunning op) = ⊥
IsRefused w name command (refusals.BusyOp op) = ⊥
IsRefused w name command (refusals.BusyTicket ticket) = ⊥
IsRefused w name command (refusals.IdsSpent next) = (next.number ≡ w.next_id) × MayAccept w name × (first_id (suc w.term) ≤ w.next_id + drawn_by w command)

abbrev pub name_asked : Asked → Bytes
name_asked (Snapshot name indices moment) = name
name_asked (Clone source name indices moment taken) = name
name_asked (DeleteSnapshots names) = []
name_asked (Restore name place) = name
name_asked Cleanup = []

-- ---- a restore

-- the first rule that refuses a restore of this snapshot
abbrev pub IsRestoreRefused : World → Bytes → Refusal → Type 0
IsRestoreRefused w name (refusals.NoSnapshot place) = (place ≡ 0) × ((uuid : ℕ) → IsListed w name uuid → ⊥)
IsRestoreRefused w name (refusals.BeingDeleted op) = (uuid : ℕ) × IsListed w name uuid × IsBeingDeleted w uuid op
IsRestoreRefused w name (refusals.TooMany limit) = (limit ≡ 1000) × ((uuid : ℕ) × IsListed w name uuid × IsSpared w uuid × (1000 ≤ fin.len w.restores))
IsRestoreRefused w name refusals.Memory = ⊥
IsRestoreRefused w name (refusals.NoIndex place) = ⊥
IsRestoreRefused w name (refusals.CleanupRunning op) = ⊥
IsRestoreRefused w name (refusals.NameInUse uuid) = ⊥
IsRestoreRefused w name (refusals.IdsSpent next) = ⊥
IsRestoreRefused w name (refusals.CloneRunning op) = ⊥
IsRestoreRefused w name (refusals.RestoreRunning op) = ⊥
IsRestoreRefused w name (refusals.BusyOp op) = ⊥
IsRestoreRefused w name (refusals.BusyTicket ticket) = ⊥

-- a snapshot of this name is listed that no open delete names, and a restore more may be open
abbrev pub Restorable : World → Bytes → Result Id Refusal → Type 0
Restorable w name (Ok uuid) = IsListed w name uuid.number × IsSpared w uuid.number × (fin.len w.restores < 1000)
Restorable w name (Err refusal) = IsRestoreRefused w name refusal

-- ---- a clone

-- the first rule that refuses a clone of the snapshot of this name, under another name, of the indices of these names
abbrev pub IsCloneRefused : World → Bytes → Bytes → List Bytes → Refusal → Type 0
IsCloneRefused w source name names (refusals.CleanupRunning op) = (x : Deletion) × (fin.get w.deletes op ≡ Some x) × (x.clean ≡ true)
IsCloneRefused w source name names (refusals.NameInUse uuid) = NoCleanup w × IsNameOf w name uuid.number
IsCloneRefused w source name names (refusals.NoSnapshot place) = (place ≡ 0) × MayName w name × ((uuid : ℕ) → IsListed w source uuid → ⊥)
IsCloneRefused w source name names (refusals.BeingDeleted op) = MayName w name × ((uuid : ℕ) × IsListed w source uuid × IsBeingDeleted w uuid op)
IsCloneRefused w source name names (refusals.NoIndex place) = (uuid : ℕ) × MayCopy w source name uuid × IsFirstMissing w uuid names place
IsCloneRefused w source name names (refusals.TooMany limit) = (limit ≡ 1000) × ((uuid : ℕ) × MayClone w source name names uuid × (1000 ≤ open_count w))
IsCloneRefused w source name names (refusals.IdsSpent next) = (next.number ≡ w.next_id) × ((uuid : ℕ) × MayClone w source name names uuid × (open_count w < 1000) × (first_id (suc w.term) ≤ suc w.next_id))
IsCloneRefused w source name names refusals.Memory = ⊥
IsCloneRefused w source name names (refusals.CloneRunning op) = ⊥
IsCloneRefused w source name names (refusals.RestoreRunning op) = ⊥
IsCloneRefused w source name names (refusals.BusyOp op) = ⊥
IsCloneRefused w source name names (refusals.BusyTicket ticket) = ⊥

-- it may be cloned so, an op more may be open, and an id is left for it
abbrev pub Clonable : World → Bytes → Bytes → List Bytes → Result Id Refusal → Type 0
Clonable w source name names (Ok uuid) = MayClone w source name names uuid.number × (open_count w < 1000) × (suc w.next_id < first_id (suc w.term))
Clonable w source name names (Err refusal) = IsCloneRefused w source name names refusal

-- ---- a snapshot

-- by the list of ops that is answered
abbrev pub Accepting : World → Asked → Result (Plan × Accepted) Refusal → Type 0
Accepting w command (Ok (new, accepted)) = MayAccept w (name_asked command) × IsAccepted w command new accepted
Accepting w command (Err refusal) = IsRefused w (name_asked command) command refusal

-- ---- a delete

-- the first rule that refuses a delete of the snapshots of these names
abbrev pub IsDeleteRefused : World → List Bytes → Refusal → Type 0
IsDeleteRefused w names refusals.Memory = Unit {0}
IsDeleteRefused w names (refusals.CleanupRunning op) = (x : Deletion) × (fin.get w.deletes op ≡ Some x) × (x.clean ≡ true)
IsDeleteRefused w names (refusals.NoSnapshot place) = NoCleanup w × IsFirstUnused w names place
IsDeleteRefused w names (refusals.CloneRunning op) = NoCleanup w × AreNamed w names × IsLowest (Copies w (named_uuids w names)) op
IsDeleteRefused w names (refusals.RestoreRunning op) = NoCleanup w × AreNamed w names × ((o : ℕ) → Copies w (named_uuids w names) o → ⊥) × IsLowest (ReadsOne w (named_uuids w names)) op
IsDeleteRefused w names (refusals.BusyOp op) = ⊥
IsDeleteRefused w names (refusals.BusyTicket ticket) = ⊥
IsDeleteRefused w names (refusals.TooMany limit) = (limit ≡ 1000) × MayDelete w names × IsNewDelete w names × (1000 ≤ open_count w)
IsDeleteRefused w names (refusals.NameInUse uuid) = ⊥
IsDeleteRefused w names (refusals.NoIndex place) = ⊥
IsDeleteRefused w names (refusals.BeingDeleted op) = ⊥
IsDeleteRefused w names (refusals.IdsSpent next) = ⊥

-- by the first rule on what it names that refuses it
abbrev pub IsRuledOn : World → List Bytes → Option Refusal → Type 0
IsRuledOn w names None = MayDelete w names
IsRuledOn w names (Some refusal) = IsDeleteRefused w names refusal

-- by the list of ops that is answered, and the op that the delete goes into
abbrev pub AcceptingDelete : World → List Bytes → Result (Plan × ℕ) Refusal → Type 0
AcceptingDelete w names (Ok (new, op)) = AcceptsDelete w names × (op ≡ delete_number w names) × IsPlanOf (asked_delete w names) new
AcceptingDelete w names (Err refusal) = IsDeleteRefused w names refusal

-- ---- a cleanup

-- the first rule that refuses a cleanup
abbrev pub IsCleanupRefused : World → Refusal → Type 0
IsCleanupRefused w refusals.Memory = Unit {0}
IsCleanupRefused w (refusals.CleanupRunning op) = (x : Deletion) × (fin.get w.deletes op ≡ Some x) × (x.clean ≡ true)
IsCleanupRefused w (refusals.BusyOp op) = NoCleanup w × IsLowest (IsOpen w) op
IsCleanupRefused w (refusals.BusyTicket ticket) = NoneOpen w × IsLowest (HasTicket w) ticket
IsCleanupRefused w (refusals.NameInUse uuid) = ⊥
IsCleanupRefused w (refusals.TooMany limit) = ⊥
IsCleanupRefused w (refusals.IdsSpent next) = ⊥
IsCleanupRefused w (refusals.NoSnapshot place) = ⊥
IsCleanupRefused w (refusals.NoIndex place) = ⊥
IsCleanupRefused w (refusals.BeingDeleted op) = ⊥
IsCleanupRefused w (refusals.CloneRunning op) = ⊥
IsCleanupRefused w (refusals.RestoreRunning op) = ⊥

-- by the first rule that refuses it
abbrev pub IsCleanupRuledOn : World → Option Refusal → Type 0
IsCleanupRuledOn w None = AcceptsCleanup w
IsCleanupRuledOn w (Some refusal) = IsCleanupRefused w refusal

-- by the list of ops that is answered, and the op that the cleanup is
abbrev pub AcceptingCleanup : World → Result (Plan × ℕ) Refusal → Type 0
AcceptingCleanup w (Ok (new, op)) = AcceptsCleanup w × (op ≡ w.next_op) × IsPlanOf (cleanup_opened w) new
AcceptingCleanup w (Err refusal) = IsCleanupRefused w refusal
