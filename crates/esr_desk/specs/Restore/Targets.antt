-- The targets that hold the files of the shards that were restored.
use Rattle.std.specs.Prelude.{◌≡◌, ℕ, ◌-◌, ◌^◌, true, List, [], ◌∷◌, ◌++◌, length, min, sum_by, Some, None, IsSome, Result, Ok, Err}
use Rattle.esr_model.specs.Names.{ShardSnap}
use Rattle.esr_model.specs.Values.{Bytes, ShardSnapshot, Formats}
use Rattle.esr_model.specs.Image.{AllPairs, Reads, FileStands}
use Rattle.esr_core.specs.World.{Reader}
use Rattle.esr_core.specs.Restores.{WasRead}
use Rattle.esr_core.specs.Entry.{RestoredShard, Step, ReadStep, Reply, HasEnded, Moment}
use Rattle.esr_desk.specs.declared.target.RestoredTarget.{RestoredTarget}
use Rattle.esr_desk.specs.declared.target.Unended.{Unended}
use Rattle.esr_desk.specs.declared.refusal.StepRefusal.{StepRefusal}
use Rattle.esr_desk.specs.Start.{Start, formats_of}
use Rattle.esr_desk.specs.Own.{reader_of}
use Rattle.esr_desk.specs.Evidence.{Evidence}
use Rattle.esr_desk.specs.Restore.Shown.{IsFor}

-- The files, names with bytes, are those that the snapshot of the shard lists, as the ticket read it: each has the stated length
-- and digest, cut at the stated part size.
pub record AreRestored (f : Formats) (q : Reader) (files : List (Bytes × Bytes)) (count bytes : ℕ) : Type 0 where
  pub snap : ShardSnapshot
  pub snap_read : Reads (WasRead q.read) (ShardSnap q.index q.number q.uuid) f.shard_snap snap
  pub stand : AllPairs (λ e (file : Bytes × Bytes). (e.physical ≡ file.0) × FileStands f (WasRead q.read) q.index q.number e file.1) snap.files files
  pub count_is : count ≡ length files
  pub bytes_is : bytes ≡ min (sum_by (λ (file : Bytes × Bytes). length file.1) files) (2 ^ 64 - 1)

-- The target is that of the ticket's shard, listed under its op, the name of its index and its number. Where it tells its files, and the
-- container tells too, these are exactly those that the ticket read. No file is begun in it, and no call of it has failed.
pub record IsFilled {S F H T : Type 0} (e : Evidence S F H T) (s : Start) (q : Reader) (files bytes : ℕ) (r : RestoredTarget T) : Type 0 where
  pub op_is : r.op ≡ q.op
  pub index_is : r.index ≡ q.name
  pub shard_is : r.shard ≡ q.number
  pub for_it : IsFor q (e.target r.target).made_for
  pub restored : (held : List (Bytes × Bytes)) → (e.target r.target).files ≡ Some held → s.tells ≡ true → AreRestored (formats_of s) q held files bytes
  pub told : s.targets_tell ≡ true → IsSome (e.target r.target).files
  pub sure : s.sure_targets ≡ true → (e.target r.target).is_sure ≡ true
  pub none_begun : (e.target r.target).begun ≡ None
  pub none_failed : e.target_faults r.target ≡ 0

-- the answer to the end of a ticket, but for the target that is given back
abbrev pub refused_of : {T : Type 0} → Result Unit (Unended T) → Result Unit StepRefusal
refused_of (Ok x) = Ok x
refused_of (Err u) = Err u.refusal

-- after this history a ticket restored its shard: so many files, of so many bytes
pub record Restoration : Type 0 where
  pub before : List Moment
  pub ticket : ℕ
  pub files : ℕ
  pub bytes : ℕ

-- the restoration that a step is, if it is one
abbrev pub restorations_by : List Moment → ℕ → Reply → Step → List Restoration
restorations_by before who HasEnded (ReadStep (RestoredShard files bytes)) = record { before = before; ticket = who; files = files; bytes = bytes } ∷ []
restorations_by before who reply step = []

-- the restorations among the moments that came after a history, in their order
abbrev pub restorations_in : List Moment → List Moment → List Restoration
restorations_in before [] = []
restorations_in before (m ∷ more) = restorations_by before m.entry.who m.entry.reply m.entry.step ++ restorations_in (before ++ m ∷ []) more

abbrev pub IsTargetOf : {S F H T : Type 0} → Evidence S F H T → Start → Restoration → RestoredTarget T → Type 0
IsTargetOf e s r target = IsFilled e s (reader_of s r.before r.ticket) r.files r.bytes target

-- these are the targets of the restorations of a history, one each, in their order
abbrev pub AreTargetsOf : {S F H T : Type 0} → Evidence S F H T → Start → List Moment → List (RestoredTarget T) → Type 0
AreTargetsOf e s log targets = AllPairs (IsTargetOf e s) (restorations_in [] log) targets
