-- What shows why a shard wasn't restored.
use Rattle.std.specs.Prelude.{◌≡◌, ◌<◌, ℕ, true, false, List, length}
use Rattle.std.specs.List.{concat}
use Rattle.esr_model.specs.Names.{BlobName, File, ShardSnap}
use Rattle.esr_model.specs.Values.{Bytes, Has, FileEntry, ShardSnapshot}
use Rattle.esr_model.specs.Image.{Reads}
use Rattle.esr_core.specs.World.{Reader}
use Rattle.esr_core.specs.Restores.{WasRead}
use Rattle.esr_core.specs.Entry.{Why, OfDepot, OfAbsence, OfUnreadable, OfTarget, OfPrint, OfDisagreement, WasAbsent, Moment}
use Rattle.esr_source.specs.declared.address.Address.{Address}
use Rattle.esr_desk.specs.declared.hand.Hand.TheVariants as hands
use Rattle.esr_desk.specs.declared.fault.FailedObject.TheVariants as objects
use Rattle.esr_desk.specs.declared.fault.By.{By}
use Rattle.esr_desk.specs.declared.fault.By.TheVariants as by
use Rattle.esr_desk.specs.Start.{Start, formats_of}
use Rattle.esr_desk.specs.Own.{reader_of}
use Rattle.esr_desk.specs.Evidence.{Evidence, HadFetch, HadFetchFault, WasUnreadable, FetchShown, ReadShown}
use Rattle.esr_desk.specs.Restore.Parts.{AreFronts, AreExact}
use Rattle.esr_desk.specs.Restore.First.{HasFirst}

-- the address is that of the ticket's shard
pub record IsFor (q : Reader) (address : Address) : Type 0 where
  pub place : address.place ≡ q.place
  pub index : address.index ≡ q.name
  pub number : address.number ≡ q.number

-- the target of the unit has failed, which it can't where targets are sure; it has the files that were ended before
pub record IsFaultyTarget {S F H T : Type 0} (e : Evidence S F H T) (s : Start) (q : Reader) (target : T) : Type 0 where
  pub failed : 0 < e.target_faults target
  pub unsure : s.sure_targets ≡ false
  pub for_it : IsFor q (e.target target).made_for
  pub first : HasFirst s q (e.target target).files

abbrev pub TargetShown : {S F H T : Type 0} → Evidence S F H T → Start → Reader → By S F H T → Type 0
TargetShown e s q (by.Object (objects.Target target)) = IsFaultyTarget e s q target
TargetShown e s q b = ⊥

-- The snapshot of the shard lists the file, whose blob without a part number has this name, and this was read of its parts.
pub record HasReadFile (s : Start) (q : Reader) (name : BlobName) (fronts : List Bytes) : Type 0 where
  pub snap : ShardSnapshot
  pub snap_read : s.tells ≡ true → Reads (WasRead q.read) (ShardSnap q.index q.number q.uuid) (formats_of s).shard_snap snap
  pub e : FileEntry
  pub listed : Has snap.files e
  pub name_is : name ≡ File q.index q.number e.name
  pub read : s.tells ≡ true → AreFronts (WasRead q.read) q.index q.number e fronts

-- the print of what was read of a file isn't the stated one
pub record IsMisprinted (s : Start) (q : Reader) (name : BlobName) (stated_len : ℕ) (stated_digest : Bytes) (found_len : ℕ) (found_digest : Bytes) : Type 0 where
  pub fronts : List Bytes
  pub file : HasReadFile s q name fronts
  pub stated_len_is : stated_len ≡ file.e.len
  pub stated_digest_is : stated_digest ≡ file.e.digest
  pub found_len_is : found_len ≡ length (concat fronts)
  pub found_digest_is : found_digest ≡ (formats_of s).digest (concat fronts)
  pub differ : stated_len ≡ found_len → stated_digest ≡ found_digest → ⊥

-- the print of what was read of a file is the stated one, but its parts aren't cut as the snapshot of the shard says
pub record IsMiscut (s : Start) (q : Reader) (name other : BlobName) : Type 0 where
  pub fronts : List Bytes
  pub file : HasReadFile s q name fronts
  pub other_is : other ≡ ShardSnap q.index q.number q.uuid
  pub len_is : length (concat fronts) ≡ file.e.len
  pub digest_is : (formats_of s).digest (concat fronts) ≡ file.e.digest
  pub cut : AreExact q.index q.number file.e fronts → ⊥

-- the name is that of the snapshot of the ticket's shard
abbrev pub IsSnap : Reader → BlobName → Type 0
IsSnap q name = name ≡ ShardSnap q.index q.number q.uuid

-- By its cause: an object that failed, or a fetch; or a blob was absent; or the snapshot of the shard doesn't read, for this reason; or
-- what was read isn't what that states.
abbrev pub IsRestoreShown : {S F H T : Type 0} → Evidence S F H T → Start → List Moment → ℕ → Why → By S F H T → Type 0
IsRestoreShown e s log who OfDepot b = FetchShown e s (HadFetchFault hands.Restore log who) b
IsRestoreShown e s log who OfTarget b = TargetShown e s (reader_of s log who) b
IsRestoreShown e s log who (OfAbsence name) b = ReadShown b (HadFetch hands.Restore log who name WasAbsent)
IsRestoreShown e s log who (OfUnreadable name reason) b = ReadShown b (IsSnap (reader_of s log who) name × WasUnreadable hands.Restore s log who name reason)
IsRestoreShown e s log who (OfPrint name stated_len stated_digest found_len found_digest) b =
    ReadShown b (IsMisprinted s (reader_of s log who) name stated_len stated_digest found_len found_digest)
IsRestoreShown e s log who (OfDisagreement name other) b = ReadShown b (IsMiscut s (reader_of s log who) name other)
-- the others are of snapshots and deletes
IsRestoreShown e s log who why b = ⊥
