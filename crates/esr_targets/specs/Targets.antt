-- What the targets of a run are: of each shard that a line restored exactly one, with the files that the snapshot had on the
-- shelf when the line was asked.
use Rattle.std.specs.Prelude.{◌≡◌, ℕ, ◌-◌, ◌^◌, true, List, [], ◌∷◌, ◌++◌, length, min, sum_by, Some, None, IsSome}
use Rattle.esr_model.specs.Values.{Bytes, Has, IndexRef}
use Rattle.esr_model.specs.Shelf.{Shelved, ShelfShard, shelf_after}
use Rattle.esr_model.specs.Places.{places, sorted_by}
use Rattle.esr_model.specs.Image.{Image}
use Rattle.esr_model.specs.Kept.{Kept}
use Rattle.esr_core.specs.World.{Reader, Opened}
use Rattle.esr_core.specs.Entry.{Moment}
use Rattle.esr_core.specs.History.{AreTold, committed}
use Rattle.esr_core.specs.Restored.{IsShelvedAs}
use Rattle.esr_core.specs.Restores.{IsReading}
use Rattle.esr_readers.specs.Readers.{RestoresIn}
use Rattle.esr_source.specs.declared.address.Address.{Address}
use Rattle.esr_script.specs.declared.item.ScriptLine.{ScriptLine}
use Rattle.esr_desk.specs.Start.{Start, formats_of, world_of}
use Rattle.esr_desk.specs.Evidence.{Evidence}
use Rattle.esr_report.specs.Replies.{ShardRestored, read_shard, shard_end}
use Rattle.esr_complete.specs.Lines.{entries_of}
use Rattle.esr_targets.specs.declared.target.Restored.{Restored}
use Rattle.esr_targets.specs.Lines.{AcceptedLine}
use Rattle.esr_targets.specs.Listed.{target_first}

-- the container told its image, which was kept for this shelf, at the start and at each moment
pub record HasShelf (s : Start) (log : List Moment) (shelf : List Shelved) : Type 0 where
  pub tells : s.tells ≡ true
  pub image : Image
  pub kept : Kept (formats_of s) image shelf
  pub opened : Opened (formats_of s) image s.world
  pub told : AreTold log

-- the shelf when the line was asked: the one at the start with the commands that counted by then
abbrev pub shelf_at : Start → List Shelved → List Moment → List Shelved
shelf_at s shelf before = shelf_after shelf (committed (formats_of s) (world_of s before).safe s.world before)

-- the files are those of this shard, as the snapshot of that name and uuid had it on the shelf
pub record IsOnShelfAs (shelf : List Shelved) (name : Bytes) (uuid : ℕ) (index : Bytes) (number : ℕ) (files : List (Bytes × Bytes)) : Type 0 where
  pub shelved : Shelved
  pub there : Has shelf shelved
  pub name_is : shelved.name ≡ name
  pub uuid_is : shelved.uuid ≡ uuid
  pub shard : ShelfShard
  pub shard_there : Has shelved.shards shard
  pub index_is : shard.index ≡ index
  pub number_is : shard.number ≡ number
  pub files_are : files ≡ shard.files

-- the target was made for the shard, below the place of its line
pub record IsMadeFor (address : Address) (place index : Bytes) (number : ℕ) : Type 0 where
  pub place_is : address.place ≡ place
  pub index_is : address.index ≡ index
  pub number_is : address.number ≡ number

-- the counts of files and of bytes are theirs
pub record AreCounts (held : List (Bytes × Bytes)) (files bytes : ℕ) : Type 0 where
  pub files_is : files ≡ length held
  pub bytes_is : bytes ≡ min (sum_by (λ (file : Bytes × Bytes). length file.1) held) (2 ^ 64 - 1)

-- The target is that of this shard of the line, which was restored with so many files of so many bytes. Where it tells its
-- files, and the container tells too, the counts are theirs, and they are the shard's on the shelf when the line was asked. No file
-- is begun in it, and no call of it has failed.
pub record IsTargetOfShard {S F H T : Type 0} (e : Evidence S F H T) (s : Start) (moment : ℕ) (lines : List ScriptLine) (log : List Moment)
    (a : AcceptedLine moment lines log) (p : IndexRef × ℕ) (files bytes : ℕ) (t : Restored T) : Type 0 where
  pub line_is : t.line ≡ a.line.number
  pub index_is : t.index ≡ p.0.name
  pub shard_is : t.shard ≡ p.1
  pub address : IsMadeFor (e.target t.target).made_for a.place p.0.name p.1
  pub told : s.targets_tell ≡ true → IsSome (e.target t.target).files
  pub none_begun : (e.target t.target).begun ≡ None
  pub none_failed : e.target_faults t.target ≡ 0
  pub counts : (held : List (Bytes × Bytes)) → (e.target t.target).files ≡ Some held → s.tells ≡ true → AreCounts held files bytes
  pub shelf : (held : List (Bytes × Bytes)) (shelf : List Shelved) → (e.target t.target).files ≡ Some held → HasShelf s log shelf → IsOnShelfAs (shelf_at s shelf a.at.before) a.name a.uuid p.0.name p.1 held

-- In some step of the history a ticket that was out for this shard, of this op, restored it with so many files of so many bytes.
pub record WasRestored (s : Start) (log : List Moment) (op uuid index number files bytes : ℕ) : Type 0 where
  pub before : List Moment
  pub end : Moment
  pub after : List Moment
  pub log_is : log ≡ before ++ end ∷ after
  pub ticket : ℕ
  pub ends : RestoresIn end ticket files bytes
  pub q : Reader
  pub reading : IsReading (world_of s before) ticket q
  pub op_is : q.op ≡ op
  pub uuid_is : q.uuid ≡ uuid
  pub index_is : q.index ≡ index
  pub number_is : q.number ≡ number

-- a shard that some line restored: the history tells that it was
pub record IsTargetOfLine {S F H T : Type 0} (e : Evidence S F H T) (s : Start) (moment : ℕ) (lines : List ScriptLine) (log : List Moment) (t : Restored T) : Type 0 where
  pub a : AcceptedLine moment lines log
  pub p : IndexRef × ℕ
  pub there : Has (places a.indices) p
  pub files : ℕ
  pub bytes : ℕ
  pub restored : WasRestored s log a.op a.uuid p.0.id p.1 files bytes
  pub target : IsTargetOfShard e s moment lines log a p files bytes t

-- one target for each line, index and shard
abbrev pub AreSingle : {T : Type 0} → List (Restored T) → Type 0
AreSingle [] = Unit {0}
AreSingle {T} (t ∷ ts) = ((u : Restored T) → Has ts u → u.line ≡ t.line → u.index ≡ t.index → u.shard ≡ t.shard → ⊥) × AreSingle ts

-- these are the targets of the lines that restored shards
pub record AreTargetsOfLines {S F H T : Type 0} (e : Evidence S F H T) (s : Start) (moment : ℕ) (lines : List ScriptLine) (log : List Moment) (targets : List (Restored T)) : Type 0 where
  -- each is that of a shard of a line's restore, which was restored
  pub of : (t : Restored T) → Has targets t → IsTargetOfLine e s moment lines log t
  -- each shard of a line's restore that ended well has one, with the counts that the history tells of it; so each shard of a restore that was answered ok
  pub all : (a : AcceptedLine moment lines log) (p : IndexRef × ℕ) (files bytes : ℕ) → Has (places a.indices) p → shard_end (entries_of log) (read_shard a.op a.uuid p) ≡ Some (ShardRestored files bytes)
      → (t : Restored T) × Has targets t × IsTargetOfShard e s moment lines log a p files bytes t
  pub single : AreSingle targets
  -- the shards of a line's restore are those of the snapshot on the shelf
  pub shelved : (a : AcceptedLine moment lines log) (shelf : List Shelved) → HasShelf s log shelf → IsShelvedAs (shelf_at s shelf a.at.before) a.name a.uuid a.indices
  -- they are in order
  pub ordered : (found : List (Restored T)) × (targets ≡ sorted_by target_first found)
