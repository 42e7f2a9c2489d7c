-- Histories whose snapshots have the files that the sources tell, and what that asks of digests.
use Rattle.std.specs.Prelude.{◌≡◌, ℕ, true, List, [], ◌∷◌, ◌++◌, Option, Some, None, map}
use Rattle.std.specs.FinMap as fin
use Rattle.esr_model.specs.Values.{Has, SnapInfo, ShardResult, Formats, files_told}
use Rattle.esr_model.specs.Shelf.{ShelfShard, Shelved, Command, Create, Clone}
use Rattle.esr_model.specs.Places.{sorted_by}
use Rattle.esr_core.specs.World.{World, Op, ShardWork, Ticket, Shard, comes_first_of, index_names, made_of}
use Rattle.esr_core.specs.Entry.{GivenFinalize, Gave, Moment}
use Rattle.esr_core.specs.After.{after}
use Rattle.esr_core.specs.History.{world_from, committed, IsHonest}

-- ---- the files that the sources tell

abbrev pub told_shard : Formats → ShardWork → ShelfShard
told_shard f s = record { index = s.ref.name; number = s.number; files = files_told f s.place s.ref.name s.number }

-- the snapshot of an op, with these files
abbrev pub told_snap : Formats → Op → Shelved
told_snap f op = record { name = op.name; uuid = op.uuid; shards = map (told_shard f) (sorted_by comes_first_of op.shards) }

-- the command of an op: a snapshot of these files, or of what another one has of its indices
abbrev pub told_from : Formats → Op → Option ℕ → Command
told_from f op None = Create (told_snap f op)
told_from f op (Some source) = Clone source op.name op.uuid (index_names op.indices)

abbrev pub told_command : Formats → Op → Command
told_command f op = told_from f op op.source

-- a finalization that the step gives has the command of its sources
abbrev pub IsOfSources : Formats → World → Moment → Type 0
IsOfSources f w m = (k o : ℕ) (info : SnapInfo) (results : List ShardResult) (op : Op) → m.entry.reply ≡ Gave k o (GivenFinalize info results) → fin.get w.ops o ≡ Some op → made_of f w.blobs op ≡ told_command f op

-- each finalization that the history gives has the command of its sources
abbrev pub AreOfSources : Formats → World → List Moment → Type 0
AreOfSources f w [] = Unit {0}
AreOfSources f w (m ∷ log) = IsOfSources f w m × AreOfSources f (after f w m) log

-- ---- the snapshots among the commands that count

-- an op of a world that the history passes
pub record IsOpOf (f : Formats) (w : World) (log : List Moment) (op : Op) : Type 0 where
  pub front : List Moment
  pub back : List Moment
  pub log_is : log ≡ front ++ back
  pub number : ℕ
  pub there : fin.get (world_from f w front).ops number ≡ Some op

-- the snapshot of such an op, with exactly the files that the sources tell
pub record IsOfOp (f : Formats) (w : World) (log : List Moment) (snap : Shelved) : Type 0 where
  pub op : Op
  pub passed : IsOpOf f w log op
  pub snap_is : snap ≡ told_snap f op

-- each snapshot among the commands that count, in whatever image, is one
abbrev pub AreOfOps : Formats → World → List Moment → Type 0
AreOfOps f w log = (safe : ℕ) (snap : Shelved) → Has (committed f safe w log) (Create snap) → IsOfOp f w log snap

-- ---- digests that are honest while files come from a source

-- a ticket is out for a shard whose files come from a source
pub record HasUpload (w : World) : Type 0 where
  pub number : ℕ
  pub ticket : Ticket
  pub index : ℕ
  pub shard : ℕ
  pub there : fin.get w.tickets number ≡ Some ticket
  pub out : ticket.out ≡ true
  pub work : ticket.work ≡ Shard index shard
  pub uploads : ticket.source ≡ None

-- digests are honest in each world from which a step is made while such a ticket is out
abbrev pub HonestUploads : Formats → World → List Moment → Type 0
HonestUploads f w [] = Unit {0}
HonestUploads f w (m ∷ log) = (HasUpload w → IsHonest f w.blobs) × HonestUploads f (after f w m) log
