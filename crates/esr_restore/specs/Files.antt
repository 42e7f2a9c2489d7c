-- The files that were restored.
use Rattle.std.specs.Prelude.{◌≡◌, ℕ, ◌-◌, ◌^◌, true, List, [], ◌∷◌, ◌++◌, length, min, sum_by, Option, option_map}
use Rattle.esr_names.specs.declared.blob.ShardId.{ShardId}
use Rattle.esr_model.specs.Values.{Bytes}
use Rattle.esr_model.specs.Image.{AllPairs, FileStands}
use Rattle.esr_core.specs.World.{Reader}
use Rattle.esr_core.specs.Restores.{WasRead}
use Rattle.esr_shardidx.specs.declared.entry.FileEntry.{FileEntry as CodeEntry}
use Rattle.esr_core.specs.Allowed.{RestoredBy}
use Rattle.esr_shardidx.specs.Snapshots.{SnapValue}
use Rattle.esr_formats.specs.Shards.{entry_of}
use Rattle.esr_desk.specs.Start.{Start, formats_of}

-- the file has the name of the entry; where the container tells, its parts stand as they were read
abbrev pub IsFile : Start → Reader → ShardId → CodeEntry → Bytes × Bytes → Type 0
IsFile s q at e file = (e.physical ≡ file.0) × (s.tells ≡ true → FileStands (formats_of s) (WasRead q.read) at.index.number at.number (entry_of e) file.1)

-- the file was added to those of the target
pub record RestoredFile (s : Start) (q : Reader) (at : ShardId) (e : CodeEntry) (files_old files_new : Option (List (Bytes × Bytes))) : Type 0 where
  pub bytes : Bytes
  pub stands : IsFile s q at e (e.physical, bytes)
  pub added : files_new ≡ option_map (λ fs. fs ++ (e.physical, bytes) ∷ []) files_old

-- the files of these entries are those of the target, which had none
pub record RestoredAll (s : Start) (q : Reader) (at : ShardId) (es : List CodeEntry) (files_old files_new : Option (List (Bytes × Bytes))) : Type 0 where
  pub held : List (Bytes × Bytes)
  pub each : AllPairs (IsFile s q at) es held
  pub are : files_new ≡ option_map (λ _. held) files_old

-- the length of the file of an entry
abbrev pub len_of : CodeEntry → ℕ
len_of e = e.print.len

-- the sum of the lengths, at most 2^64 - 1
abbrev pub sum_files : List CodeEntry → ℕ
sum_files es = min (sum_by len_of es) (2 ^ 64 - 1)

-- the files that the snapshot has of the shard were read
abbrev pub HasFiles : Start → Reader → SnapValue → Type 0
HasFiles s q snap = s.tells ≡ true → RestoredBy (formats_of s) q (length snap.files) (sum_files snap.files)
