-- The files that a target has whose restore wasn't ended well.
use Rattle.std.specs.Prelude.{◌≡◌, ◌⊎◌, true, List, [], ◌++◌, Option, option_map}
use Rattle.esr_model.specs.Names.{ShardSnap}
use Rattle.esr_model.specs.Values.{Bytes, FileEntry, ShardSnapshot}
use Rattle.esr_model.specs.Image.{AllPairs, Reads, FileStands}
use Rattle.esr_core.specs.World.{Reader}
use Rattle.esr_core.specs.Restores.{WasRead}
use Rattle.esr_desk.specs.Start.{Start, formats_of}

-- the file has the name of the entry; where the container tells, its parts stand as they were read
abbrev pub IsRestoredAs : Start → Reader → FileEntry → Bytes × Bytes → Type 0
IsRestoredAs s q e file = (e.physical ≡ file.0) × (s.tells ≡ true → FileStands (formats_of s) (WasRead q.read) q.index q.number e file.1)

-- these are the first files that the snapshot has of the shard, as the ticket read it
pub record AreFirst (s : Start) (q : Reader) (entries : List FileEntry) : Type 0 where
  pub snap : ShardSnapshot
  pub snap_read : s.tells ≡ true → Reads (WasRead q.read) (ShardSnap q.index q.number q.uuid) (formats_of s).shard_snap snap
  pub rest : List FileEntry
  pub is : snap.files ≡ entries ++ rest

-- The target has the files that were ended before, if it tells them: the first ones that the snapshot has of the shard, in order, or none.
pub record HasFirst (s : Start) (q : Reader) (files : Option (List (Bytes × Bytes))) : Type 0 where
  pub entries : List FileEntry
  pub first : (entries ≡ []) ⊎ AreFirst s q entries
  pub held : List (Bytes × Bytes)
  pub each : AllPairs (IsRestoredAs s q) entries held
  pub are : files ≡ option_map (λ _. held) files
