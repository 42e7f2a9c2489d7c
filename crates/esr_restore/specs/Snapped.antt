-- What the ticket of a restore knows of its shard's snapshot.
use Rattle.std.specs.Prelude.{◌≡◌, ℕ, true}
use Rattle.esr_model.specs.Names.{ShardSnap}
use Rattle.esr_model.specs.Values.{Has, ShardSnapshot}
use Rattle.esr_model.specs.Image.{Reads}
use Rattle.esr_core.specs.World.{Reader}
use Rattle.esr_core.specs.Restores.{WasRead}
use Rattle.esr_shardidx.specs.declared.entry.FileEntry.{FileEntry as CodeEntry}
use Rattle.esr_shardidx.specs.Snapshots.{SnapValue}
use Rattle.esr_formats.specs.Shards.{entry_of, shard_snap_of}
use Rattle.esr_desk.specs.Start.{Start, formats_of}

-- the ticket is out for this shard of the snapshot
pub record IsAt (q : Reader) (index number uuid : ℕ) : Type 0 where
  pub out : q.out ≡ true
  pub index_is : q.index ≡ index
  pub number_is : q.number ≡ number
  pub uuid_is : q.uuid ≡ uuid

-- this is what the ticket read as the snapshot of its shard
abbrev pub ReadAs : Start → Reader → ShardSnapshot → Type 0
ReadAs s q snap = s.tells ≡ true → Reads (WasRead q.read) (ShardSnap q.index q.number q.uuid) (formats_of s).shard_snap snap

abbrev pub HasSnap : Start → Reader → SnapValue → Type 0
HasSnap s q snap = ReadAs s q (shard_snap_of snap)

-- the snapshot of the shard lists the file
pub record IsListed (s : Start) (q : Reader) (e : CodeEntry) : Type 0 where
  pub snap : ShardSnapshot
  pub snap_read : ReadAs s q snap
  pub listed : Has snap.files (entry_of e)
