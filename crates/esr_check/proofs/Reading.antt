-- Bytes that were fetched, as they read, or as they don't.
use Rattle.std.proofs.Common.{◌≡◌, ℕ, ◌<◌, ◌^◌, List, Some, Result, refl, sym, subst}
use Rattle.esr_json.specs.declared.refusal.Reason.{Reason}
use Rattle.esr_json.specs.declared.refusal.ReadRefusal.{ReadRefusal}
use Rattle.esr_json.specs.declared.refusal.ReadRefusal.TheVariants as reads
use Rattle.esr_json.specs.Steps.{Fails}
use Rattle.esr_root.specs.Reading.{root_from}
use Rattle.esr_meta.specs.Info.{info_from}
use Rattle.esr_meta.specs.Global.{global_from}
use Rattle.esr_meta.specs.Index.{index_meta_from}
use Rattle.esr_shardidx.specs.Snapshots.{shard_snap_from}
use Rattle.esr_shardidx.specs.Indices.{shard_index_from}
use Rattle.esr_names.specs.declared.ids.Id.{Id}
use Rattle.esr_names.specs.declared.blob.ShardId.{ShardId}
use Rattle.esr_names.specs.declared.blob.BlobName.{BlobName as CodeName}
use Rattle.esr_names.specs.declared.blob.BlobName.TheVariants as names
use Rattle.esr_names.specs.Layout.{IsName}
use Rattle.esr_model.specs.Names.{BlobName}
use Rattle.esr_model.specs.Values.{Bytes, RootData, SnapInfo, GlobalMeta, IndexMetadata, ShardSnapshot, ShardFiles, Kind}
use Rattle.esr_core.specs.World.{Caller}
use Rattle.esr_core.specs.Entry.{Moment}
use Rattle.esr_formats.specs.Formats.{formats}
use Rattle.esr_formats.specs.Names.{name_of}
use Rattle.esr_formats.specs.Reasons.{reason_of, refused, unreadable, refused_for}
use Rattle.esr_formats.specs.Roots.{root_kind}
use Rattle.esr_formats.specs.Infos.{info_kind}
use Rattle.esr_formats.specs.Globals.{global_kind}
use Rattle.esr_formats.specs.IndexMetas.{index_meta_kind}
use Rattle.esr_formats.specs.Shards.{shard_snap_kind, shard_index_kind}
use Rattle.esr_desk.specs.Start.{Start, formats_of}
use Rattle.esr_desk.specs.Own.{caller_of}
use Rattle.esr_desk.specs.Check.Shown.{HasFetched, ReadAs}
use Rattle.esr_unit.specs.declared.trouble.Trouble.{Trouble}
use Rattle.esr_unit.specs.Ending.{unread_as}
use Rattle.esr_check.specs.Trouble.{Shown}

-- ---- names of the layout

pub root_name : (n : ℕ) → n < 2 ^ 63 → IsName (names.Root n)
unfolding IsName
root_name n few = few

pub info_name : (u : Id) → IsName (names.Snap u)
unfolding IsName
info_name u = tt

pub global_name : (u : Id) → IsName (names.Meta u)
unfolding IsName
global_name u = tt

pub meta_name : (i u : Id) → IsName (names.IndexMeta i u)
unfolding IsName
meta_name i u = tt

pub snap_name : (shard : ShardId) (uuid : Id) → shard.number < 1024 → IsName (names.ShardSnap shard uuid)
unfolding IsName
snap_name shard uuid few = few

pub held_name : (shard : ShardId) (generation : Id) → shard.number < 1024 → IsName (names.ShardIndex shard generation)
unfolding IsName
held_name shard generation few = few

-- ---- they read

module _ (s : Start) (c : Caller) (name : BlobName) (bytes read : Bytes) (same : read ≡ bytes) (fetched : HasFetched s c name bytes) where
  read_as : {V : Type 0} (kind : Kind V) (v : V) → kind.read read ≡ Some v → ReadAs s c name kind v
  read_as kind v is = record { bytes = bytes; fetched = fetched; reads = subst (λ (b : Bytes). kind.read b ≡ Some v) same is }

  pub as_root : (v : RootData) → root_kind.read read ≡ Some v → ReadAs s c name (formats_of s).root v
  unfolding formats
  as_root v is = read_as root_kind v is

  pub as_info : (v : SnapInfo) → info_kind.read read ≡ Some v → ReadAs s c name (formats_of s).info v
  unfolding formats
  as_info v is = read_as info_kind v is

  pub as_global : (v : GlobalMeta) → global_kind.read read ≡ Some v → ReadAs s c name (formats_of s).global v
  unfolding formats
  as_global v is = read_as global_kind v is

  pub as_index_meta : (v : IndexMetadata) → index_meta_kind.read read ≡ Some v → ReadAs s c name (formats_of s).index_meta v
  unfolding formats
  as_index_meta v is = read_as index_meta_kind v is

  pub as_shard_snap : (v : ShardSnapshot) → shard_snap_kind.read read ≡ Some v → ReadAs s c name (formats_of s).shard_snap v
  unfolding formats
  as_shard_snap v is = read_as shard_snap_kind v is

  pub as_shard_index : (v : ShardFiles) → shard_index_kind.read read ≡ Some v → ReadAs s c name (formats_of s).shard_index v
  unfolding formats
  as_shard_index v is = read_as shard_index_kind v is

-- ---- they don't

module _ {S F : Type 0} (faults : F → ℕ) (s : Start) (log : List Moment) (bytes read : Bytes) (refusal : ReadRefusal) (trouble : Trouble S F) (same : read ≡ bytes) where
  by_refusal : (name : CodeName) (r : ReadRefusal) → HasFetched s (caller_of s log) (name_of name) bytes → ((why : Reason) → r ≡ reads.Damaged why → unreadable (name_of name) bytes ≡ Some (reason_of why))
      → Shown faults s log (unread_as {S = S} {F = F} name r)
  by_refusal name reads.Memory fetched h = tt
  by_refusal name (reads.Damaged why) fetched h = (bytes, fetched, h why refl)

  unread_shown : (name : CodeName) → trouble ≡ unread_as name refusal → HasFetched s (caller_of s log) (name_of name) bytes → ((why : Reason) → refusal ≡ reads.Damaged why → unreadable (name_of name) bytes ≡ Some (reason_of why))
      → Shown faults s log trouble
  unread_shown name is fetched h = subst (λ (t : Trouble S F). Shown faults s log t) (sym is) (by_refusal name refusal fetched h)

  -- the reason that the reader gave is that of the reading
  first_reason : {C : Type 0} (from : Bytes → Result C Reason) → Fails refusal (from read) → (why : Reason) → refusal ≡ reads.Damaged why → refused (from bytes) ≡ Some (reason_of why)
  first_reason from fails why is = subst (λ (b : Bytes). refused (from b) ≡ Some (reason_of why)) same (refused_for (from read) refusal why is fails)

  pub root_unread : (n : ℕ) → trouble ≡ unread_as (names.Root n) refusal → HasFetched s (caller_of s log) (name_of (names.Root n)) bytes → Fails refusal (root_from read) → Shown faults s log trouble
  unfolding unreadable
  root_unread n is fetched fails = unread_shown (names.Root n) is fetched (first_reason root_from fails)

  pub info_unread : (u : Id) → trouble ≡ unread_as (names.Snap u) refusal → HasFetched s (caller_of s log) (name_of (names.Snap u)) bytes → Fails refusal (info_from read) → Shown faults s log trouble
  unfolding unreadable
  info_unread u is fetched fails = unread_shown (names.Snap u) is fetched (first_reason info_from fails)

  pub global_unread : (u : Id) → trouble ≡ unread_as (names.Meta u) refusal → HasFetched s (caller_of s log) (name_of (names.Meta u)) bytes → Fails refusal (global_from read) → Shown faults s log trouble
  unfolding unreadable
  global_unread u is fetched fails = unread_shown (names.Meta u) is fetched (first_reason global_from fails)

  pub meta_unread : (i u : Id) → trouble ≡ unread_as (names.IndexMeta i u) refusal → HasFetched s (caller_of s log) (name_of (names.IndexMeta i u)) bytes → Fails refusal (index_meta_from read) → Shown faults s log trouble
  unfolding unreadable
  meta_unread i u is fetched fails = unread_shown (names.IndexMeta i u) is fetched (first_reason index_meta_from fails)

  pub snap_unread : (at : ShardId) (u : Id) → trouble ≡ unread_as (names.ShardSnap at u) refusal → HasFetched s (caller_of s log) (name_of (names.ShardSnap at u)) bytes → Fails refusal (shard_snap_from read) → Shown faults s log trouble
  unfolding unreadable
  snap_unread at u is fetched fails = unread_shown (names.ShardSnap at u) is fetched (first_reason shard_snap_from fails)

  pub held_unread : (at : ShardId) (g : Id) → trouble ≡ unread_as (names.ShardIndex at g) refusal → HasFetched s (caller_of s log) (name_of (names.ShardIndex at g)) bytes → Fails refusal (shard_index_from read) → Shown faults s log trouble
  unfolding unreadable
  held_unread at g is fetched fails = unread_shown (names.ShardIndex at g) is fetched (first_reason shard_index_from fails)
