-- Why the bytes of a blob don't read as the kind of its name: the first rule that they break.
use Rattle.std.specs.Prelude.{◌≡◌, ℕ, Bool, List, Option, Some, None, option_map, Result, Ok, Err}
use Rattle.std.specs.Result.{result_ok}
use Rattle.std.proofs.Common.{refl, ap, subst}
use Rattle.esr_json.specs.declared.refusal.Reason.{Reason as CodeReason}
use Rattle.esr_json.specs.declared.refusal.Reason.TheVariants as code
use Rattle.esr_json.specs.declared.refusal.ReadRefusal.{ReadRefusal}
use Rattle.esr_json.specs.declared.refusal.ReadRefusal.TheVariants as refusals
use Rattle.esr_json.specs.Access.{key_text}
use Rattle.esr_json.specs.Steps.{Fails}
use Rattle.esr_root.specs.Reading.{root_from}
use Rattle.esr_meta.specs.Info.{info_from}
use Rattle.esr_meta.specs.Global.{global_from}
use Rattle.esr_meta.specs.Index.{index_meta_from}
use Rattle.esr_shardidx.specs.Snapshots.{shard_snap_from}
use Rattle.esr_shardidx.specs.Indices.{shard_index_from}
use Rattle.esr_model.specs.Names.{BlobName, Root, Latest, Snap, Meta, IndexMeta, ShardSnap, ShardIndex, File, Part, TestMaster, TestNode}
use Rattle.esr_model.specs.Values.{Bytes, Formats}
use Rattle.esr_core.specs.Entry.{Reason, NoJson, NoMember, OtherKind, OutOfRange, BadName, BadId, Duplicate, Unlisted}
use Rattle.esr_formats.specs.Roots.{root_of, root_kind}
use Rattle.esr_formats.specs.Infos.{info_of_code, info_kind}
use Rattle.esr_formats.specs.Globals.{global_of_code, global_kind}
use Rattle.esr_formats.specs.IndexMetas.{index_meta_of, index_meta_kind}
use Rattle.esr_formats.specs.Shards.{shard_snap_of, shard_snap_kind, shard_index_of, shard_index_kind}
use Rattle.esr_formats.specs.Formats.{formats}

-- a reason of the code, as an entry tells it
abbrev pub reason_of : CodeReason → Reason
reason_of code.Json = NoJson
reason_of (code.Missing key) = NoMember (key_text key)
reason_of (code.WrongKind key) = OtherKind (key_text key)
reason_of (code.OutOfRange key limit) = OutOfRange (key_text key) limit
reason_of code.BadName = BadName
reason_of code.BadId = BadId
reason_of code.Duplicate = Duplicate
reason_of code.Unlisted = Unlisted

-- why a reading gives nothing
abbrev pub refused : {C : Type 0} → Result C CodeReason → Option Reason
refused (Ok v) = None
refused (Err why) = Some (reason_of why)

-- The first reason why the bytes aren't a text of the kind of this name. `index.latest`, files and test blobs have no texts that read.
unfoldable pub unreadable : BlobName → Bytes → Option Reason
unreadable (Root n) bytes = refused (root_from bytes)
unreadable Latest bytes = None
unreadable (Snap u) bytes = refused (info_from bytes)
unreadable (Meta u) bytes = refused (global_from bytes)
unreadable (IndexMeta i u) bytes = refused (index_meta_from bytes)
unreadable (ShardSnap i k u) bytes = refused (shard_snap_from bytes)
unreadable (ShardIndex i k g) bytes = refused (shard_index_from bytes)
unreadable (File i k x) bytes = None
unreadable (Part i k x p) bytes = None
unreadable (TestMaster v) bytes = None
unreadable (TestNode v n) bytes = None

-- the bytes don't read as the kind of the blob's name
abbrev pub IsUnreadable : Formats → BlobName → Bytes → Type 0
IsUnreadable f (Root n) bytes = f.root.read bytes ≡ None
IsUnreadable f Latest bytes = ⊥
IsUnreadable f (Snap u) bytes = f.info.read bytes ≡ None
IsUnreadable f (Meta u) bytes = f.global.read bytes ≡ None
IsUnreadable f (IndexMeta i u) bytes = f.index_meta.read bytes ≡ None
IsUnreadable f (ShardSnap i k u) bytes = f.shard_snap.read bytes ≡ None
IsUnreadable f (ShardIndex i k g) bytes = f.shard_index.read bytes ≡ None
IsUnreadable f (File i k x) bytes = ⊥
IsUnreadable f (Part i k x p) bytes = ⊥
IsUnreadable f (TestMaster v) bytes = ⊥
IsUnreadable f (TestNode v n) bytes = ⊥

-- ---- where there is a reason they don't read

refused_none : {C V : Type 0} (model : C → V) (read : Result C CodeReason) (reason : Reason) → refused read ≡ Some reason → option_map model (result_ok read) ≡ None
refused_none model (Ok v) reason is = absurd cc
refused_none model (Err why) reason is = refl

no_reason : (reason : Reason) → ◌≡◌ {A = Option Reason} None (Some reason) → ⊥
no_reason reason is = cc

pub unreadable_reads_not : (known : Bytes → Bytes → ℕ → Bool) (told : Bytes → Bytes → ℕ → Option (List (Bytes × Bytes))) (name : BlobName) (bytes : Bytes) (reason : Reason) → unreadable name bytes ≡ Some reason
    → IsUnreadable (formats known told) name bytes
unfolding unreadable formats root_kind info_kind global_kind index_meta_kind shard_snap_kind shard_index_kind
unreadable_reads_not known told (Root n) bytes reason is = refused_none root_of (root_from bytes) reason is
unreadable_reads_not known told (Snap u) bytes reason is = refused_none info_of_code (info_from bytes) reason is
unreadable_reads_not known told (Meta u) bytes reason is = refused_none global_of_code (global_from bytes) reason is
unreadable_reads_not known told (IndexMeta i u) bytes reason is = refused_none index_meta_of (index_meta_from bytes) reason is
unreadable_reads_not known told (ShardSnap i k u) bytes reason is = refused_none shard_snap_of (shard_snap_from bytes) reason is
unreadable_reads_not known told (ShardIndex i k g) bytes reason is = refused_none shard_index_of (shard_index_from bytes) reason is
unreadable_reads_not known told name bytes reason is = no_reason reason is

-- ---- what a reader refuses

-- a reader that answers damaged gives the reason of the reading
pub refused_for : {C : Type 0} (read : Result C CodeReason) (e : ReadRefusal) (why : CodeReason) → e ≡ refusals.Damaged why → Fails e read → refused read ≡ Some (reason_of why)
refused_for {C} read e why is fails = ap (λ (r : Result C CodeReason). refused r) (subst (λ (x : ReadRefusal). Fails x read) is fails)
