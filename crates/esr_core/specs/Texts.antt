-- A finalization's metadata: each name is absent, or holds the text that the op gives.
use Rattle.std.specs.Prelude.{◌≡◌, ◌⊎◌, ℕ, List, Some}
use Rattle.std.specs.Ordering.{nat_cmp}
use Rattle.std.specs.FinMap.{FinMap}
use Rattle.std.specs.FinMap as fin
use Rattle.esr_model.specs.Names.{BlobName, Snap, Meta, IndexMeta}
use Rattle.esr_model.specs.Values.{Bytes, Has, SnapInfo, ShardResult, Formats}
use Rattle.esr_model.specs.Shelf.{Command}
use Rattle.esr_model.specs.Image.{Blobs, At}
use Rattle.esr_core.specs.World.{Op, Finalize, Deleting, Ticket, Swap, AllDone, info_of, metadata}

-- a metadata name of this snapshot
abbrev pub IsMetaOf : ℕ → BlobName → Type 0
IsMetaOf uuid name = (name ≡ Snap uuid) ⊎ ((name ≡ Meta uuid) ⊎ ((i : ℕ) × (name ≡ IndexMeta i uuid)))

-- all shards of the op are done, and this blob is one of its metadata
pub record OpGives (f : Formats) (op : Op) (name : BlobName) (b : Bytes) : Type 0 where
  pub results : List ShardResult
  pub done : AllDone op.shards results
  pub gives : Has (metadata f (info_of op results)) (name, b)

-- all shards of the op are done, and this is its info
pub record IsInfoOf (op : Op) (info : SnapInfo) : Type 0 where
  pub results : List ShardResult
  pub done : AllDone op.shards results
  pub info_is : info ≡ info_of op results

pub record Texted (f : Formats) (blobs : Blobs) (open_ops : FinMap nat_cmp Op) (tickets : FinMap nat_cmp Ticket) : Type 0 where
  -- what is there under a name of a finalization, also of one that has ended, has its text
  pub swaps : (k : ℕ) (t : Ticket) (info : SnapInfo) (results : List ShardResult) (made : Command) → fin.get tickets k ≡ Some t → t.work ≡ Finalize info results made
      → (name : BlobName) (b : Bytes) → IsMetaOf info.uuid name → At f blobs name b → Has (metadata f info) (name, b)
  -- and under one of an open op; before its shards are done nothing is there
  pub ops : (o : ℕ) (op : Op) → fin.get open_ops o ≡ Some op → (name : BlobName) (b : Bytes) → IsMetaOf op.uuid name → At f blobs name b → OpGives f op name b
  -- a finalization has the info that its op gives, and two of one snapshot have one
  pub agree : (k : ℕ) (t : Ticket) (info : SnapInfo) (results : List ShardResult) (made : Command) (o : ℕ) (op : Op) → fin.get tickets k ≡ Some t → t.work ≡ Finalize info results made
      → fin.get open_ops o ≡ Some op → info.uuid ≡ op.uuid → IsInfoOf op info
  pub one : (j k : ℕ) (t u : Ticket) (a b : SnapInfo) (rs qs : List ShardResult) (m n : Command) → fin.get tickets j ≡ Some t → fin.get tickets k ≡ Some u → t.work ≡ Finalize a rs m → u.work ≡ Finalize b qs n
      → a.uuid ≡ b.uuid → a ≡ b
  -- a delete or cleanup writes no metadata
  pub plans : (k : ℕ) (t : Ticket) (uuids : List ℕ) (s : Swap) → fin.get tickets k ≡ Some t → t.work ≡ Deleting uuids (Some s) → (name : BlobName) (b : Bytes) → Has s.own (name, b) → (u : ℕ) → IsMetaOf u name → ⊥
