-- The names of blobs, without their texts.
use Rattle.std.specs.Prelude.{ℕ}

pub data BlobName : Type 0 where
  Root : (n : ℕ) → BlobName
  Latest : BlobName
  Snap : (uuid : ℕ) → BlobName
  Meta : (uuid : ℕ) → BlobName
  IndexMeta : (index uuid : ℕ) → BlobName
  ShardSnap : (index shard uuid : ℕ) → BlobName
  ShardIndex : (index shard generation : ℕ) → BlobName
  File : (index shard file : ℕ) → BlobName
  Part : (index shard file part : ℕ) → BlobName
  TestMaster : (test : ℕ) → BlobName
  TestNode : (test worker : ℕ) → BlobName
