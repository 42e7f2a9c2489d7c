-- What is held of shards is what was read of them.
use Rattle.std.specs.Prelude.{◌≡◌, ◌<◌, ℕ, Bool, List, Some}
use Rattle.esr_model.specs.Names.{BlobName}
use Rattle.esr_model.specs.Values.{Bytes, Has, RootData, ShardFiles, Formats}
use Rattle.esr_model.specs.Delete.{PrunedShard, files_read}
use Rattle.esr_core.specs.Pruning.{IsToRead, bare_shard}
use Rattle.esr_reach.specs.Held.{HeldShard, held_at}

-- of each shard that a delete or cleanup is to read
abbrev pub IsHeld : Formats → Bool → RootData → List ℕ → List (BlobName × Bytes) → List HeldShard → Type 0
IsHeld f clean root uuids blobs held = (index number base : ℕ) → IsToRead clean root uuids index number base → held_at held index number ≡ files_read f blobs (bare_shard index number base)

-- of each of these shards
abbrev pub AreHeld : Formats → List (BlobName × Bytes) → List HeldShard → List PrunedShard → Type 0
AreHeld f blobs held shards = (p : PrunedShard) → Has shards p → held_at held p.index p.number ≡ files_read f blobs p

-- ---- which shards these are

-- each is one that is to be read
abbrev pub AreToRead : Bool → RootData → List ℕ → List PrunedShard → Type 0
AreToRead clean root uuids shards = (p : PrunedShard) → Has shards p → IsToRead clean root uuids p.index p.number p.base

-- each that is to be read is one of these
abbrev pub HasToRead : Bool → RootData → List ℕ → List PrunedShard → Type 0
HasToRead clean root uuids shards = (index number base : ℕ) → IsToRead clean root uuids index number base → Has shards (bare_shard index number base)

-- of each something is held
abbrev pub AreHeldSome : List HeldShard → List PrunedShard → Type 0
AreHeldSome held shards = (p : PrunedShard) → Has shards p → (v : ShardFiles) × (held_at held p.index p.number ≡ Some v)

-- each number is one of the layout
abbrev pub AreFew : List PrunedShard → Type 0
AreFew shards = (p : PrunedShard) → Has shards p → p.number < 1024
