-- What the ticket of a delete or cleanup has read of shards, and what is held of them.
use Rattle.std.specs.Prelude.{◌≡◌, ℕ, Bool, true, false, List, [], Some, None}
use Rattle.esr_model.specs.Names.{BlobName, ShardIndex}
use Rattle.esr_model.specs.Values.{Bytes, Has, RootData, ShardFiles, Formats}
use Rattle.esr_model.specs.Image.{Generation}
use Rattle.esr_model.specs.Delete.{PrunedShard, files_read}
use Rattle.esr_core.specs.World.{Ticket, Deleting}
use Rattle.esr_core.specs.After.{fetching}
use Rattle.esr_core.specs.Entry.{PruneStep, FetchShard, Entry, Moment}
use Rattle.esr_core.specs.Pruning.{AreRead, bare_shard}
use Rattle.esr_core.specs.Allowed.{IsUnlisted}
use Rattle.esr_formats.specs.Shards.{shard_index_kind}
use Rattle.esr_reach.specs.Held.{HeldShard, held_at}
use Rattle.esr_desk.specs.Start.{Start, formats_of, ticket_of, told_bytes}
use Rattle.esr_desk.specs.Own.{made_of}
use Rattle.esr_desk.specs.Grew.{GrewBy}

-- the ticket of a delete of these snapshots of the root, or of a cleanup, is out, and has no plan yet
pub record IsUnplanned (t : Ticket) (clean : Bool) (root : RootData) (uuids : List ℕ) : Type 0 where
  pub out : t.out ≡ true
  pub unsettled : t.settled ≡ false
  pub work : t.work ≡ Deleting uuids None
  pub mode : t.clean ≡ clean
  pub root_is : root ≡ t.root
  pub unraised : t.raised ≡ None
  pub unnoted : t.noted ≡ []
  pub undrawn : t.drawn ≡ 0
  pub untried : t.tried_latest ≡ false
  pub unlisted : IsUnlisted t

-- the ticket has read more, and nothing else of it changed
pub record HasRead (old new : Ticket) : Type 0 where
  pub read : List (BlobName × Bytes)
  pub is : new ≡ record old { read = read }

-- the name of the old index of a shard
abbrev pub index_name : PrunedShard → BlobName
index_name p = ShardIndex p.index p.number p.base

-- the ticket has made no step but fetches of the indices of these shards
abbrev pub MadeFetches : List PrunedShard → Start → List Moment → ℕ → Type 0
MadeFetches shards s log who = (e : Entry) → Has (made_of s log who) e → (p : PrunedShard) × Has shards p × (e.step ≡ PruneStep (FetchShard (index_name p)))

-- none but fetches
abbrev pub HasMadeFetches : Start → List Moment → ℕ → Type 0
HasMadeFetches s log who = (e : Entry) → Has (made_of s log who) e → (name : BlobName) × (e.step ≡ PruneStep (FetchShard name))

-- what is held of each shard of the root is what was read of it, and nothing is where nothing was
abbrev pub HoldsRead : Formats → RootData → List (BlobName × Bytes) → List HeldShard → Type 0
HoldsRead f root blobs held = (index number base : ℕ) → Generation root index number base → held_at held index number ≡ files_read f blobs (bare_shard index number base)

-- of each of these shards something was read
abbrev pub AreGathered : Formats → List (BlobName × Bytes) → List PrunedShard → Type 0
AreGathered f blobs shards = (p : PrunedShard) → Has shards p → (was : ShardFiles) × (files_read f blobs p ≡ Some was)

-- Each index that is to be read was read, and is held. What was read the ticket tells where the container does.
pub record IsGathered (s : Start) (t : Ticket) (uuids : List ℕ) (held : List HeldShard) : Type 0 where
  pub blobs : List (BlobName × Bytes)
  pub told : s.tells ≡ true → t.read ≡ blobs
  pub are_held : HoldsRead (formats_of s) t.root blobs held
  pub are_read : AreRead (formats_of s) t.clean t.root uuids blobs

-- ---- while it gathers

-- this is what was fetched of an index, which reads as these files
abbrev pub HasFetched : Start → Ticket → Ticket → BlobName → ShardFiles → Type 0
HasFetched s old new name files = (bytes : Bytes) × (new ≡ fetching name (told_bytes s bytes) old) × (shard_index_kind.read bytes ≡ Some files)

-- the indices of these shards are gathered, and no other step was made
pub record IsSoFar (s : Start) (old new : List Moment) (who : ℕ) (shards : List PrunedShard) (held : List HeldShard) : Type 0 where
  pub blobs : List (BlobName × Bytes)
  pub told : s.tells ≡ true → (ticket_of s new who).read ≡ blobs
  pub are_held : HoldsRead (formats_of s) (ticket_of s old who).root blobs held
  pub gathered : AreGathered (formats_of s) blobs shards
  pub made : MadeFetches shards s new who
  pub read : HasRead (ticket_of s old who) (ticket_of s new who)
  pub grew : GrewBy s who old new
