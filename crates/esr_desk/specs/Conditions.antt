-- What a step of a ticket needs, by what the ticket has done.
use Rattle.std.specs.Prelude.{◌≡◌, ◌≢◌, ◌⊎◌, ℕ, suc, ◌+◌, ◌^◌, ◌≤◌, true, false, List, Option, Some, None}
use Rattle.esr_model.specs.Names.{BlobName, Root, Latest, ShardSnap, ShardIndex}
use Rattle.esr_model.specs.Values.{Bytes, Has, RootData, ShardResult}
use Rattle.esr_core.specs.World.{Ticket, Shard, Deleting, Drop, Swap, swap}
use Rattle.esr_core.specs.Ready.{IsShard, IsMaster}
use Rattle.esr_core.specs.Steps.{Drew, MayCommit, IsToFetch, MostDrawn}
use Rattle.esr_core.specs.Allowed.{DoneAs, IsMetadata, IsNumbered, IsUnlisted}
use Rattle.esr_core.specs.Entry.{Moment}
use Rattle.esr_core.specs.Past.{WasStale}
use Rattle.esr_desk.specs.Start.{Start, formats_of, ticket_of, world_of, told_bytes}

-- a shard's ticket draws once: at least one id, and at most one for each file of its source and one more, or of a clone one
pub record CanDraw (s : Start) (t : Ticket) (n : ℕ) : Type 0 where
  pub out : t.out ≡ true
  pub shard : IsShard t.work
  pub once : t.drawn ≡ 0
  pub some : 1 ≤ n
  pub most : (index number : ℕ) → t.work ≡ Shard index number → MostDrawn (formats_of s) t number n t.source
  pub few : n ≤ 2 ^ 32

-- before its settle a ticket commits blobs of its unit, each once, but for the metadata of a finalization
pub record CanCommit (s : Start) (t : Ticket) (name : BlobName) (bytes : Bytes) : Type 0 where
  pub out : t.out ≡ true
  pub unsettled : t.settled ≡ false
  pub may : MayCommit (formats_of s) t name bytes
  pub stored : name ≢ Latest
  pub once : (IsMetadata name → ⊥) → Has t.noted name → ⊥
  -- a part has the number of one of the parts of a told file
  pub numbered : (index number : ℕ) → t.work ≡ Shard index number → IsNumbered (formats_of s) s.part_size t number name t.source
  -- once a cleanup has listed it commits its root alone
  pub late : (uuids : List ℕ) (plan : Option Swap) → t.work ≡ Deleting uuids plan → t.clean ≡ true → IsUnlisted t ⊎ ((n : ℕ) × (name ≡ Root n))

-- `index.latest` follows the root that the ticket raised and committed
pub record CanPut (s : Start) (t : Ticket) (n : ℕ) : Type 0 where
  pub out : t.out ≡ true
  pub change : Swap
  pub is : swap (formats_of s) t ≡ Some change
  pub unsettled : t.settled ≡ false
  pub raised : t.raised ≡ Some n
  pub written : Has t.noted (Root n)

-- a blob is begun that may be committed, or `index.latest`
abbrev pub CanBegin : Start → Ticket → BlobName → Type 0
CanBegin s t name = ((bytes : Bytes) × CanCommit s t name bytes) ⊎ ((name ≡ Latest) × ((n : ℕ) × CanPut s t n))

-- the stage holds these bytes, where the container tells
abbrev pub Holds : Start → Option Bytes → Bytes → Type 0
Holds s contents bytes = contents ≡ told_bytes s bytes

-- a shard's ticket fetches its base, and a clone's the snapshot of the shard that it copies
pub record CanFetch (t : Ticket) (name : BlobName) : Type 0 where
  pub out : t.out ≡ true
  pub to_fetch : IsToFetch t name

-- a swap raises once
pub record CanRaise (s : Start) (t : Ticket) : Type 0 where
  pub out : t.out ≡ true
  pub change : Swap
  pub is : swap (formats_of s) t ≡ Some change
  pub unsettled : t.settled ≡ false
  pub once : t.raised ≡ None

-- the ticket is of no delete or cleanup, which settle, fail and end by steps of their own
abbrev pub IsUnpruned : Ticket → Type 0
IsUnpruned t = (uuids : List ℕ) (plan : Option Swap) → t.work ≡ Deleting uuids plan → ⊥

-- it settles on the root of its unit when that is committed, with all that the unit writes before it, and `index.latest` was tried
pub record CanSettle (s : Start) (t : Ticket) (root : RootData) : Type 0 where
  pub change : Swap
  pub n : ℕ
  pub put : CanPut s t n
  pub is : swap (formats_of s) t ≡ Some change
  pub root_is : root ≡ change.root
  pub ready : (name : BlobName) (bytes : Bytes) → Has change.own (name, bytes) → Has t.noted name
  pub tried : t.tried_latest ≡ true

-- a shard is done when its ticket drew the generation last and committed the shard's snapshot and its index
pub record CanEnd (s : Start) (t : Ticket) (r : ShardResult) : Type 0 where
  pub out : t.out ≡ true
  pub is : t.work ≡ Shard r.index r.shard
  pub drew : Drew t r.generation
  pub last : t.first + t.drawn ≡ suc r.generation
  pub snap_noted : Has t.noted (ShardSnap r.index r.shard t.uuid)
  pub index_noted : Has t.noted (ShardIndex r.index r.shard r.generation)
  pub done : s.tells ≡ true → DoneAs (formats_of s) s.part_size t r t.source

-- a unit fails before it settles
pub record CanFail (t : Ticket) : Type 0 where
  pub out : t.out ≡ true
  pub unsettled : t.settled ≡ false
  pub unit : IsShard t.work ⊎ IsMaster t.work
  pub unpruned : IsUnpruned t

-- the swap of a snapshot or a clone has settled
pub record HasSettled (t : Ticket) : Type 0 where
  pub settled : t.settled ≡ true
  pub unpruned : IsUnpruned t

-- It ends, and so does a unit that is no shard's once a step of its own was refused, as its term is over.
pub record CanFinish (s : Start) (log : List Moment) (who : ℕ) : Type 0 where
  pub out : (ticket_of s log who).out ≡ true
  pub no_shard : IsShard (ticket_of s log who).work → ⊥
  pub done : HasSettled (ticket_of s log who) ⊎ WasStale (world_of s log) who

-- an op is dropped by the ticket that is for it
pub record CanDrop (t : Ticket) : Type 0 where
  pub out : t.out ≡ true
  pub work : t.work ≡ Drop
