-- What a step of the ticket of a delete or cleanup needs, by what the ticket has done.
use Rattle.std.specs.Prelude.{◌≡◌, ◌⊎◌, ℕ, ◌≤◌, List, [], true, false, length, Option, Some, None}
use Rattle.esr_model.specs.Names.{BlobName, ShardIndex}
use Rattle.esr_model.specs.Values.{Bytes, Has, RootData, IsOneEach}
use Rattle.esr_model.specs.Delete.{PrunedShard}
use Rattle.esr_model.specs.Cleanup.{last_text}
use Rattle.esr_core.specs.World.{Ticket, Deleting, Swap}
use Rattle.esr_core.specs.Pruning.{IsToRead, AreRead, AreOfRoot, AreWritable, pruned_shards, commands_by, dooms}
use Rattle.esr_core.specs.Entry.{WasRemoved, Entry, Moment}
use Rattle.esr_core.specs.Past.{IsRemoval, removal_names, gone_names}
use Rattle.esr_core.specs.Allowed.{HasPutLatest}
use Rattle.esr_desk.specs.Start.{Start, formats_of, ticket_of, world_of}
use Rattle.esr_desk.specs.Own.{made_of}
use Rattle.esr_desk.specs.Conditions.{CanSettle}

-- before its plan it fetches the indices of the shards that it is to read
pub record CanFetchShard (t : Ticket) (name : BlobName) : Type 0 where
  pub out : t.out ≡ true
  pub unsettled : t.settled ≡ false
  pub uuids : List ℕ
  pub work : t.work ≡ Deleting uuids None
  pub index : ℕ
  pub number : ℕ
  pub base : ℕ
  pub to_read : IsToRead t.clean t.root uuids index number base
  pub name_is : name ≡ ShardIndex index number base

-- it plans once, before it writes: over a container that tells, the shards that follow from what it read
pub record CanPlan (s : Start) (t : Ticket) (uuids : List ℕ) (shards : List PrunedShard) : Type 0 where
  pub out : t.out ≡ true
  pub unsettled : t.settled ≡ false
  pub work : t.work ≡ Deleting uuids None
  pub unraised : t.raised ≡ None
  pub unnoted : t.noted ≡ []
  pub one_each : IsOneEach t.root.indices
  pub of_root : AreOfRoot t.root shards
  pub are_read : s.tells ≡ true → AreRead (formats_of s) t.clean t.root uuids t.read
  pub exact : s.tells ≡ true → shards ≡ pruned_shards (formats_of s) t.clean t.root uuids t.read
  pub writable : s.tells ≡ true → AreWritable (formats_of s) t.root uuids t.read shards

-- a cleanup lists page after page, each after the last name of those before, until one ends the listing
pub record CanList (t : Ticket) (after : Option Bytes) : Type 0 where
  pub out : t.out ≡ true
  pub unsettled : t.settled ≡ false
  pub uuids : List ℕ
  pub plan : Option Swap
  pub work : t.work ≡ Deleting uuids plan
  pub clean : t.clean ≡ true
  pub unended : t.whole ≡ false
  pub after_is : after ≡ last_text t.listed

-- it settles on the root of its plan as a finalization does on its own; a cleanup has listed to the last page
pub record CanSettleDelete (s : Start) (t : Ticket) (root : RootData) : Type 0 where
  pub settle : CanSettle s t root
  pub uuids : List ℕ
  pub work : t.work ≡ Deleting uuids (Some settle.change)
  pub commands : settle.change.commands ≡ commands_by t.clean uuids
  pub listed : t.clean ≡ true → t.whole ≡ true

-- after its settle it removes what it dooms, and some in each removal
pub record CanRemove (s : Start) (t : Ticket) (names : List BlobName) : Type 0 where
  pub out : t.out ≡ true
  pub settled : t.settled ≡ true
  pub uuids : List ℕ
  pub plan : Swap
  pub work : t.work ≡ Deleting uuids (Some plan)
  pub some : 1 ≤ length names
  pub few : length names ≤ 1000
  pub doomed : s.tells ≡ true → (name : BlobName) → Has names name → Has (dooms (formats_of s) t) name

-- a delete is over once its removals have named all of that
pub record CanEndDelete (s : Start) (log : List Moment) (who : ℕ) : Type 0 where
  pub out : (ticket_of s log who).out ≡ true
  pub settled : (ticket_of s log who).settled ≡ true
  pub uuids : List ℕ
  pub plan : Swap
  pub work : (ticket_of s log who).work ≡ Deleting uuids (Some plan)
  pub deletes : (ticket_of s log who).clean ≡ false
  pub removed : s.tells ≡ true → (name : BlobName) → Has (dooms (formats_of s) (ticket_of s log who)) name → Has (removal_names (made_of s log who)) name

-- a cleanup is over once its removals took all of that away: none of them failed, and it replaced `index.latest`
pub record CanEndCleanup (s : Start) (log : List Moment) (who : ℕ) : Type 0 where
  pub out : (ticket_of s log who).out ≡ true
  pub settled : (ticket_of s log who).settled ≡ true
  pub uuids : List ℕ
  pub plan : Swap
  pub work : (ticket_of s log who).work ≡ Deleting uuids (Some plan)
  pub cleans : (ticket_of s log who).clean ≡ true
  pub latest : HasPutLatest (world_of s log) who
  pub removals : (e : Entry) → Has (made_of s log who) e → IsRemoval e.step → e.reply ≡ WasRemoved
  pub removed : s.tells ≡ true → (name : BlobName) → Has (dooms (formats_of s) (ticket_of s log who)) name → Has (gone_names (made_of s log who)) name

-- a delete fails before its settle, a cleanup also later on
pub record CanFailDelete (t : Ticket) : Type 0 where
  pub out : t.out ≡ true
  pub may : (t.settled ≡ false) ⊎ (t.clean ≡ true)
  pub uuids : List ℕ
  pub plan : Option Swap
  pub work : t.work ≡ Deleting uuids plan
