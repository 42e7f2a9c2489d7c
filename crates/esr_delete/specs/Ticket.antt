-- What the steps of the ticket of a delete or cleanup make of it.
use Rattle.std.specs.Prelude.{◌≡◌, ◌⊎◌, ℕ, Bool, true, false, List, [], ◌∷◌, Some, None}
use Rattle.esr_model.specs.Names.{BlobName, Root}
use Rattle.esr_model.specs.Values.{Bytes, Has, RootData, Formats}
use Rattle.esr_model.specs.Delete.{PrunedShard, kept_count}
use Rattle.esr_model.specs.Cleanup.{BlobSize}
use Rattle.esr_core.specs.World.{Ticket, Deleting, Swap}
use Rattle.esr_core.specs.Entry.{Moment}
use Rattle.esr_core.specs.Pruning.{AreOfRoot, pruned_shards, delete_swap, dooms}
use Rattle.esr_desk.specs.Start.{Start, formats_of, ticket_of}
use Rattle.esr_desk.specs.Taken.{tried}
use Rattle.esr_desk.specs.Delete.Named.{HasNamed}
use Rattle.esr_desk.specs.Delete.Cleaned.{HasCleaned}
use Rattle.esr_finish.specs.Blobs.{root_blob}
use Rattle.esr_finish.specs.Ticket.{noted_with, Wrote, raised_to}

-- this generation was raised, the root committed under it, and `index.latest` tried
pub record IsRooted (f : Formats) (old new : Ticket) (root : RootData) (n : ℕ) : Type 0 where
  pub mid : Ticket
  pub wrote : Wrote (raised_to old n) mid (root_blob f n root ∷ [])
  pub is : new ≡ tried mid

-- what a ticket has listed: a delete's nothing, a cleanup's all pages
pub record IsListedBy (t : Ticket) (listed : List BlobSize) (whole : Bool) : Type 0 where
  pub cleans : t.clean ≡ true → whole ≡ true
  pub deletes : t.clean ≡ false → (listed ≡ t.listed) × (whole ≡ t.whole)

-- it has listed, and then committed its root so; these are the names that it dooms
pub record IsReady (s : Start) (old new : Ticket) (root : RootData) (names : List BlobName) : Type 0 where
  pub listed : List BlobSize
  pub whole : Bool
  pub lists : IsListedBy old listed whole
  pub n : ℕ
  pub rooted : IsRooted (formats_of s) (record old { listed = listed; whole = whole }) new root n
  pub doomed : s.tells ≡ true → names ≡ dooms (formats_of s) new

-- Over what was read the ticket has planned, and it has done all that goes before the settle: it has noted the shard indices of its
-- plan, a cleanup's has listed, and it has noted, under the generation that it raised, the root without the snapshots, and has tried
-- `index.latest`. Nothing else of it changed.
pub record HasWritten (s : Start) (old new : Ticket) : Type 0 where
  pub uuids : List ℕ
  pub was : old.work ≡ Deleting uuids None
  pub blobs : List (BlobName × Bytes)
  pub read : List (BlobName × Bytes)
  pub told : s.tells ≡ true → read ≡ blobs
  pub shards : List PrunedShard
  pub shards_are : shards ≡ pruned_shards (formats_of s) old.clean old.root uuids blobs
  pub of_root : AreOfRoot old.root shards
  pub first : ℕ
  pub change : Swap
  pub change_is : change ≡ delete_swap (formats_of s) old.clean old.root read uuids shards first
  pub n : ℕ
  pub wrote : List (BlobName × Bytes)
  pub from : s.tells ≡ true → (b : BlobName × Bytes) → Has wrote b → Has old.wrote b ⊎ (Has change.own b ⊎ (root_blob (formats_of s) n change.root ≡ b))
  pub listed : List BlobSize
  pub whole : Bool
  pub lists : IsListedBy old listed whole
  pub is : new ≡ record old {
    work = Deleting uuids (Some change);
    first = first;
    drawn = kept_count shards;
    noted = Root n ∷ noted_with change.own old.noted;
    wrote = wrote;
    read = read;
    raised = Some n;
    tried_latest = true;
    listed = listed;
    whole = whole;
  }

-- and it has settled
pub record HasSettled (s : Start) (old : Ticket) (out : Bool) (new : Ticket) : Type 0 where
  pub written : Ticket
  pub is_written : HasWritten s old written
  pub is : new ≡ record written { settled = true; out = out }

-- its end is the last step: before it a delete has named all that it dooms in removals, and a cleanup has replaced `index.latest` and
-- taken all of that away, where the container tells
abbrev pub HasDone : Bool → Start → List Moment → ℕ → Type 0
HasDone false s log who = HasNamed s log who
HasDone true s log who = HasCleaned s log who

-- it has settled and ended
pub record IsOver (clean : Bool) (s : Start) (old new : List Moment) (who : ℕ) : Type 0 where
  pub is : ticket_of s new who ≡ record (ticket_of s old who) { settled = true; out = false }
  pub done : HasDone clean s new who

-- the unit has settled on the root without its snapshots, has removed what it dooms, and has ended
pub record Deleted (s : Start) (old new : List Moment) (who : ℕ) : Type 0 where
  pub settled : HasSettled s (ticket_of s old who) false (ticket_of s new who)
  pub done : HasDone (ticket_of s old who).clean s new who
