-- How far the unit of a delete or cleanup went, whatever it was answered.
use Rattle.std.specs.Prelude.{◌≡◌, ℕ, Bool, List, Option}
use Rattle.esr_model.specs.Names.{BlobName}
use Rattle.esr_model.specs.Values.{Bytes}
use Rattle.esr_model.specs.Cleanup.{BlobSize}
use Rattle.esr_core.specs.World.{Ticket, Deleting, Swap}
use Rattle.esr_core.specs.Entry.{Moment}
use Rattle.esr_desk.specs.Start.{Start, ticket_of}
use Rattle.esr_desk.specs.Grew.{GrewBy}

-- the ticket, of the same snapshots, has read, planned, noted and written blobs, listed, raised and tried `index.latest` at most
pub record Worked (old new : Ticket) : Type 0 where
  pub uuids : List ℕ
  pub before : Option Swap
  pub was : old.work ≡ Deleting uuids before
  pub plan : Option Swap
  pub first : ℕ
  pub drawn : ℕ
  pub noted : List BlobName
  pub wrote : List (BlobName × Bytes)
  pub read : List (BlobName × Bytes)
  pub raised : Option ℕ
  pub tried : Bool
  pub listed : List BlobSize
  pub whole : Bool
  pub is : new ≡ record old {
    work = Deleting uuids plan;
    first = first;
    drawn = drawn;
    noted = noted;
    wrote = wrote;
    read = read;
    raised = raised;
    tried_latest = tried;
    listed = listed;
    whole = whole;
  }

pub record Went (s : Start) (old new : List Moment) (who : ℕ) : Type 0 where
  pub grew : GrewBy s who old new
  pub worked : Worked (ticket_of s old who) (ticket_of s new who)
