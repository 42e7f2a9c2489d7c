-- How far the unit went, whatever it was answered.
use Rattle.std.specs.Prelude.{◌≡◌, ℕ, Bool, List, Option}
use Rattle.esr_model.specs.Names.{BlobName}
use Rattle.esr_model.specs.Values.{Bytes}
use Rattle.esr_core.specs.World.{Ticket}
use Rattle.esr_core.specs.Entry.{Moment}
use Rattle.esr_desk.specs.Start.{Start, ticket_of}
use Rattle.esr_desk.specs.Grew.{GrewBy}

-- the ticket has noted and written blobs, raised and tried `index.latest` at most
pub record Worked (old new : Ticket) : Type 0 where
  pub noted : List BlobName
  pub wrote : List (BlobName × Bytes)
  pub raised : Option ℕ
  pub tried : Bool
  pub is : new ≡ record old { noted = noted; wrote = wrote; raised = raised; tried_latest = tried }

pub record Went (s : Start) (old new : List Moment) (who : ℕ) : Type 0 where
  pub grew : GrewBy s who old new
  pub worked : Worked (ticket_of s old who) (ticket_of s new who)
