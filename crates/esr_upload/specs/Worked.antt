-- How far the ticket of a shard went.
use Rattle.std.specs.Prelude.{◌≡◌, ℕ, List}
use Rattle.esr_model.specs.Names.{BlobName}
use Rattle.esr_model.specs.Values.{Bytes}
use Rattle.esr_core.specs.World.{Ticket}
use Rattle.esr_core.specs.Entry.{Moment}
use Rattle.esr_desk.specs.Start.{Start, ticket_of}
use Rattle.esr_desk.specs.Grew.{GrewBy}

-- it has drawn ids, fetched and committed blobs at most
pub record Worked (old new : Ticket) : Type 0 where
  pub first : ℕ
  pub drawn : ℕ
  pub noted : List BlobName
  pub wrote : List (BlobName × Bytes)
  pub read : List (BlobName × Bytes)
  pub is : new ≡ record old { first = first; drawn = drawn; noted = noted; wrote = wrote; read = read }

pub record Went (s : Start) (old new : List Moment) (who : ℕ) : Type 0 where
  pub grew : GrewBy s who old new
  pub worked : Worked (ticket_of s old who) (ticket_of s new who)
