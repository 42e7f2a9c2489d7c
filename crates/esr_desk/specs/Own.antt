-- What someone is and has done: a ticket, the ticket of a restore's shard, or who 0.
use Rattle.std.specs.Prelude.{◌≡◌, ℕ, zero, suc, false, List, [], ◌∷◌, Option, Some, None}
use Rattle.std.specs.FinMap as fin
use Rattle.esr_model.specs.Names.{BlobName}
use Rattle.esr_model.specs.Values.{Bytes}
use Rattle.esr_core.specs.World.{Ticket, Reader, Caller, no_caller}
use Rattle.esr_core.specs.Entry.{Step, Reply, Entry, Moment}
use Rattle.esr_core.specs.Past.{entries_by}
use Rattle.esr_desk.specs.declared.hand.Hand.{Hand}
use Rattle.esr_desk.specs.declared.hand.Hand.TheVariants as hands
use Rattle.esr_desk.specs.Start.{Start, world_of, ticket_of}

-- stands for the ticket of a restore that was not given
abbrev pub no_reader : Reader
no_reader = record { op = 0; uuid = 0; index = 0; number = 0; name = []; place = []; read = []; out = false }

abbrev pub or_no_reader : Option Reader → Reader
or_no_reader None = no_reader
or_no_reader (Some q) = q

-- what a restore's ticket is and has read, after a history
abbrev pub reader_of : Start → List Moment → ℕ → Reader
reader_of s log k = or_no_reader (fin.get (world_of s log).readers k)

-- what who 0 has done since it last asked or looked, or a check or a verification of it ended
abbrev pub caller_of : Start → List Moment → Caller
caller_of s log = (world_of s log).caller

-- of who 0 alone
abbrev pub as_client : ℕ → Caller → Caller
as_client zero c = c
as_client (suc k) c = no_caller

-- All that someone is and has done: of a number two of these stand for nothing.
pub record Own : Type 0 where
  pub ticket : Ticket
  pub reader : Reader
  pub caller : Caller

abbrev pub own_of : Start → List Moment → ℕ → Own
own_of s log who = record { ticket = ticket_of s log who; reader = reader_of s log who; caller = as_client who (caller_of s log) }

-- the steps that it has made, the last first, each with its answer; of who 0 those since it began anew
abbrev pub made_of : Start → List Moment → ℕ → List Entry
made_of s log who = entries_by (world_of s log).entries who

-- this is the last step that it has made, and it was answered so
pub record MadeLast (s : Start) (log : List Moment) (who : ℕ) (step : Step) (reply : Reply) : Type 0 where
  pub before : List Entry
  pub is : made_of s log who ≡ record { who = who; step = step; reply = reply } ∷ before

-- the blobs that it has fetched, where the container tells, with their bytes
abbrev pub read_blobs : Hand → Start → List Moment → ℕ → List (BlobName × Bytes)
read_blobs hands.Unit s log who = (ticket_of s log who).read
read_blobs hands.Delete s log who = (ticket_of s log who).read
read_blobs hands.Restore s log who = (reader_of s log who).read
read_blobs hands.Check s log who = (caller_of s log).read
read_blobs hands.Verify s log who = (caller_of s log).read
