-- What was told when the history began.
use Rattle.std.specs.Prelude.{ℕ, Bool, false, List, [], Option, Some, None, if◌then◌else◌}
use Rattle.std.specs.FinMap as fin
use Rattle.esr_model.specs.Values.{Bytes, Formats}
use Rattle.esr_core.specs.World.{World, Ticket, Drop}
use Rattle.esr_core.specs.Entry.{Moment}
use Rattle.esr_core.specs.History.{world_from, IsLegal}
use Rattle.esr_formats.specs.Formats.{formats}

pub record Start : Type 0 where
  -- whether the sources tell the files of a place, an index name and a number, and which they are
  pub known : Bytes → Bytes → ℕ → Bool
  pub told : Bytes → Bytes → ℕ → Option (List (Bytes × Bytes))
  pub part_size : ℕ
  -- the container tells its image
  pub tells : Bool
  -- it tells that no call of it fails, nor of a stage or a fetch that it gives
  pub quiet : Bool
  -- the sources tell that no call of the shard of a place, an index name and a number fails
  pub steady : Bytes → Bytes → ℕ → Bool
  -- the targets tell the files that were ended, and that no call of one fails
  pub targets_tell : Bool
  pub sure_targets : Bool
  -- nobody else makes a step, and there are 2^40 turns
  pub alone : Bool
  -- how many turns were taken before the history began
  pub earlier_turns : ℕ
  -- the opened world
  pub world : World

abbrev pub formats_of : Start → Formats
formats_of s = formats s.known s.told

-- the world after a history
abbrev pub world_of : Start → List Moment → World
world_of s log = world_from (formats_of s) s.world log

abbrev pub Legal : Start → List Moment → Type 0
Legal s log = IsLegal (formats_of s) s.part_size s.world log

-- stands for a ticket that was not given
abbrev pub no_ticket : Ticket
no_ticket =
    record {
      work = Drop;
      op = 0;
      uuid = 0;
      place = [];
      name = [];
      source = None;
      term = 0;
      safe = 0;
      root = record { snapshots = []; indices = [] };
      base = None;
      first = 0;
      drawn = 0;
      noted = [];
      wrote = [];
      read = [];
      raised = None;
      tried_latest = false;
      settled = false;
      out = false;
      clean = false;
      listed = [];
      whole = false;
    }

abbrev pub or_no_ticket : Option Ticket → Ticket
or_no_ticket None = no_ticket
or_no_ticket (Some t) = t

-- what a ticket is and has done, after a history
abbrev pub ticket_of : Start → List Moment → ℕ → Ticket
ticket_of s log k = or_no_ticket (fin.get (world_of s log).tickets k)

-- bytes that are told where the container tells
abbrev pub told_bytes : Start → Bytes → Option Bytes
told_bytes s bytes = if s.tells then Some bytes else None
