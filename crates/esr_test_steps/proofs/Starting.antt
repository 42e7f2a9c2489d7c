-- A start before which turns were taken.
use Rattle.std.proofs.Common.{ℕ, ◌^◌}
use Rattle.esr_depot.specs.Image.{Image as Held}
use Rattle.esr_depot.specs.Look.{Look}
use Rattle.esr_source.specs.Told.{SourcesTold, TargetsTold}
use Rattle.esr_opening.specs.Opening.{Kept}
use Rattle.esr_desk.specs.Start.{Start}
use Rattle.esr_drive.specs.Outside.{IsOutside}
use Rattle.esr_repo.specs.Begun.{IsBegun}

-- before it as many turns were taken as a desk has at least
abbrev pub spent : Start → Start
spent s = record s { earlier_turns = 2 ^ 33 }

pub spent_begun : (s : Start) (clock : ℕ) (past : ℕ → Held → Type 0) (l : Look) (k : Kept) → IsBegun s clock past l k → IsBegun (spent s) clock past l k
spent_begun s clock past l k b = record {
  kept = b.kept;
  order = b.order;
  live = b.live;
  no_tickets = b.no_tickets;
  read_tracked = b.read_tracked;
  uncalled = b.uncalled;
  no_entries = b.no_entries;
  infos = b.infos;
  listed = b.listed;
  roomy = record { ops = b.roomy.ops; tickets = b.roomy.tickets };
  image = b.image;
  tells = b.tells;
  clock_is = b.clock_is;
  bounded = b.bounded;
  past_is = b.past_is;
  only_now = b.only_now;
}

pub spent_outside : (s : Start) (sources : SourcesTold) (targets : TargetsTold) (part_size : ℕ) → IsOutside s sources targets part_size → IsOutside (spent s) sources targets part_size
spent_outside s sources targets part_size o = record {
  told = record { told = o.told.told; steady = o.told.steady };
  sure = o.sure;
  tells = o.tells;
  size = o.size;
  sized = o.sized;
}
