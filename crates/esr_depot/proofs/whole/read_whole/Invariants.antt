use Rattle.std.proofs.Common.{◌≡◌, ◌-◌, ◌^◌, ◌≤◌, length}
use Rattle.std.specs.Io.KnownBytes.{Consumes}
use Rattle.esr_depot.proofs.whole.read_whole.Given as goal

abbrev pub invariant-loop-bytes : goal.invariant-loop-bytes
invariant-loop-bytes g l =
    record {
      took : Consumes (g.F.Fetch.left l.fn.fetch) (g.F.Fetch.left l.fetch) l.bytes.items;
      later : g.F.Counted.faults l.fn.fetch ≤ g.F.Counted.faults l.fetch;
      sure : g.F.Fetch.is_sure l.fetch ≡ g.F.Fetch.is_sure l.fn.fetch;
    }

abbrev pub decreases-loop-bytes : goal.decreases-loop-bytes
decreases-loop-bytes g l = 2 ^ 64 - length l.bytes.items
