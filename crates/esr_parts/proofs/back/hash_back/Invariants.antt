use Rattle.std.proofs.Common.{◌≡◌, ◌+◌, ◌≤◌, List, ℕ, length}
use Rattle.esr_parts.specs.Back.{Taken}
use Rattle.esr_parts.proofs.back.hash_back.Given as goal

abbrev pub invariant-loop-got : goal.invariant-loop-got
invariant-loop-got g l =
    record {
      buffer : length l.buf ≡ length l.fn.buf;
      later : g.F.Counted.faults l.fn.fetch ≤ g.F.Counted.faults l.fetch;
      sure : g.F.Fetch.is_sure l.fetch ≡ g.F.Fetch.is_sure l.fn.fetch;
      piece : List ℕ;
      taken : Taken (g.F.Fetch.left l.fn.fetch) (g.F.Fetch.left l.fetch) l.fn.hasher l.hasher piece;
      count : length piece + l.missing ≡ l.size;
    }

abbrev pub decreases-loop-got : goal.decreases-loop-got
decreases-loop-got g l = l.missing
