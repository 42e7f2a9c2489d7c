use Rattle.std.proofs.Common.{◌≡◌, ◌+◌, ◌≤◌, List, ℕ, length, option_map}
use Rattle.esr_source.specs.Begun.{more}
use Rattle.esr_parts.specs.Back.{Taken}
use Rattle.esr_parts.proofs.back.read_back.Given as goal

abbrev pub invariant-loop-got : goal.invariant-loop-got
invariant-loop-got g l =
    record {
      files : (g.T.Target.told l.target).files ≡ (g.T.Target.told l.fn.target).files;
      made_for : (g.T.Target.told l.target).made_for ≡ (g.T.Target.told l.fn.target).made_for;
      buffer : length l.buf ≡ length l.fn.buf;
      fetch : g.F.Counted.faults l.fn.fetch ≤ g.F.Counted.faults l.fetch;
      target : g.T.Counted.faults l.fn.target ≤ g.T.Counted.faults l.target;
      fetch_sure : g.F.Fetch.is_sure l.fetch ≡ g.F.Fetch.is_sure l.fn.fetch;
      target_sure : (g.T.Target.told l.target).is_sure ≡ (g.T.Target.told l.fn.target).is_sure;
      steady : g.T.Counted.faults l.target ≡ g.T.Counted.faults l.fn.target;
      piece : List ℕ;
      taken : Taken (g.F.Fetch.left l.fn.fetch) (g.F.Fetch.left l.fetch) l.fn.hasher l.hasher piece;
      grew : (g.T.Target.told l.target).begun ≡ option_map (more piece) (g.T.Target.told l.fn.target).begun;
      count : length piece + l.missing ≡ l.size;
    }

abbrev pub decreases-loop-got : goal.decreases-loop-got
decreases-loop-got g l = l.missing
