use Rattle.std.proofs.Common.{drop}
use Rattle.std.specs.List.{AllByRecursion}
use Rattle.esr_formats.proofs.Makings.{IsRuled}
use Rattle.esr_formats.proofs.laws.making_can_be_written.Given as goal

abbrev pub invariant-loop-index : goal.invariant-loop-index
invariant-loop-index l = AllByRecursion IsRuled (drop l.index-index l.index-items) → AllByRecursion IsRuled l.index-items
