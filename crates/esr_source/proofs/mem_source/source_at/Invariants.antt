use Rattle.std.proofs.Common.{◌≡◌, drop}
use Rattle.esr_source.specs.MemSources.{source_at}
use Rattle.esr_source.proofs.mem_source.source_at.Given as goal

abbrev pub invariant-loop-source : goal.invariant-loop-source
invariant-loop-source l = source_at l.address (drop l.source-index l.sources) ≡ source_at l.fn.address l.fn.sources
