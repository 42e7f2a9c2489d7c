use Rattle.std.proofs.Common.{◌≡◌, take, map}
use Rattle.esr_ops.specs.Asked.{asked_index_of}
use Rattle.esr_complete.specs.Lines.{index_of_line}
use Rattle.esr_run.proofs.command.indices_of.Given as goal

abbrev pub invariant-loop-index : goal.invariant-loop-index
invariant-loop-index l = map asked_index_of l.asked ≡ map index_of_line (take l.index-index l.indices)
