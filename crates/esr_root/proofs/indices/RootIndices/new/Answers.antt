use Rattle.std.proofs.Common.{sym, subst}
use Rattle.esr_root.specs.Indices.{AreIndices}
use Rattle.esr_root.specs.RootLists.{AreIndices-none}
use Rattle.esr_root.proofs.indices.RootIndices.new.Goals as goal

pub invariant_of-result : goal.invariant_of-result
invariant_of-result c = subst AreIndices (sym c.new.ensures) AreIndices-none
