use Rattle.std.proofs.Common.{sym, subst}
use Rattle.esr_root.specs.Snaps.{AreSnaps}
use Rattle.esr_root.specs.RootLists.{AreSnaps-none}
use Rattle.esr_root.proofs.snaps.RootSnaps.new.Goals as goal

pub invariant_of-result : goal.invariant_of-result
invariant_of-result c = subst AreSnaps (sym c.new.ensures) AreSnaps-none
