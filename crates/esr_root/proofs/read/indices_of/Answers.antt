use Rattle.std.proofs.Common.{sym, subst}
use Rattle.std.specs.List.{AllByRecursion}
use Rattle.esr_root.specs.Indices.{IsListed}
use Rattle.esr_root.specs.ReadRoots.{all_read}
use Rattle.esr_root.proofs.read.indices_of.Goals as goal

pub from_items-requires : goal.from_items-requires
from_items-requires c =
    (all_read c.args.snaps.now c.args.members.now.entries c.loop-name.ids c.loop-name.indices c.loop-name.name-iterator c.iter-name-items.ensures.ordered c.loop-name.invariant c.in-None.ensures.steps.0).0

pub returns-clause-listed : goal.returns-clause-listed
returns-clause-listed c =
    subst (AllByRecursion (IsListed c.args.snaps.now)) (sym c.from_items.ensures)
    (all_read c.args.snaps.now c.args.members.now.entries c.loop-name.ids c.loop-name.indices c.loop-name.name-iterator c.iter-name-items.ensures.ordered c.loop-name.invariant c.in-None.ensures.steps.0).1
