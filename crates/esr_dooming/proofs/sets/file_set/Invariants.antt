use Rattle.std.proofs.Common.{take, map}
use Rattle.std.specs.Ordering.{nat_cmp}
use Rattle.std.specs.BTreeSet.{contains}
use Rattle.esr_formats.specs.Shards.{snap_list_of}
use Rattle.esr_dooming.proofs.Numbers.{HasFiles}
use Rattle.esr_dooming.proofs.sets.file_set.Given as goal

abbrev pub invariant-loop-list : goal.invariant-loop-list
invariant-loop-list l = HasFiles l.set (contains nat_cmp l.left) (map snap_list_of (take l.list-index l.lists))
