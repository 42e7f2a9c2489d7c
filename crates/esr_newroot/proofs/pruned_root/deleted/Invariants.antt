use Rattle.std.proofs.Common.{map}
use Rattle.esr_formats.specs.Ids.{number_of}
use Rattle.esr_formats.specs.Roots.{root_of}
use Rattle.esr_newroot.proofs.Pruning.{Renews}
use Rattle.esr_newroot.proofs.pruned_root.deleted.Given as goal

abbrev pub invariant-loop-shard : goal.invariant-loop-shard
invariant-loop-shard l = Renews (root_of l.root) (map number_of l.uuids) l.shard-items l.fn.first.number l.shard-index l.next.number (root_of l.new)
