use Rattle.std.proofs.Common.{◌≡◌, take}
use Rattle.esr_shardidx.specs.Indices.{listed_of}
use Rattle.esr_shardidx.proofs.change.listed_of.Given as goal

abbrev pub invariant-loop-list : goal.invariant-loop-list
invariant-loop-list l = l.kept ≡ listed_of l.fn.listed (take l.list-index l.lists)
