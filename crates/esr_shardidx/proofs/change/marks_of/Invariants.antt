use Rattle.std.proofs.Common.{take}
use Rattle.esr_shardidx.specs.Indices.{is_named}
use Rattle.esr_shardidx.specs.Marks.{AreMarked}
use Rattle.esr_shardidx.proofs.change.marks_of.Given as goal

abbrev pub invariant-loop-list : goal.invariant-loop-list
invariant-loop-list l = AreMarked (is_named (take l.list-index l.lists)) l.entries l.marks.items
