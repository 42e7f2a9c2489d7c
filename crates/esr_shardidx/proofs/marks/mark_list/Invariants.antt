use Rattle.std.proofs.Common.{◌≡◌, ◌+◌, true, false, take, length}
use Rattle.std.specs.List.{list_all}
use Rattle.esr_shardidx.specs.Indices.{repeats, has_file}
use Rattle.esr_shardidx.specs.Marks.{AreMarks}
use Rattle.esr_shardidx.proofs.marks.mark_list.Given as goal

abbrev pub invariant-loop-name : goal.invariant-loop-name
invariant-loop-name l =
    (repeats (take l.name-index l.names) ≡ false) × (list_all (has_file l.entries) (take l.name-index l.names) ≡ true)
    × AreMarks l.entries l.before (take l.name-index l.names) l.turn l.marks.items
