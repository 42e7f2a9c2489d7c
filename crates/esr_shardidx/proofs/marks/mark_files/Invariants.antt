use Rattle.std.proofs.Common.{◌≡◌, ◌||◌, Bool, List, ℕ, take, length}
use Rattle.esr_shardidx.specs.declared.entry.FileEntry.{FileEntry}
use Rattle.esr_shardidx.specs.Marks.{AreMarked, is_among}
use Rattle.esr_shardidx.proofs.marks.mark_files.Given as goal

abbrev pub invariant-loop-name : goal.invariant-loop-name
invariant-loop-name l =
    (length l.marks.items ≡ length l.entries)
    × ((p : FileEntry → Bool) → AreMarked p l.entries l.fn.marks.items → AreMarked (λ e. p e || is_among (take l.name-index l.names) e) l.entries l.marks.items)
