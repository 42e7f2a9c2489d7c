use Rattle.std.proofs.Common.{◌≡◌, ◌++◌, drop}
use Rattle.esr_shardidx.specs.Marks.{marked_of}
use Rattle.esr_shardidx.proofs.marks.marked_copies.Given as goal

abbrev pub invariant-loop-place : goal.invariant-loop-place
invariant-loop-place l = marked_of l.entries l.marks ≡ l.copies ++ marked_of (drop l.place l.entries) (drop l.place l.marks)
