use Rattle.std.proofs.Common.{◌≡◌, true, drop}
use Rattle.std.specs.FinMap.{empty}
use Rattle.std.specs.List.{list_all}
use Rattle.esr_memdepot.specs.Past.{held, is_there, left_blob, is_dated}
use Rattle.esr_memdepot.proofs.blob.copy_left.Given as goal

-- the copies, and over them what the rest leaves
abbrev pub invariant-loop-kept : goal.invariant-loop-kept
invariant-loop-kept l = record {
  same : held (left_blob l.moment l.leaves) (drop l.kept-index l.blobs) (held is_there l.copies.items empty) ≡ held (left_blob l.moment l.leaves) l.blobs empty;
  dated : list_all (is_dated 0) l.copies.items ≡ true;
}
