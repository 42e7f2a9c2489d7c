use Rattle.std.proofs.Common.{◌≡◌, ◌+◌, ◌≤◌, ◌++◌, suc, drop, map}
use Rattle.esr_formats.specs.Refs.{ref_of_code}
use Rattle.esr_formats.specs.Roots.{root_of}
use Rattle.esr_ops.specs.Asked.{asked_index_of}
use Rattle.esr_accept.specs.Asking.{known_in, refs_by, new_by}
use Rattle.esr_accept.proofs.snapshot.draw.Given as goal

-- the rest of the indices gives the rest of the references
abbrev pub invariant-loop-index : goal.invariant-loop-index
invariant-loop-index l = record {
  refs : refs_by (known_in (root_of l.root) l.ops) (suc l.uuid.number) (map asked_index_of l.asked) ≡ map ref_of_code l.refs ++ refs_by (known_in (root_of l.root) l.ops) (suc l.uuid.number + l.new) (map asked_index_of (drop l.index-index l.asked));
  new : new_by (known_in (root_of l.root) l.ops) (map asked_index_of l.asked) ≡ l.new + new_by (known_in (root_of l.root) l.ops) (map asked_index_of (drop l.index-index l.asked));
  most : l.new ≤ l.index-index;
}
