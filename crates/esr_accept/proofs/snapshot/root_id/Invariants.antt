use Rattle.std.proofs.Common.{◌≡◌, drop, map}
use Rattle.esr_core.specs.After.{root_index_id}
use Rattle.esr_formats.specs.Roots.{root_index_of}
use Rattle.esr_accept.proofs.snapshot.root_id.Given as goal

-- the search goes on with what is left
abbrev pub invariant-loop-index : goal.invariant-loop-index
invariant-loop-index l = root_index_id (map root_index_of l.indices) l.name ≡ root_index_id (map root_index_of (drop l.index-index l.indices)) l.name
