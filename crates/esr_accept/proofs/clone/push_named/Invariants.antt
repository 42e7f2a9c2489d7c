use Rattle.std.proofs.Common.{◌≡◌, drop, map}
use Rattle.esr_core.specs.After.{ref_by_name}
use Rattle.esr_formats.specs.Refs.{ref_of_code}
use Rattle.esr_accept.proofs.clone.push_named.Given as goal

-- the search goes on with what is left, and nothing was appended
abbrev pub invariant-loop-index : goal.invariant-loop-index
invariant-loop-index l = record {
  search : ref_by_name (map ref_of_code l.all) l.name ≡ ref_by_name (map ref_of_code (drop l.index-index l.all)) l.name;
  refs : l.refs ≡ l.initial.refs;
}
