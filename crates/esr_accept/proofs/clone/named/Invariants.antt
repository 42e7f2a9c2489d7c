use Rattle.std.proofs.Common.{◌≡◌, ◌++◌, drop, map}
use Rattle.esr_core.specs.After.{named_refs}
use Rattle.esr_formats.specs.Refs.{ref_of_code}
use Rattle.esr_accept.proofs.clone.named.Given as goal

-- the rest of the names gives the rest of the indices
abbrev pub invariant-loop-name : goal.invariant-loop-name
invariant-loop-name l = named_refs (map ref_of_code l.all) l.names ≡ map ref_of_code l.refs ++ named_refs (map ref_of_code l.all) (drop l.name-index l.names)
