use Rattle.std.proofs.Common.{◌≡◌, drop, map}
use Rattle.esr_formats.specs.Refs.{ref_of_code}
use Rattle.esr_formats.specs.Roots.{root_index_of}
use Rattle.esr_agreement.specs.Agreement.{is_served}
use Rattle.esr_agreement.proofs.agreement.is_served.Given as goal

abbrev pub invariant-loop-index : goal.invariant-loop-index
invariant-loop-index l = is_served (map root_index_of l.indices) (ref_of_code l.told) l.uuid.number ≡ is_served (map root_index_of (drop l.index-index l.indices)) (ref_of_code l.told) l.uuid.number
