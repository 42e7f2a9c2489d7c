use Rattle.std.proofs.Common.{◌≡◌, drop, map}
use Rattle.esr_formats.specs.Refs.{ref_of_code}
use Rattle.esr_formats.specs.Roots.{root_index_of}
use Rattle.esr_agreement.specs.Agreement.{are_served}
use Rattle.esr_agreement.proofs.agreement.are_served.Given as goal

abbrev pub invariant-loop-told : goal.invariant-loop-told
invariant-loop-told l =
    are_served (map root_index_of l.indices) (map ref_of_code l.refs) l.uuid.number ≡ are_served (map root_index_of l.indices) (map ref_of_code (drop l.told-index l.refs)) l.uuid.number
