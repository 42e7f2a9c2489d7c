use Rattle.std.proofs.Common.{◌≡◌, drop, map}
use Rattle.esr_formats.specs.Refs.{ref_of_code}
use Rattle.esr_formats.specs.Roots.{root_index_of}
use Rattle.esr_agreement.specs.Agreement.{are_told}
use Rattle.esr_agreement.proofs.agreement.are_told.Given as goal

abbrev pub invariant-loop-index : goal.invariant-loop-index
invariant-loop-index l =
    are_told (map root_index_of l.indices) (map ref_of_code l.refs) l.uuid.number ≡ are_told (map root_index_of (drop l.index-index l.indices)) (map ref_of_code l.refs) l.uuid.number
