use Rattle.std.proofs.Common.{◌≡◌, drop, map}
use Rattle.esr_formats.specs.Refs.{ref_of_code}
use Rattle.esr_formats.specs.Roots.{root_index_of}
use Rattle.esr_agreement.specs.Agreement.{has_ref}
use Rattle.esr_agreement.proofs.agreement.has_ref.Given as goal

abbrev pub invariant-loop-told : goal.invariant-loop-told
invariant-loop-told l = has_ref (map ref_of_code l.refs) (root_index_of l.index) ≡ has_ref (map ref_of_code (drop l.told-index l.refs)) (root_index_of l.index)
