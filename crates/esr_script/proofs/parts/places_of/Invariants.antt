use Rattle.std.proofs.Common.{◌≡◌, [], drop}
use Rattle.esr_script.specs.Items.{read_from, place, part_place}
use Rattle.esr_script.specs.declared.refusal.Why.TheVariants.{Place}
use Rattle.esr_script.proofs.parts.places_of.Given as goal

abbrev pub invariant-loop-part : goal.invariant-loop-part
invariant-loop-part l =
    read_from (λ part. place (part_place part)) Place [] l.parts
    ≡ read_from (λ part. place (part_place part)) Place l.places (drop l.part-index l.parts)
