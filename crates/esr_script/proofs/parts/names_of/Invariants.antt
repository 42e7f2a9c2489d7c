use Rattle.std.proofs.Common.{◌≡◌, [], drop}
use Rattle.esr_script.specs.Items.{read_from, index_name, part_index}
use Rattle.esr_script.specs.declared.refusal.Why.TheVariants.{Name}
use Rattle.esr_script.proofs.parts.names_of.Given as goal

abbrev pub invariant-loop-part : goal.invariant-loop-part
invariant-loop-part l =
    read_from (λ part. index_name (part_index part)) Name [] l.parts
    ≡ read_from (λ part. index_name (part_index part)) Name l.names (drop l.part-index l.parts)
