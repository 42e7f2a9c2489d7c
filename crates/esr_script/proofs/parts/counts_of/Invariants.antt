use Rattle.std.proofs.Common.{◌≡◌, [], drop}
use Rattle.esr_script.specs.Items.{read_from, part_shards}
use Rattle.esr_script.specs.Numbers.{number_in}
use Rattle.esr_script.specs.declared.refusal.Why.TheVariants.{Number}
use Rattle.esr_script.proofs.parts.counts_of.Given as goal

abbrev pub invariant-loop-part : goal.invariant-loop-part
invariant-loop-part l =
    read_from (λ part. number_in 1 1024 (part_shards part)) Number [] l.parts
    ≡ read_from (λ part. number_in 1 1024 (part_shards part)) Number l.counts (drop l.part-index l.parts)
