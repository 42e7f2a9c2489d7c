use Rattle.std.proofs.Common.{arith, ◌<◌, length}
use Rattle.esr_names.specs.declared.ids.Id.{Id}
use Rattle.esr_shardidx.proofs.Repeats.{Holds-none, Holds-next}
use Rattle.esr_shardidx.proofs.marks.set_of.Goals as goal

pub loop-id-init : goal.loop-id-init
loop-id-init c = Holds-none (λ (u : Id). u.number) _ c.new-set.ensures.empty

pub loop-id-preserved : goal.loop-id-preserved
loop-id-preserved c =
    let within : c.loop-id.id-index < length c.args.ids.now = omega arith in
    Holds-next (λ (u : Id). u.number) _ _ c.args.ids.now c.loop-id.id-index _ within c.loop-id.invariant c.in_ok-insert.ensures.updates
