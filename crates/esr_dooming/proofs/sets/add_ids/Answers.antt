use Rattle.std.proofs.Common.{subst}
use Rattle.esr_model.specs.Loops.{all}
use Rattle.esr_formats.specs.Ids.{number_of}
use Rattle.esr_dooming.proofs.Numbers.{IsAlso, also_none, also_next}
use Rattle.esr_dooming.proofs.sets.add_ids.Goals as goal

pub loop-id-init : goal.loop-id-init
loop-id-init c = also_none c.args.set.now

pub loop-id-preserved : goal.loop-id-preserved
loop-id-preserved c = also_next c.args.set.now c.loop-id.set c.insert.new.self c.args.ids.now c.loop-id.id-index _ c.loop-id-test.true c.loop-id.invariant c.in_ok-insert.ensures.updates

pub returns : goal.returns
returns c = subst (λ us. IsAlso c.args.set.now c.loop-id.set us) (all number_of c.args.ids.now c.loop-id.id-index c.loop-id-test.false) c.loop-id.invariant
