use Rattle.std.proofs.Common.{refl}
use Rattle.esr_ops.specs.declared.shard.ShardState.TheVariants as states
use Rattle.esr_ops.proofs.OpenRestores.{reads-marked, kept-marked}
use Rattle.esr_ops.proofs.restore.OpenRestore.end.Goals as goal

pub invariant_of-self : goal.invariant_of-self
invariant_of-self c = rw c.mark.ensures (kept-marked _ _ c.self.invariant c.args.ticket states.GivenUp)

pub returns : goal.returns
returns c = rw (← c.self.view_is, c.mark.ensures) (rw reads-marked refl)
