use Rattle.std.proofs.Common.{refl}
use Rattle.esr_ops.proofs.OpenRestores.{reads-given, kept-given}
use Rattle.esr_ops.proofs.restore.OpenRestore.give.Goals as goal

pub invariant_of-self : goal.invariant_of-self
invariant_of-self c = rw c.give.ensures (kept-given _ _ c.self.invariant c.args.ticket c.args.shard)

pub returns : goal.returns
returns c = rw (← c.self.view_is, c.give.ensures) (rw reads-given refl)
