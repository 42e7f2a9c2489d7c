use Rattle.std.proofs.Common.{ℕ, ap, sym, subst}
use Rattle.std.specs.Prelude.{IfSome, slice_get}
use Rattle.esr_core.specs.World.{Op}
use Rattle.esr_ops.specs.declared.unit.Work.{Work}
use Rattle.esr_ops.specs.Ops.{IsShardWork}
use Rattle.esr_ops.proofs.OpenOps.{parts_given}
use Rattle.esr_ops.proofs.open_op.OpenOp.shard_work.Goals as goal

pub returns : goal.returns
returns c =
    let op : Op = c.args.self.now.1 in
    subst (λ (work : Work). IfSome (slice_get op.shards c.args.at) (λ s. IsShardWork op s work)) (sym c.work_by_source.ensures)
    (parts_given op c.self.inside.making.uuid c.in_ok-shard.shard c.in_ok-shard.index c.in_ok-shard.place c.self.inside.source (sym (ap (λ (v : ℕ × Op). v.1.source) c.self.view_is)) (ap (λ (v : ℕ × Op). v.1.uuid) c.self.view_is)
    (slice_get op.shards c.args.at) c.in_ok-shard.ensures)
