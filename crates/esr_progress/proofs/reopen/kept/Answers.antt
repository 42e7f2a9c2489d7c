use Rattle.std.proofs.Common.{refl, sym, subst, arith}
use Rattle.esr_progress.proofs.Reopening.{AreKept, work_here, more_kept, all_kept}
use Rattle.esr_progress.proofs.reopen.kept.Goals as goal

pub loop-op-init : goal.loop-op-init
loop-op-init c = subst (AreKept c.args.ops.now 0) (sym c.new-deletes.ensures.items) (record { rest = refl; few = omega arith })

pub keep-requires : goal.keep-requires
keep-requires c = work_here c.args.ops.now c.loop-op.op-index c.loop-op.deletes.items c.op-item.result c.loop-op-test.true c.op-item.is c.requires

pub loop-op-preserved : goal.loop-op-preserved
loop-op-preserved c =
    more_kept c.args.ops.now c.loop-op.op-index c.loop-op.deletes.items c.op-item.result c.loop-op-test.true c.op-item.is c.loop-op.invariant c.keep.new.deletes.items c.in_ok-keep.ensures.kept c.in_ok-keep.ensures.few

pub returns-clause-kept : goal.returns-clause-kept
returns-clause-kept c = all_kept c.args.ops.now c.loop-op.op-index c.loop-op.deletes.items c.loop-op.invariant c.loop-op-test.false

pub returns-clause-few : goal.returns-clause-few
returns-clause-few c = c.loop-op.invariant.few
