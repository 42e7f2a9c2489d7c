use Rattle.std.proofs.Common.{◌≡◌, ◌+◌, List, map, length, ap, ◌∙◌, arith}
use Rattle.esr_record.specs.declared.op.RecordOp.{RecordOp}
use Rattle.esr_core.specs.World.{kept_deletes}
use Rattle.esr_formats.specs.Clusters.{op_of}
use Rattle.esr_ops.specs.Deletes.{kept_from}
use Rattle.esr_progress.proofs.Reopening.{kept_progress, kept_is}
use Rattle.esr_progress.proofs.progress.Progress.reopened.Goals as goal

pub invariant_of-result : goal.invariant_of-result
invariant_of-result c =
    let kept = c.in_ok-deletes.ensures.kept ∙ ap (λ (os : List RecordOp). kept_from 1 (kept_deletes (map op_of os))) c.as_slice.ensures.items in
    let next : c.len.result + 1 ≡ length c.in_ok-deletes.deletes.items + 1 = omega (arith, c.len.ensures) in
    kept_progress (kept_deletes (map op_of c.args.ops.now)) c.in_ok-deletes.deletes.items (c.len.result + 1) kept next c.in_ok-deletes.ensures.few c.new.result.items c.new.ensures.items c.new-4.result.items c.new-4.ensures.items

pub returns-clause-list : goal.returns-clause-list
returns-clause-list c =
    let kept = c.in_ok-deletes.ensures.kept ∙ ap (λ (os : List RecordOp). kept_from 1 (kept_deletes (map op_of os))) c.as_slice.ensures.items in
    let next : c.len.result + 1 ≡ length c.in_ok-deletes.deletes.items + 1 = omega (arith, c.len.ensures) in
    kept_is (kept_deletes (map op_of c.args.ops.now)) c.in_ok-deletes.deletes.items
    (c.len.result + 1) kept next c.new.result.items c.new.ensures.items c.new-2.result.items c.new-2.ensures.items c.new-3.result c.new-3.ensures c.new-4.result.items c.new-4.ensures.items
