use Rattle.std.proofs.Common.{map, ap, ◌∙◌}
use Rattle.std.proofs.lemmas.List.{take_all}
use Rattle.esr_formats.specs.Ids.{number_of}
use Rattle.esr_accept.specs.AskedDeletes.{aborted_by}
use Rattle.esr_accept.proofs.DeletePlans.{map_more}
use Rattle.esr_accept.proofs.delete.aborted_ops.Goals as goal

pub loop-op-preserved : goal.loop-op-preserved
loop-op-preserved c =
    map_more (aborted_by c.args.tickets.now c.args.term (map number_of c.args.uuids.now) c.args.by) c.args.ops.now c.loop-op.op-index
    c.op-item.result c.loop-op-test.true c.op-item.is c.loop-op.copy.items c.in_ok-aborted.field-0 c.push.new.self.items c.loop-op.invariant
    c.in_ok-aborted.ensures c.in_ok-push.ensures.items

pub returns : goal.returns
returns c = c.loop-op.invariant ∙ ap (map (aborted_by c.args.tickets.now c.args.term (map number_of c.args.uuids.now) c.args.by)) (take_all c.loop-op.op-index c.args.ops.now c.loop-op-test.false)
