use Rattle.std.proofs.Common.{is_ok, sym, subst}
use Rattle.esr_record.specs.Op.{AreOps, IsOp, last_op}
use Rattle.esr_record.proofs.Rising.{AreOps_tried}
use Rattle.esr_record.proofs.ops.RecordOps.push.Goals as goal

pub invariant_of-self : goal.invariant_of-self
invariant_of-self c =
    let next : IsOp (last_op c.self.inside.items.items) c.args.op = rw c.self.view_is c.requires in
    subst (AreOps 0) (sym c.push.ensures.items) (AreOps_tried (is_ok c.push.result) c.self.inside.items.items c.args.op c.self.invariant next)
