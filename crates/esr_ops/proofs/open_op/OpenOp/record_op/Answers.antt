use Rattle.std.proofs.Common.{ℕ, option_map, ap, ◌∙◌, sym, subst}
use Rattle.esr_record.specs.declared.op.Making.{Making}
use Rattle.esr_record.specs.Op.{IsMaking}
use Rattle.esr_core.specs.World.{Op, work_of}
use Rattle.esr_formats.specs.Ids.{number_of}
use Rattle.esr_model.specs.Values.{RecordWork}
use Rattle.esr_ops.specs.Ops.{making_told}
use Rattle.esr_ops.proofs.OpenOps.{told_is}
use Rattle.esr_ops.proofs.open_op.OpenOp.record_op.Goals as goal

pub making_work-requires : goal.making_work-requires
making_work-requires c = subst IsMaking (sym c.in_ok-info.ensures) c.self.invariant.making

pub returns-clause-told : goal.returns-clause-told
returns-clause-told c =
    let s = c.self.inside in
    ap (λ (w : RecordWork). (s.number, w))
    (c.making_work.ensures.told ∙ ap (λ (m : Making). making_told m (option_map number_of s.source)) c.in_ok-info.ensures ∙ told_is s.making s.places s.shards.items s.failed s.source s.aborted)
    ∙ ap (λ (v : ℕ × Op). (v.0, work_of v.1)) c.self.view_is

pub returns-clause-valid : goal.returns-clause-valid
returns-clause-valid c = c.making_work.ensures.valid
