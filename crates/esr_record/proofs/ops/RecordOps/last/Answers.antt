use Rattle.std.proofs.Common.{◌≡◌, ◌∙◌, ◌-◌, sym, ap, List, length, slice_get}
use Rattle.esr_record.specs.declared.op.RecordOp.{RecordOp}
use Rattle.esr_record.proofs.Rising.{last_from-at}
use Rattle.esr_record.proofs.ops.RecordOps.last.Goals as goal

pub returns-in-Some : goal.returns-in-Some
returns-in-Some c =
    let all = c.deref.ensures.value ∙ c.self.view_is in
    sym (last_from-at 0 c.args.self.now c.in-Some.op.now (sym (c.in-Some.ensures.value ∙ ap (λ (os : List RecordOp). slice_get os (length os - 1)) all)))
