use Rattle.std.proofs.Common.{ℕ, Bool, Some, cond, sym, ap, ◌∙◌}
use Rattle.esr_core.specs.World.{Op}
use Rattle.esr_progress.specs.Lowest.{ok_maps}
use Rattle.esr_accept.proofs.delete.aborted.Goals as goal

pub returns-then-aborts : goal.returns-then-aborts
returns-then-aborts c =
    let op : ℕ × Op = c.args.op.now in
    let now : ℕ × Op = (op.0, record op.1 { aborted = Some c.args.by }) in
    ok_maps c.aborted_by.result c.aborted_by.ensures (λ o e. e ∙ ap (λ (b : Bool). cond b now op) (sym (sym c.aborts.ensures ∙ c.if-aborts.true)))

pub returns : goal.returns
returns c =
    let op : ℕ × Op = c.args.op.now in
    let now : ℕ × Op = (op.0, record op.1 { aborted = Some c.args.by }) in
    ok_maps c.try_clone.result c.try_clone.ensures (λ o e. e ∙ ap (λ (b : Bool). cond b now op) (sym (sym c.aborts.ensures ∙ c.if-aborts.false)))
