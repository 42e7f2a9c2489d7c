use Rattle.std.proofs.Common.{ℕ, Some, true, false, sym, ap, ◌∙◌, refl}
use Rattle.esr_core.specs.World.{Deletion}
use Rattle.esr_core.specs.Deletes.{first_delete}
use Rattle.esr_accept.specs.AskedDeletes.{waits_in}
use Rattle.esr_accept.proofs.Firsts.{first_step}
use Rattle.esr_accept.proofs.delete.waiting.Goals as goal

pub returns-then-waits : goal.returns-then-waits
returns-then-waits c =
    let test = waits_in c.args.tickets.now c.args.term in
    ap Some c.number.ensures
    ∙ sym (c.loop-delete.invariant ∙ first_step (first_delete test) test (λ (e : ℕ × Deletion). e.0) (λ e es. refl)
    c.args.deletes.now c.loop-delete.delete-index c.delete-item.result true c.loop-delete-test.true c.delete-item.is (sym c.waits.ensures ∙ c.if-waits.true))

pub loop-delete-preserved : goal.loop-delete-preserved
loop-delete-preserved c =
    let test = waits_in c.args.tickets.now c.args.term in
    c.loop-delete.invariant ∙ first_step (first_delete test) test (λ (e : ℕ × Deletion). e.0) (λ e es. refl)
    c.args.deletes.now c.loop-delete.delete-index c.delete-item.result false c.loop-delete-test.true c.delete-item.is (sym c.waits.ensures ∙ c.if-waits.false)
