use Rattle.std.proofs.Common.{ℕ, List, Some, true, false, map, sym, ap, ◌∙◌, refl}
use Rattle.esr_core.specs.World.{Op}
use Rattle.esr_formats.specs.Ids.{number_of}
use Rattle.esr_accept.specs.AskedDeletes.{copies, copying}
use Rattle.esr_accept.proofs.Firsts.{first_step}
use Rattle.esr_accept.proofs.delete.copying.Goals as goal

pub returns-then-copies : goal.returns-then-copies
returns-then-copies c =
    let uuids = map number_of c.args.uuids.now in
    ap Some c.number.ensures
    ∙ sym (c.loop-op.invariant ∙ first_step (λ (xs : List (ℕ × Op)). copying xs uuids) (λ (e : ℕ × Op). copies uuids e.1.source) (λ (e : ℕ × Op). e.0) (λ e es. refl)
    c.args.ops.now c.loop-op.op-index c.op-item.result true c.loop-op-test.true c.op-item.is (sym c.copies.ensures ∙ c.if-copies.true))

pub loop-op-preserved : goal.loop-op-preserved
loop-op-preserved c =
    let uuids = map number_of c.args.uuids.now in
    c.loop-op.invariant ∙ first_step (λ (xs : List (ℕ × Op)). copying xs uuids) (λ (e : ℕ × Op). copies uuids e.1.source) (λ (e : ℕ × Op). e.0) (λ e es. refl)
    c.args.ops.now c.loop-op.op-index c.op-item.result false c.loop-op-test.true c.op-item.is (sym c.copies.ensures ∙ c.if-copies.false)
