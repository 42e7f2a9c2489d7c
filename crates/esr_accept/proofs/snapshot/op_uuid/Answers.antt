use Rattle.std.proofs.Common.{ℕ, List, Some, true, false, sym, ap, ◌∙◌, refl}
use Rattle.esr_model.specs.Values.{Bytes}
use Rattle.esr_model.specs.Uploads.{same_bytes}
use Rattle.esr_core.specs.World.{Op}
use Rattle.esr_accept.specs.Asking.{op_uuid}
use Rattle.esr_ops.specs.Lists.{same_bytes-is}
use Rattle.esr_accept.proofs.Firsts.{first_step}
use Rattle.esr_accept.proofs.snapshot.op_uuid.Goals as goal

pub returns-then-eq : goal.returns-then-eq
returns-then-eq c =
    let x = c.op-item.result in
    let name = c.args.name.now in
    let m = c.making-making.result.now in
    ap Some (sym c.making-making.ensures.uuid)
    ∙ sym (c.loop-op.invariant ∙ first_step (λ (xs : List (ℕ × Op)). op_uuid xs name) (λ (e : ℕ × Op). same_bytes e.1.name name) (λ (e : ℕ × Op). e.1.uuid) (λ e es. refl)
    c.args.ops.now c.loop-op.op-index x true c.loop-op-test.true c.op-item.is (ap (λ (b : Bytes). same_bytes b name) c.making-making.ensures.name ∙ same_bytes-is m.name name ∙ sym c.eq.ensures ∙ c.if-eq.true))

pub loop-op-preserved : goal.loop-op-preserved
loop-op-preserved c =
    let x = c.op-item.result in
    let name = c.args.name.now in
    let m = c.making-making.result.now in
    c.loop-op.invariant ∙ first_step (λ (xs : List (ℕ × Op)). op_uuid xs name) (λ (e : ℕ × Op). same_bytes e.1.name name) (λ (e : ℕ × Op). e.1.uuid) (λ e es. refl)
    c.args.ops.now c.loop-op.op-index x false c.loop-op-test.true c.op-item.is (ap (λ (b : Bytes). same_bytes b name) c.making-making.ensures.name ∙ same_bytes-is m.name name ∙ sym c.eq.ensures ∙ c.if-eq.false)
