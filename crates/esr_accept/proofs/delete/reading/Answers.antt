use Rattle.std.proofs.Common.{ℕ, List, Some, true, false, map, sym, ap, ◌∙◌, refl}
use Rattle.esr_model.specs.Shelf.{names_uuid}
use Rattle.esr_formats.specs.Ids.{number_of}
use Rattle.esr_ops.specs.Plan.{RestorePlan}
use Rattle.esr_accept.specs.AskedDeletes.{reading}
use Rattle.esr_accept.proofs.Firsts.{first_step}
use Rattle.esr_accept.proofs.delete.reading.Goals as goal

pub returns-then-names : goal.returns-then-names
returns-then-names c =
    let uuids = map number_of c.args.uuids.now in
    ap Some c.number.ensures
    ∙ sym (c.loop-restore.invariant ∙ first_step (λ (xs : List (ℕ × RestorePlan)). reading xs uuids) (λ (e : ℕ × RestorePlan). names_uuid uuids e.1.uuid) (λ (e : ℕ × RestorePlan). e.0) (λ e es. refl)
    c.args.restores.now c.loop-restore.restore-index c.restore-item.result true c.loop-restore-test.true c.restore-item.is (ap (names_uuid uuids) (sym c.uuid.ensures) ∙ sym c.names.ensures ∙ c.if-names.true))

pub loop-restore-preserved : goal.loop-restore-preserved
loop-restore-preserved c =
    let uuids = map number_of c.args.uuids.now in
    c.loop-restore.invariant ∙ first_step (λ (xs : List (ℕ × RestorePlan)). reading xs uuids) (λ (e : ℕ × RestorePlan). names_uuid uuids e.1.uuid) (λ (e : ℕ × RestorePlan). e.0) (λ e es. refl)
    c.args.restores.now c.loop-restore.restore-index c.restore-item.result false c.loop-restore-test.true c.restore-item.is (ap (names_uuid uuids) (sym c.uuid.ensures) ∙ sym c.names.ensures ∙ c.if-names.false)
