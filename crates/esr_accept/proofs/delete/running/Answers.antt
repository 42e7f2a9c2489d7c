use Rattle.std.proofs.Common.{ℕ, Some, true, false, map, sym, ap, ◌∙◌, refl}
use Rattle.esr_core.specs.World.{Deletion}
use Rattle.esr_core.specs.Deletes.{first_delete}
use Rattle.esr_formats.specs.Ids.{number_of}
use Rattle.esr_formats.specs.Roots.{root_snap_of}
use Rattle.esr_accept.specs.AskedDeletes.{runs_in}
use Rattle.esr_accept.proofs.Firsts.{first_step}
use Rattle.esr_accept.proofs.delete.running.Goals as goal

pub returns-then-runs_for : goal.returns-then-runs_for
returns-then-runs_for c =
    let test = runs_in (map root_snap_of c.args.snaps.now) c.args.tickets.now c.args.term (map number_of c.args.uuids.now) in
    ap Some c.number.ensures
    ∙ sym (c.loop-delete.invariant ∙ first_step (first_delete test) test (λ (e : ℕ × Deletion). e.0) (λ e es. refl)
    c.args.deletes.now c.loop-delete.delete-index c.delete-item.result true c.loop-delete-test.true c.delete-item.is (sym c.runs_for.ensures ∙ c.if-runs_for.true))

pub loop-delete-preserved : goal.loop-delete-preserved
loop-delete-preserved c =
    let test = runs_in (map root_snap_of c.args.snaps.now) c.args.tickets.now c.args.term (map number_of c.args.uuids.now) in
    c.loop-delete.invariant ∙ first_step (first_delete test) test (λ (e : ℕ × Deletion). e.0) (λ e es. refl)
    c.args.deletes.now c.loop-delete.delete-index c.delete-item.result false c.loop-delete-test.true c.delete-item.is (sym c.runs_for.ensures ∙ c.if-runs_for.false)
