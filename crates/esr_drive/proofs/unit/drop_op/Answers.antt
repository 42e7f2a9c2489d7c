use Rattle.std.proofs.Common.{◌≡◌, true, sym, ◌∙◌}
use Rattle.esr_core.specs.World.{Drop}
use Rattle.esr_core.specs.Entry.{DroppedStep, HasEnded}
use Rattle.esr_desk.specs.Start.{ticket_of}
use Rattle.esr_desk.specs.Told.{none_tells, drop_fresh}
use Rattle.esr_desk.specs.Grew.{grew_by_on, outcome_grew_by}
use Rattle.esr_drive.proofs.Halting.{drop_halted, late_over}
use Rattle.esr_drive.proofs.Ended.{took_out, took_drop}
use Rattle.esr_drive.proofs.unit.drop_op.Goals as goal
use Rattle.esr_drive.proofs.unit.drop_op.Goals.{In-Err}

is_drop : (g : _) (c : In-Err g) → (ticket_of g.Q.Desk.start (g.Q.Desk.seen c.args.desk.now) c.args.unit.now.ready.ticket).work ≡ Drop
is_drop g c =
    let unit = c.args.unit.now in
    took_drop unit.ready.work unit.new_root unit.ready.op unit.ready.copy (ticket_of g.Q.Desk.start (g.Q.Desk.seen c.args.desk.now) unit.ready.ticket) c.requires.work c.requires.fresh

is_out : (g : _) (c : In-Err g) → (ticket_of g.Q.Desk.start (g.Q.Desk.seen c.args.desk.now) c.args.unit.now.ready.ticket).out ≡ true
is_out g c =
    let unit = c.args.unit.now in
    took_out unit.ready.work unit.new_root unit.ready.op unit.ready.copy (ticket_of g.Q.Desk.start (g.Q.Desk.seen c.args.desk.now) unit.ready.ticket) c.requires.fresh

pub end_drop-requires-clause-may : goal.end_drop-requires-clause-may
end_drop-requires-clause-may g c =
    let unit = c.args.unit.now in
    let t = ticket_of g.Q.Desk.start (g.Q.Desk.seen c.args.desk.now) unit.ready.ticket in
    record { out = took_out unit.ready.work unit.new_root unit.ready.op unit.ready.copy t c.requires.fresh; work = took_drop unit.ready.work unit.new_root unit.ready.op unit.ready.copy t c.requires.work c.requires.fresh }

pub end_drop-requires-clause-new : goal.end_drop-requires-clause-new
end_drop-requires-clause-new g c =
    let log = g.Q.Desk.seen c.args.desk.now in
    let who = c.args.unit.now.ready.ticket in
    drop_fresh g.Q.Desk.start log who (none_tells g.Q.Desk.start log who c.requires.new)

-- ---- its term is over

pub end_stale-requires-clause-over : goal.end_stale-requires-clause-over
end_stale-requires-clause-over g c κs within =
    let in_err = (goal.at.end_stale-requires-clause-over g c).In-Err in
    (late_over c.laws.ensures g.Q.Desk.start (g.Q.Desk.seen c.args.desk.now) (g.Q.Desk.seen c.end_drop.new.self) c.args.unit.now.ready.ticket (is_drop g in_err) c.in-Err.refusal c.in-Err.ensures.step c.in-Err.ensures.kept
    (sym c.is_late.ensures ∙ c.if-is_late.true) (is_out g in_err)).0

pub end_stale-requires-clause-work : goal.end_stale-requires-clause-work
end_stale-requires-clause-work g c κs within =
    let in_err = (goal.at.end_stale-requires-clause-work g c).In-Err in
    (late_over c.laws.ensures g.Q.Desk.start (g.Q.Desk.seen c.args.desk.now) (g.Q.Desk.seen c.end_drop.new.self) c.args.unit.now.ready.ticket (is_drop g in_err) c.in-Err.refusal c.in-Err.ensures.step c.in-Err.ensures.kept
    (sym c.is_late.ensures ∙ c.if-is_late.true) (is_out g in_err)).1

pub returns-then-is_late-clause-grew : goal.returns-then-is_late-clause-grew
returns-then-is_late-clause-grew g c =
    let s = g.Q.Desk.start in
    let old = g.Q.Desk.seen c.args.desk.now in
    let mid = g.Q.Desk.seen c.end_drop.new.self in
    let who = c.args.unit.now.ready.ticket in
    grew_by_on s who old mid (g.Q.Desk.seen c.end_stale.new.desk) (outcome_grew_by s old mid who DroppedStep (λ x. HasEnded) c.end_drop.result c.end_drop.ensures.step) c.end_stale.ensures.grew

pub returns-then-is_late-clause-calls : goal.returns-then-is_late-clause-calls
returns-then-is_late-clause-calls g c = c.end_stale.ensures.calls ∙ c.end_drop.ensures.calls

-- ---- it was refused for another reason

pub returns-else-is_late-clause-stopped : goal.returns-else-is_late-clause-stopped
returns-else-is_late-clause-stopped g c =
    drop_halted c.laws.ensures g.Q.Desk.start (g.Q.Desk.seen c.args.desk.now) (g.Q.Desk.seen c.end_drop.new.self) c.args.unit.now.ready.ticket
    (is_drop g (goal.at.returns-else-is_late-clause-stopped g c).In-Err) c.in-Err.refusal c.in-Err.ensures.step c.in-Err.ensures.kept
    (sym c.is_late.ensures ∙ c.if-is_late.false)

pub returns-else-is_late-clause-grew : goal.returns-else-is_late-clause-grew
returns-else-is_late-clause-grew g c =
    outcome_grew_by g.Q.Desk.start (g.Q.Desk.seen c.args.desk.now) (g.Q.Desk.seen c.end_drop.new.self) c.args.unit.now.ready.ticket DroppedStep (λ x. HasEnded) c.end_drop.result c.end_drop.ensures.step

-- ---- it was taken away

pub returns-in-Ok-clause-grew : goal.returns-in-Ok-clause-grew
returns-in-Ok-clause-grew g c =
    outcome_grew_by g.Q.Desk.start (g.Q.Desk.seen c.args.desk.now) (g.Q.Desk.seen c.end_drop.new.self) c.args.unit.now.ready.ticket DroppedStep (λ x. HasEnded) c.end_drop.result c.end_drop.ensures.step
