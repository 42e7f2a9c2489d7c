use Rattle.std.proofs.Common.{◌≡◌, List, inr, false, refl, sym, ap, ◌∙◌, subst}
use Rattle.esr_core.specs.World.{Ticket}
use Rattle.esr_core.specs.Entry.{SettleStep, FinishStep, WasSettled, HasEnded, Moment}
use Rattle.esr_desk.specs.declared.unit.UnitRefusal.TheVariants.{Stopped}
use Rattle.esr_desk.specs.Start.{ticket_of}
use Rattle.esr_desk.specs.Taken.{IsSettled}
use Rattle.esr_desk.specs.Told.{settle_fresh}
use Rattle.esr_desk.specs.Evidence.{evidence}
use Rattle.esr_desk.specs.Grew.{GrewBy, grew_by_on, outcome_grew_by}
use Rattle.esr_unit.specs.declared.trouble.Trouble.TheVariants.{Step}
use Rattle.esr_unit.specs.Refusals.{passed_on}
use Rattle.esr_finish.specs.Ticket.{IsUnsettledMaster}
use Rattle.esr_finish.specs.Refused.{IsHalted, is_fault}
use Rattle.esr_finish.specs.Runs.{taken_on}
use Rattle.esr_finish.proofs.Swaps.{settled_ends}
use Rattle.esr_finish.proofs.Stopping.{writing_refused, put_shown, put_ends, master_out, finish_stops}
use Rattle.esr_finish.specs.Stops.{unsettled_same}
use Rattle.esr_finish.proofs.Ends.{settle_halted}
use Rattle.esr_finish.proofs.unit.settle.Goals as goal
use Rattle.esr_finish.proofs.unit.settle.Goals.{In-Ok, In-Err}

-- ---- the settle

pub settle-requires-clause-new : goal.settle-requires-clause-new
settle-requires-clause-new g c = settle_fresh g.Q.Desk.start (g.Q.Desk.seen c.args.desk.now) c.args.ticket c.requires.tells c.requires.masters.fails.unsettled

pub settle-requires-clause-unpruned : goal.settle-requires-clause-unpruned
settle-requires-clause-unpruned g c = c.requires.masters.fails.unpruned

-- ---- the end

-- the history goes on from the settle
settled_grew : (g : _) (c : In-Ok g) (new : List Moment) → GrewBy g.Q.Desk.start c.args.ticket (g.Q.Desk.seen c.settle.new.self) new → GrewBy g.Q.Desk.start c.args.ticket (g.Q.Desk.seen c.args.desk.now) new
settled_grew g c new more =
    let s = g.Q.Desk.start in
    let old = g.Q.Desk.seen c.args.desk.now in
    let mid = g.Q.Desk.seen c.settle.new.self in
    grew_by_on s c.args.ticket old mid new (outcome_grew_by s old mid c.args.ticket SettleStep (λ x. WasSettled) c.settle.result c.settle.ensures.step) more

pub finish-requires-clause-mine : goal.finish-requires-clause-mine
finish-requires-clause-mine g c = taken_on (g.Q.Desk.calls c.args.desk.now) (g.Q.Desk.calls c.settle.new.self) c.args.ticket c.settle.ensures.calls c.requires.mine

pub finish-requires-clause-may : goal.finish-requires-clause-may
finish-requires-clause-may g c =
    let s = g.Q.Desk.start in
    settled_ends s (g.Q.Desk.seen c.settle.new.self) c.args.ticket (ticket_of s (g.Q.Desk.seen c.args.desk.now) c.args.ticket) c.requires.masters c.in-Ok.ensures.own

pub returns-in_ok-finish-in-Ok-clause-ok : goal.returns-in_ok-finish-in-Ok-clause-ok
returns-in_ok-finish-in-Ok-clause-ok g c = c.in_ok-finish-in-Ok.ensures.own ∙ ap (λ (t : Ticket). record t { out = false }) c.in-Ok.ensures.own

pub returns-in_ok-finish-in-Ok-clause-grew : goal.returns-in_ok-finish-in-Ok-clause-grew
returns-in_ok-finish-in-Ok-clause-grew g c =
    let new = g.Q.Desk.seen c.finish.new.self in
    settled_grew g (goal.at.returns-in_ok-finish-in-Ok-clause-grew g c).In-Ok new (outcome_grew_by g.Q.Desk.start (g.Q.Desk.seen c.settle.new.self) new c.args.ticket FinishStep (λ x. HasEnded) c.finish.result c.finish.ensures.step)

pub returns-in_err-finish-in-Ok-clause-refused : goal.returns-in_err-finish-in-Ok-clause-refused
returns-in_err-finish-in-Ok-clause-refused g c =
    let s = g.Q.Desk.start in
    let old = g.Q.Desk.seen c.args.desk.now in
    let mid = g.Q.Desk.seen c.settle.new.self in
    let new = g.Q.Desk.seen c.finish.new.self in
    let who = c.args.ticket in
    let e = evidence g.Q.Stage.Counted.faults g.Q.Fetch.Counted.faults g.Q.Shard.Counted.faults g.Q.Target.Counted.faults g.Q.Shard.Shard.told g.Q.Target.Target.told in
    let refusal = c.in_err-finish-in-Ok.field-0.0 in
    let settled = c.in_err-finish-in-Ok.ensures.kept ∙ c.in-Ok.ensures.own in
    passed_on c.from_residual.result (IsHalted e s old new who) (Stopped refusal) c.from_residual.ensures.1
    (inr settled, finish_stops s mid new who refusal c.refusals_are_of_their_steps.ensures (ap (λ (t : Ticket). t.settled) settled) c.in_err-finish-in-Ok.ensures.step)

pub returns-in_err-finish-in-Ok-clause-grew : goal.returns-in_err-finish-in-Ok-clause-grew
returns-in_err-finish-in-Ok-clause-grew g c =
    let new = g.Q.Desk.seen c.finish.new.self in
    settled_grew g (goal.at.returns-in_err-finish-in-Ok-clause-grew g c).In-Ok new (outcome_grew_by g.Q.Desk.start (g.Q.Desk.seen c.settle.new.self) new c.args.ticket FinishStep (λ x. HasEnded) c.finish.result c.finish.ensures.step)

-- ---- it was refused

-- unless its record swap failed the ticket is as it was
masters_at : (g : _) (c : In-Err g) → is_fault c.in-Err.refusal ≡ false → IsUnsettledMaster (ticket_of g.Q.Desk.start (g.Q.Desk.seen c.settle.new.self) c.args.ticket)
masters_at g c other =
    let s = g.Q.Desk.start in
    let t0 = ticket_of s (g.Q.Desk.seen c.args.desk.now) c.args.ticket in
    let t1 = ticket_of s (g.Q.Desk.seen c.settle.new.self) c.args.ticket in
    subst IsUnsettledMaster (sym (unsettled_same (IsSettled t0) c.in-Err.refusal t0 t1 other c.in-Err.ensures.kept)) c.requires.masters

pub end_swap-requires-clause-mine : goal.end_swap-requires-clause-mine
end_swap-requires-clause-mine g c κs within = taken_on (g.Q.Desk.calls c.args.desk.now) (g.Q.Desk.calls c.settle.new.self) c.args.ticket c.settle.ensures.calls c.requires.mine

pub end_swap-requires-clause-may : goal.end_swap-requires-clause-may
end_swap-requires-clause-may g c κs within = masters_at g (goal.at.end_swap-requires-clause-may g c).In-Err

pub end_swap-requires-clause-shown : goal.end_swap-requires-clause-shown
end_swap-requires-clause-shown g c κs within = λ other.
    let s = g.Q.Desk.start in
    let old = g.Q.Desk.seen c.args.desk.now in
    let mid = g.Q.Desk.seen c.settle.new.self in
    let who = c.args.ticket in
    let e = evidence g.Q.Stage.Counted.faults g.Q.Fetch.Counted.faults g.Q.Shard.Counted.faults g.Q.Target.Counted.faults g.Q.Shard.Shard.told g.Q.Target.Target.told in
    let masters = masters_at g (goal.at.end_swap-requires-clause-shown g c).In-Err other in
    let refused = writing_refused {S = g.row.Q-Stage.Denot} g.row.Q-Fetch.Denot s g.Q.Stage.Counted.faults old mid who SettleStep c.in-Err.refusal tt (λ fault. refl) c.in-Err.ensures.step in
    put_shown e s mid who (Step c.in-Err.refusal) c.refusals_are_of_their_steps.ensures (master_out s mid who masters) refused

pub end_swap-requires-clause-cause : goal.end_swap-requires-clause-cause
end_swap-requires-clause-cause g c κs within = λ other.
    let s = g.Q.Desk.start in
    let old = g.Q.Desk.seen c.args.desk.now in
    let mid = g.Q.Desk.seen c.settle.new.self in
    let who = c.args.ticket in
    let refused = writing_refused {S = g.row.Q-Stage.Denot} g.row.Q-Fetch.Denot s g.Q.Stage.Counted.faults old mid who SettleStep c.in-Err.refusal tt (λ fault. refl) c.in-Err.ensures.step in
    put_ends {S = g.row.Q-Stage.Denot} {F = g.row.Q-Fetch.Denot} g.row.Q-Shard.Denot g.row.Q-Target.Denot s g.Q.Stage.Counted.faults mid who (Step c.in-Err.refusal) c.refusals_are_of_their_steps.ensures refused

pub returns-in-Err-clause-refused : goal.returns-in-Err-clause-refused
returns-in-Err-clause-refused g c =
    settle_halted (evidence g.Q.Stage.Counted.faults g.Q.Fetch.Counted.faults g.Q.Shard.Counted.faults g.Q.Target.Counted.faults g.Q.Shard.Shard.told g.Q.Target.Target.told)
    g.Q.Desk.start (g.Q.Desk.seen c.args.desk.now) (g.Q.Desk.seen c.settle.new.self) (g.Q.Desk.seen c.end_swap.new.desk) c.args.ticket c.in-Err.refusal c.end_swap.result c.in-Err.ensures.kept c.in-Err.ensures.step c.end_swap.ensures.ended

pub returns-in-Err-clause-grew : goal.returns-in-Err-clause-grew
returns-in-Err-clause-grew g c =
    let s = g.Q.Desk.start in
    let old = g.Q.Desk.seen c.args.desk.now in
    let mid = g.Q.Desk.seen c.settle.new.self in
    let who = c.args.ticket in
    grew_by_on s who old mid (g.Q.Desk.seen c.end_swap.new.desk) (outcome_grew_by s old mid who SettleStep (λ x. WasSettled) c.settle.result c.settle.ensures.step) c.end_swap.ensures.grew

pub returns-in_ok-finish-in-Ok-clause-calls : goal.returns-in_ok-finish-in-Ok-clause-calls
returns-in_ok-finish-in-Ok-clause-calls g c = c.finish.ensures.calls ∙ c.settle.ensures.calls

pub returns-in_err-finish-in-Ok-clause-calls : goal.returns-in_err-finish-in-Ok-clause-calls
returns-in_err-finish-in-Ok-clause-calls g c = c.finish.ensures.calls ∙ c.settle.ensures.calls

pub returns-in-Err-clause-calls : goal.returns-in-Err-clause-calls
returns-in-Err-clause-calls g c = c.end_swap.ensures.calls ∙ c.settle.ensures.calls
