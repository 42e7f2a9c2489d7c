use Rattle.std.proofs.Common.{◌≡◌, Some, map, sym, ◌∙◌, subst}
use Rattle.esr_core.specs.Entry.{EndDelete, PruneStep, HasEnded}
use Rattle.esr_formats.specs.Names.{name_of}
use Rattle.esr_desk.specs.Start.{ticket_of}
use Rattle.esr_desk.specs.Halts.{Halts}
use Rattle.esr_desk.specs.Grew.{grew_by_on, outcome_grew_by}
use Rattle.esr_desk.specs.Delete.Conditions.{CanEndDelete}
use Rattle.esr_unit.specs.Refusals.{passed_on, on_err}
use Rattle.esr_finish.specs.Runs.{taken_on}
use Rattle.esr_delete.proofs.Clearing.{can_end, ended_ok, ended_kept}
use Rattle.esr_delete.proofs.Passing.{IsDeletes, ended_halts, removal_stops}
use Rattle.esr_delete.proofs.settle.clear.Goals as goal
use Rattle.esr_delete.proofs.settle.clear.Goals.{In_ok-remove_once}

may_end : (g : _) (c : In_ok-remove_once g) → CanEndDelete g.Q.Desk.start (g.Q.Desk.seen c.remove_once.new.desk) c.args.ticket
may_end g c =
    can_end g.Q.Desk.start (g.Q.Desk.seen c.args.desk.now) (g.Q.Desk.seen c.remove_once.new.desk) c.args.ticket
    (map name_of c.args.names.now) c.remove_once.ensures.own c.requires.over c.requires.mode c.requires.names c.in_ok-remove_once.ensures.removed

pub returns-in_err-remove_once-clause-kept : goal.returns-in_err-remove_once-clause-kept
returns-in_err-remove_once-clause-kept g c =
    let s = g.Q.Desk.start in
    let who = c.args.ticket in
    on_err c.from_residual.result (ticket_of s (g.Q.Desk.seen c.remove_once.new.desk) who ≡ ticket_of s (g.Q.Desk.seen c.args.desk.now) who) c.remove_once.ensures.own

pub returns-in_err-remove_once-clause-refused : goal.returns-in_err-remove_once-clause-refused
returns-in_err-remove_once-clause-refused g c =
    let s = g.Q.Desk.start in
    let new = g.Q.Desk.seen c.remove_once.new.desk in
    let who = c.args.ticket in
    let refusal = c.in_err-remove_once.field-0.0 in
    passed_on c.from_residual.result (Halts s new who) refusal c.from_residual.ensures.1 (removal_stops s new who refusal c.in_err-remove_once.ensures.refused)

pub end_delete-requires-clause-mine : goal.end_delete-requires-clause-mine
end_delete-requires-clause-mine g c = taken_on (g.Q.Desk.calls c.args.desk.now) (g.Q.Desk.calls c.remove_once.new.desk) c.args.ticket c.remove_once.ensures.calls c.requires.mine

pub end_delete-requires-clause-may : goal.end_delete-requires-clause-may
end_delete-requires-clause-may g c = may_end g (goal.at.end_delete-requires-clause-may g c).In_ok-remove_once

pub returns-clause-ok : goal.returns-clause-ok
returns-clause-ok g c =
    ended_ok g.Q.Desk.start (g.Q.Desk.seen c.args.desk.now) (g.Q.Desk.seen c.remove_once.new.desk) (g.Q.Desk.seen c.end_delete.new.self) c.args.ticket c.end_delete.result c.requires.mine.some c.remove_once.ensures.own
    (may_end g (goal.at.returns-clause-ok g c).In_ok-remove_once) c.end_delete.ensures.own c.end_delete.ensures.step

pub returns-clause-kept : goal.returns-clause-kept
returns-clause-kept g c =
    let s = g.Q.Desk.start in
    let who = c.args.ticket in
    ended_kept (ticket_of s (g.Q.Desk.seen c.args.desk.now) who) (ticket_of s (g.Q.Desk.seen c.remove_once.new.desk) who) (ticket_of s (g.Q.Desk.seen c.end_delete.new.self) who) c.end_delete.result c.remove_once.ensures.own c.end_delete.ensures.kept

pub returns-clause-refused : goal.returns-clause-refused
returns-clause-refused g c =
    let over = c.requires.over in
    ended_halts g.Q.Desk.start (g.Q.Desk.seen c.remove_once.new.desk) (g.Q.Desk.seen c.end_delete.new.self) c.args.ticket c.end_delete.result c.refusals_are_of_their_steps.ensures
    (subst IsDeletes (sym c.remove_once.ensures.own) (over.uuids, Some over.plan, over.work)) c.end_delete.ensures.kept c.end_delete.ensures.step

pub returns-clause-grew : goal.returns-clause-grew
returns-clause-grew g c =
    let s = g.Q.Desk.start in
    let old = g.Q.Desk.seen c.args.desk.now in
    let mid = g.Q.Desk.seen c.remove_once.new.desk in
    let new = g.Q.Desk.seen c.end_delete.new.self in
    let who = c.args.ticket in
    grew_by_on s who old mid new c.remove_once.ensures.grew (outcome_grew_by s mid new who (PruneStep EndDelete) (λ x. HasEnded) c.end_delete.result c.end_delete.ensures.step)

pub returns-clause-calls : goal.returns-clause-calls
returns-clause-calls g c = c.end_delete.ensures.calls ∙ c.remove_once.ensures.calls
