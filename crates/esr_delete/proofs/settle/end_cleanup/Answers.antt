use Rattle.std.proofs.Common.{◌≡◌, false, sym, ap, ◌∙◌, subst}
use Rattle.esr_core.specs.World.{Ticket}
use Rattle.esr_core.specs.Entry.{DroppedStep, HasEnded}
use Rattle.esr_desk.specs.Start.{ticket_of}
use Rattle.esr_desk.specs.Evidence.{evidence}
use Rattle.esr_desk.specs.Grew.{grew_by_on, outcome_grew_by}
use Rattle.esr_desk.specs.Taken.{HasEndedAs}
use Rattle.esr_desk.specs.Delete.Cleaned.{ended_cleaned}
use Rattle.esr_finish.specs.Refused.{is_fault}
use Rattle.esr_finish.specs.Runs.{taken_on}
use Rattle.esr_finish.specs.Stops.{unsettled_same}
use Rattle.esr_delete.specs.Removed.{IsSettledPlan}
use Rattle.esr_delete.proofs.Ends.{clean_fails, drop_refused}
use Rattle.esr_delete.proofs.Passing.{drop_shown}
use Rattle.esr_delete.proofs.settle.end_cleanup.Goals as goal
use Rattle.esr_delete.proofs.settle.end_cleanup.Goals.{In-Err}

pub returns-in-Ok-clause-ok : goal.returns-in-Ok-clause-ok
returns-in-Ok-clause-ok g c =
    record { own = c.in-Ok.ensures.own; done = ended_cleaned g.Q.Desk.start (g.Q.Desk.seen c.args.desk.now) (g.Q.Desk.seen c.end_cleanup.new.self) c.args.ticket c.requires.mine.some c.requires.may c.in-Ok.ensures.step }

pub returns-in-Ok-clause-grew : goal.returns-in-Ok-clause-grew
returns-in-Ok-clause-grew g c =
    outcome_grew_by g.Q.Desk.start (g.Q.Desk.seen c.args.desk.now) (g.Q.Desk.seen c.end_cleanup.new.self) c.args.ticket DroppedStep (λ x. HasEnded) c.end_cleanup.result c.end_cleanup.ensures.step

-- ---- it was refused

-- unless its record swap failed the ticket is as it was
same_at : (g : _) (c : In-Err g) → is_fault c.in-Err.refusal ≡ false → ticket_of g.Q.Desk.start (g.Q.Desk.seen c.end_cleanup.new.self) c.args.ticket ≡ ticket_of g.Q.Desk.start (g.Q.Desk.seen c.args.desk.now) c.args.ticket
same_at g c other =
    let s = g.Q.Desk.start in
    let t = ticket_of s (g.Q.Desk.seen c.args.desk.now) c.args.ticket in
    unsettled_same (HasEndedAs t) c.in-Err.refusal t (ticket_of s (g.Q.Desk.seen c.end_cleanup.new.self) c.args.ticket) other c.in-Err.ensures.kept

over_at : (g : _) (c : In-Err g) → is_fault c.in-Err.refusal ≡ false → IsSettledPlan (ticket_of g.Q.Desk.start (g.Q.Desk.seen c.end_cleanup.new.self) c.args.ticket)
over_at g c other =
    let may = c.requires.may in
    subst IsSettledPlan (sym (same_at g c other)) (record { out = may.out; settled = may.settled; uuids = may.uuids; plan = may.plan; work = may.work })

pub end_swap-requires-clause-mine : goal.end_swap-requires-clause-mine
end_swap-requires-clause-mine g c κs within = taken_on (g.Q.Desk.calls c.args.desk.now) (g.Q.Desk.calls c.end_cleanup.new.self) c.args.ticket c.end_cleanup.ensures.calls c.requires.mine

pub end_swap-requires-clause-may : goal.end_swap-requires-clause-may
end_swap-requires-clause-may g c κs within = λ other.
    let at = (goal.at.end_swap-requires-clause-may g c).In-Err in
    clean_fails (ticket_of g.Q.Desk.start (g.Q.Desk.seen c.end_cleanup.new.self) c.args.ticket) (over_at g at other) (ap (λ (t : Ticket). t.clean) (same_at g at other) ∙ c.requires.may.cleans)

pub end_swap-requires-clause-shown : goal.end_swap-requires-clause-shown
end_swap-requires-clause-shown g c κs within = λ other.
    let at = (goal.at.end_swap-requires-clause-shown g c).In-Err in
    drop_shown (evidence g.Q.Stage.Counted.faults g.Q.Fetch.Counted.faults g.Q.Shard.Counted.faults g.Q.Target.Counted.faults g.Q.Shard.Shard.told g.Q.Target.Target.told)
    g.Q.Desk.start (g.Q.Desk.seen c.args.desk.now) (g.Q.Desk.seen c.end_cleanup.new.self) c.args.ticket c.in-Err.refusal c.refusals_are_of_their_steps.ensures (over_at g at other) c.in-Err.ensures.step

pub end_swap-requires-clause-cause : goal.end_swap-requires-clause-cause
end_swap-requires-clause-cause g c κs within = λ other. tt

pub returns-in-Err-clause-refused : goal.returns-in-Err-clause-refused
returns-in-Err-clause-refused g c =
    drop_refused (evidence g.Q.Stage.Counted.faults g.Q.Fetch.Counted.faults g.Q.Shard.Counted.faults g.Q.Target.Counted.faults g.Q.Shard.Shard.told g.Q.Target.Target.told)
    g.Q.Desk.start (g.Q.Desk.seen c.args.desk.now) (g.Q.Desk.seen c.end_cleanup.new.self) (g.Q.Desk.seen c.end_swap.new.desk) c.args.ticket c.in-Err.refusal c.end_swap.result c.in-Err.ensures.kept c.in-Err.ensures.step c.end_swap.ensures.ended

pub returns-in-Err-clause-grew : goal.returns-in-Err-clause-grew
returns-in-Err-clause-grew g c =
    let s = g.Q.Desk.start in
    let old = g.Q.Desk.seen c.args.desk.now in
    let mid = g.Q.Desk.seen c.end_cleanup.new.self in
    let who = c.args.ticket in
    grew_by_on s who old mid (g.Q.Desk.seen c.end_swap.new.desk) (outcome_grew_by s old mid who DroppedStep (λ x. HasEnded) c.end_cleanup.result c.end_cleanup.ensures.step) c.end_swap.ensures.grew

pub returns-in-Err-clause-calls : goal.returns-in-Err-clause-calls
returns-in-Err-clause-calls g c = c.end_swap.ensures.calls ∙ c.end_cleanup.ensures.calls
