use Rattle.std.proofs.Common.{◌≡◌, false, map, sym, ap, ◌∙◌, subst}
use Rattle.std.proofs.lemmas.Result.{on_ok_weaker}
use Rattle.esr_core.specs.World.{Ticket}
use Rattle.esr_core.specs.Entry.{SettlePruned, PruneStep, WasSettled}
use Rattle.esr_formats.specs.Roots.{root_of}
use Rattle.esr_formats.specs.Names.{name_of}
use Rattle.esr_desk.specs.Start.{formats_of, ticket_of}
use Rattle.esr_desk.specs.Taken.{IsSettled}
use Rattle.esr_desk.specs.Told.{prune_fresh}
use Rattle.esr_desk.specs.Grew.{grew_by_on, outcome_grew_by}
use Rattle.esr_desk.specs.Evidence.{evidence}
use Rattle.esr_desk.specs.Delete.Conditions.{CanFailDelete}
use Rattle.esr_desk.specs.Delete.Cleaned.{still_put}
use Rattle.esr_finish.specs.Refused.{is_fault}
use Rattle.esr_finish.specs.Runs.{taken_on}
use Rattle.esr_finish.specs.Stops.{unsettled_same}
use Rattle.esr_delete.specs.Refused.{IsLateRefused, IsHalted}
use Rattle.esr_delete.proofs.Clearing.{dooms_settled, over_settled, none_yet, none_failed, still_undropped, over_cleared}
use Rattle.esr_delete.proofs.Ends.{settle_halted, late_halted, settles_fails}
use Rattle.esr_delete.proofs.Going.{prune_shown}
use Rattle.esr_delete.proofs.Uniting.{if_err}
use Rattle.esr_delete.proofs.settle.settle.Goals as goal
use Rattle.esr_delete.proofs.settle.settle.Goals.{In-Err}

pub settle_delete-requires-clause-new : goal.settle_delete-requires-clause-new
settle_delete-requires-clause-new g c = prune_fresh g.Q.Desk.start (g.Q.Desk.seen c.args.desk.now) c.args.ticket c.requires.tells c.requires.may.settle.put.unsettled

-- ---- it has settled

pub finish-requires-clause-mine : goal.finish-requires-clause-mine
finish-requires-clause-mine g c κs within = taken_on (g.Q.Desk.calls c.args.desk.now) (g.Q.Desk.calls c.settle_delete.new.self) c.args.ticket c.settle_delete.ensures.calls c.requires.mine

pub finish-requires-clause-over : goal.finish-requires-clause-over
finish-requires-clause-over g c κs within =
    let s = g.Q.Desk.start in
    let who = c.args.ticket in
    over_settled s (ticket_of s (g.Q.Desk.seen c.args.desk.now) who) (ticket_of s (g.Q.Desk.seen c.settle_delete.new.self) who) (root_of c.args.root.now) c.requires.may c.in-Ok.ensures.own

pub finish-requires-clause-mode : goal.finish-requires-clause-mode
finish-requires-clause-mode g c κs within = ap (λ (t : Ticket). t.clean) c.in-Ok.ensures.own ∙ c.requires.mode

pub finish-requires-clause-names : goal.finish-requires-clause-names
finish-requires-clause-names g c κs within =
    let s = g.Q.Desk.start in
    let who = c.args.ticket in
    λ tells. dooms_settled (formats_of s) (ticket_of s (g.Q.Desk.seen c.args.desk.now) who) (ticket_of s (g.Q.Desk.seen c.settle_delete.new.self) who) (map name_of c.args.names.now) c.in-Ok.ensures.own (c.requires.names tells)

pub finish-requires-clause-none : goal.finish-requires-clause-none
finish-requires-clause-none g c κs within =
    none_yet g.Q.Desk.start (g.Q.Desk.seen c.args.desk.now) (g.Q.Desk.seen c.settle_delete.new.self) c.args.ticket WasSettled c.requires.mine.some c.requires.tells c.requires.may.settle.put.unsettled c.in-Ok.ensures.step

pub finish-requires-clause-well : goal.finish-requires-clause-well
finish-requires-clause-well g c κs within =
    none_failed g.Q.Desk.start (g.Q.Desk.seen c.args.desk.now) (g.Q.Desk.seen c.settle_delete.new.self) c.args.ticket WasSettled c.requires.mine.some c.requires.tells c.requires.may.settle.put.unsettled c.in-Ok.ensures.step

pub finish-requires-clause-put : goal.finish-requires-clause-put
finish-requires-clause-put g c κs within = λ cleans.
    still_put g.Q.Desk.start (g.Q.Desk.seen c.args.desk.now) (g.Q.Desk.seen c.settle_delete.new.self) c.args.ticket (PruneStep SettlePruned) WasSettled c.requires.mine.some (c.requires.put cleans) c.in-Ok.ensures.step

pub finish-requires-clause-undropped : goal.finish-requires-clause-undropped
finish-requires-clause-undropped g c κs within =
    still_undropped g.Q.Desk.start (g.Q.Desk.seen c.args.desk.now) (g.Q.Desk.seen c.settle_delete.new.self) c.args.ticket WasSettled c.requires.mine.some c.requires.tells c.in-Ok.ensures.step

pub returns-in-Ok-clause-ok : goal.returns-in-Ok-clause-ok
returns-in-Ok-clause-ok g c =
    on_ok_weaker c.finish.result (over_cleared c.args.clean g.Q.Desk.start (g.Q.Desk.seen c.args.desk.now) (g.Q.Desk.seen c.settle_delete.new.self) (g.Q.Desk.seen c.finish.new.desk) c.args.ticket c.in-Ok.ensures.own) c.finish.ensures.ok

pub returns-in-Ok-clause-refused : goal.returns-in-Ok-clause-refused
returns-in-Ok-clause-refused g c =
    let s = g.Q.Desk.start in
    let old = g.Q.Desk.seen c.args.desk.now in
    let mid = g.Q.Desk.seen c.settle_delete.new.self in
    let new = g.Q.Desk.seen c.finish.new.desk in
    let who = c.args.ticket in
    let clean = c.args.clean in
    let e = evidence g.Q.Stage.Counted.faults g.Q.Fetch.Counted.faults g.Q.Shard.Counted.faults g.Q.Target.Counted.faults g.Q.Shard.Shard.told g.Q.Target.Target.told in
    if_err c.finish.result (IsLateRefused clean e s mid new who) (IsHalted clean e s old new who) (λ x h. late_halted clean e s old mid new who x c.in-Ok.ensures.own h) c.finish.ensures.refused

pub returns-in-Ok-clause-grew : goal.returns-in-Ok-clause-grew
returns-in-Ok-clause-grew g c =
    let s = g.Q.Desk.start in
    let old = g.Q.Desk.seen c.args.desk.now in
    let mid = g.Q.Desk.seen c.settle_delete.new.self in
    let who = c.args.ticket in
    grew_by_on s who old mid (g.Q.Desk.seen c.finish.new.desk) (outcome_grew_by s old mid who (PruneStep SettlePruned) (λ x. WasSettled) c.settle_delete.result c.settle_delete.ensures.step) c.finish.ensures.grew

pub returns-in-Ok-clause-calls : goal.returns-in-Ok-clause-calls
returns-in-Ok-clause-calls g c = c.finish.ensures.calls ∙ c.settle_delete.ensures.calls

-- ---- the settle was refused

-- unless its record swap failed the ticket is as it was, and may fail
same_at : (g : _) (c : In-Err g) → is_fault c.in-Err.refusal ≡ false → ticket_of g.Q.Desk.start (g.Q.Desk.seen c.settle_delete.new.self) c.args.ticket ≡ ticket_of g.Q.Desk.start (g.Q.Desk.seen c.args.desk.now) c.args.ticket
same_at g c other =
    let s = g.Q.Desk.start in
    let t = ticket_of s (g.Q.Desk.seen c.args.desk.now) c.args.ticket in
    unsettled_same (IsSettled t) c.in-Err.refusal t (ticket_of s (g.Q.Desk.seen c.settle_delete.new.self) c.args.ticket) other c.in-Err.ensures.kept

fails_at : (g : _) (c : In-Err g) → is_fault c.in-Err.refusal ≡ false → CanFailDelete (ticket_of g.Q.Desk.start (g.Q.Desk.seen c.settle_delete.new.self) c.args.ticket)
fails_at g c other =
    let s = g.Q.Desk.start in
    subst CanFailDelete (sym (same_at g c other)) (settles_fails s (ticket_of s (g.Q.Desk.seen c.args.desk.now) c.args.ticket) (root_of c.args.root.now) c.requires.may)

pub end_swap-requires-clause-mine : goal.end_swap-requires-clause-mine
end_swap-requires-clause-mine g c κs within = taken_on (g.Q.Desk.calls c.args.desk.now) (g.Q.Desk.calls c.settle_delete.new.self) c.args.ticket c.settle_delete.ensures.calls c.requires.mine

pub end_swap-requires-clause-may : goal.end_swap-requires-clause-may
end_swap-requires-clause-may g c κs within = fails_at g (goal.at.end_swap-requires-clause-may g c).In-Err

pub end_swap-requires-clause-shown : goal.end_swap-requires-clause-shown
end_swap-requires-clause-shown g c κs within = λ other.
    let may = fails_at g (goal.at.end_swap-requires-clause-shown g c).In-Err other in
    prune_shown (evidence g.Q.Stage.Counted.faults g.Q.Fetch.Counted.faults g.Q.Shard.Counted.faults g.Q.Target.Counted.faults g.Q.Shard.Shard.told g.Q.Target.Target.told)
    g.Q.Desk.start (g.Q.Desk.seen c.args.desk.now) (g.Q.Desk.seen c.settle_delete.new.self) c.args.ticket SettlePruned c.in-Err.refusal may.uuids may.plan c.refusals_are_of_their_steps.ensures may.out may.work c.in-Err.ensures.step

pub end_swap-requires-clause-cause : goal.end_swap-requires-clause-cause
end_swap-requires-clause-cause g c κs within = λ other. tt

pub returns-in-Err-clause-refused : goal.returns-in-Err-clause-refused
returns-in-Err-clause-refused g c =
    settle_halted c.args.clean (evidence g.Q.Stage.Counted.faults g.Q.Fetch.Counted.faults g.Q.Shard.Counted.faults g.Q.Target.Counted.faults g.Q.Shard.Shard.told g.Q.Target.Target.told)
    g.Q.Desk.start (g.Q.Desk.seen c.args.desk.now) (g.Q.Desk.seen c.settle_delete.new.self) (g.Q.Desk.seen c.end_swap.new.desk) c.args.ticket c.in-Err.refusal c.end_swap.result c.in-Err.ensures.kept c.in-Err.ensures.step c.end_swap.ensures.ended

pub returns-in-Err-clause-grew : goal.returns-in-Err-clause-grew
returns-in-Err-clause-grew g c =
    let s = g.Q.Desk.start in
    let old = g.Q.Desk.seen c.args.desk.now in
    let mid = g.Q.Desk.seen c.settle_delete.new.self in
    let who = c.args.ticket in
    grew_by_on s who old mid (g.Q.Desk.seen c.end_swap.new.desk) (outcome_grew_by s old mid who (PruneStep SettlePruned) (λ x. WasSettled) c.settle_delete.result c.settle_delete.ensures.step) c.end_swap.ensures.grew

pub returns-in-Err-clause-calls : goal.returns-in-Err-clause-calls
returns-in-Err-clause-calls g c = c.end_swap.ensures.calls ∙ c.settle_delete.ensures.calls
