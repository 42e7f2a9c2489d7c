use Rattle.std.proofs.Common.{sym, ◌∙◌, subst}
use Rattle.std.proofs.lemmas.Result.{on_ok_weaker}
use Rattle.esr_formats.specs.Infos.{info_of_code}
use Rattle.esr_formats.specs.Roots.{root_of}
use Rattle.esr_desk.specs.declared.hand.Hand.TheVariants as hands
use Rattle.esr_desk.specs.Start.{ticket_of}
use Rattle.esr_desk.specs.Evidence.{evidence}
use Rattle.esr_desk.specs.Told.{none_tells}
use Rattle.esr_desk.specs.Grew.{grew_by_on}
use Rattle.esr_unit.specs.declared.ending.Ending.{Ending}
use Rattle.esr_unit.specs.Shown.{EndingShown}
use Rattle.esr_finish.specs.Ticket.{MayWrite}
use Rattle.esr_finish.specs.Refused.{EndsAsMaster}
use Rattle.esr_finish.specs.Runs.{taken_on}
use Rattle.esr_finish.proofs.Swaps.{took_writes, settle_next, final_master}
use Rattle.esr_finish.proofs.Stopping.{put_shown, put_ends, master_out}
use Rattle.esr_finish.proofs.Ends.{settle_refused, given_refused}
use Rattle.esr_finish.proofs.unit.run_unit.Goals as goal
use Rattle.esr_finish.proofs.unit.run_unit.Goals.{In-Some}

may_write : (g : _) (c : In-Some g) → MayWrite g.Q.Desk.start (ticket_of g.Q.Desk.start (g.Q.Desk.seen c.args.desk.now) c.args.unit.now.ready.ticket) (info_of_code c.in-Finalize.info) (root_of c.in-Some.root)
may_write g c =
    let s = g.Q.Desk.start in
    let unit = c.args.unit.now in
    took_writes s (ticket_of s (g.Q.Desk.seen c.args.desk.now) unit.ready.ticket) unit.ready.work unit.new_root unit.ready.op unit.ready.copy c.in-Finalize.info c.in-Finalize.shards c.in-Some.root c.in-Finalize.is c.in-Some.is c.requires.fresh

pub write_swap-requires-clause-may : goal.write_swap-requires-clause-may
write_swap-requires-clause-may g c κs within = may_write g (goal.at.write_swap-requires-clause-may g c).In-Some

pub write_swap-requires-clause-tells : goal.write_swap-requires-clause-tells
write_swap-requires-clause-tells g c κs within = none_tells g.Q.Desk.start (g.Q.Desk.seen c.args.desk.now) c.args.unit.now.ready.ticket c.requires.new

-- ---- the settle

pub settle-requires-clause-mine : goal.settle-requires-clause-mine
settle-requires-clause-mine g c κs within =
    taken_on (g.Q.Desk.calls c.args.desk.now) (g.Q.Desk.calls c.write_swap.new.desk) c.args.unit.now.ready.ticket c.write_swap.ensures.calls c.requires.mine

pub settle-requires-clause-may : goal.settle-requires-clause-may
settle-requires-clause-may g c κs within =
    let s = g.Q.Desk.start in
    let who = c.args.unit.now.ready.ticket in
    settle_next s (ticket_of s (g.Q.Desk.seen c.args.desk.now) who) (ticket_of s (g.Q.Desk.seen c.write_swap.new.desk) who) (info_of_code c.in-Finalize.info) (root_of c.in-Some.root)
    (may_write g (goal.at.settle-requires-clause-may g c).In-Some) c.in-Ok.ensures.ok

pub settle-requires-clause-masters : goal.settle-requires-clause-masters
settle-requires-clause-masters g c κs within =
    let s = g.Q.Desk.start in
    let unit = c.args.unit.now in
    let ready = unit.ready in
    final_master (ticket_of s (g.Q.Desk.seen c.args.desk.now) ready.ticket)
    (ticket_of s (g.Q.Desk.seen c.write_swap.new.desk) ready.ticket) ready.work unit.new_root ready.op ready.copy c.in-Finalize.info c.in-Finalize.shards c.in-Finalize.is c.requires.fresh
    c.write_swap.ensures.went.worked

pub returns-in-Ok-clause-ok : goal.returns-in-Ok-clause-ok
returns-in-Ok-clause-ok g c =
    let s = g.Q.Desk.start in
    on_ok_weaker c.settle.result (λ is. record { written = ticket_of s (g.Q.Desk.seen c.write_swap.new.desk) c.args.unit.now.ready.ticket; is_written = c.in-Ok.ensures.ok; is = is }) c.settle.ensures.ok

pub returns-in-Ok-clause-refused : goal.returns-in-Ok-clause-refused
returns-in-Ok-clause-refused g c =
    let s = g.Q.Desk.start in
    let seen = g.Q.Desk.seen in
    settle_refused (evidence g.Q.Stage.Counted.faults g.Q.Fetch.Counted.faults g.Q.Shard.Counted.faults g.Q.Target.Counted.faults g.Q.Shard.Shard.told g.Q.Target.Target.told)
    s (seen c.args.desk.now) (seen c.write_swap.new.desk) (seen c.settle.new.desk) c.args.unit.now.ready.ticket (info_of_code c.in-Finalize.info) (root_of c.in-Some.root) c.settle.result
    (may_write g (goal.at.returns-in-Ok-clause-refused g c).In-Some) c.write_swap.ensures.went c.in-Ok.ensures.ok c.settle.ensures.refused

pub returns-in-Ok-clause-grew : goal.returns-in-Ok-clause-grew
returns-in-Ok-clause-grew g c =
    let seen = g.Q.Desk.seen in
    grew_by_on g.Q.Desk.start c.args.unit.now.ready.ticket (seen c.args.desk.now) (seen c.write_swap.new.desk) (seen c.settle.new.desk) c.write_swap.ensures.went.grew c.settle.ensures.grew

-- ---- before the settle

pub end_early-requires-clause-mine : goal.end_early-requires-clause-mine
end_early-requires-clause-mine g c κs within =
    taken_on (g.Q.Desk.calls c.args.desk.now) (g.Q.Desk.calls c.write_swap.new.desk) c.args.unit.now.ready.ticket c.write_swap.ensures.calls c.requires.mine

pub end_early-requires-clause-may : goal.end_early-requires-clause-may
end_early-requires-clause-may g c κs within =
    let s = g.Q.Desk.start in
    let unit = c.args.unit.now in
    let ready = unit.ready in
    final_master (ticket_of s (g.Q.Desk.seen c.args.desk.now) ready.ticket)
    (ticket_of s (g.Q.Desk.seen c.write_swap.new.desk) ready.ticket) ready.work unit.new_root ready.op ready.copy c.in-Finalize.info c.in-Finalize.shards c.in-Finalize.is c.requires.fresh
    c.write_swap.ensures.went.worked

pub end_early-requires-clause-shown : goal.end_early-requires-clause-shown
end_early-requires-clause-shown g c κs within =
    let s = g.Q.Desk.start in
    let unit = c.args.unit.now in
    let ready = unit.ready in
    let who = ready.ticket in
    let mid = g.Q.Desk.seen c.write_swap.new.desk in
    let e = evidence g.Q.Stage.Counted.faults g.Q.Fetch.Counted.faults g.Q.Shard.Counted.faults g.Q.Target.Counted.faults g.Q.Shard.Shard.told g.Q.Target.Target.told in
    let masters =
    final_master (ticket_of s (g.Q.Desk.seen c.args.desk.now) who) (ticket_of s mid who) ready.work unit.new_root ready.op ready.copy c.in-Finalize.info c.in-Finalize.shards c.in-Finalize.is c.requires.fresh c.write_swap.ensures.went.worked in
    subst (λ (ending : Ending g.row.Q-Stage.Denot g.row.Q-Fetch.Denot g.row.Q-Shard.Denot g.row.Q-Target.Denot). EndingShown hands.Unit e ⊥ s mid who ending) (sym c.ending_of.ensures)
    (put_shown e s mid who c.in-Err.trouble c.refusals_are_of_their_steps.ensures (master_out s mid who masters) c.in-Err.ensures.refused)

pub end_early-requires-clause-cause : goal.end_early-requires-clause-cause
end_early-requires-clause-cause g c κs within =
    subst (λ (ending : Ending g.row.Q-Stage.Denot g.row.Q-Fetch.Denot g.row.Q-Shard.Denot g.row.Q-Target.Denot). EndsAsMaster ending) (sym c.ending_of.ensures)
    (put_ends {S = g.row.Q-Stage.Denot} {F = g.row.Q-Fetch.Denot} g.row.Q-Shard.Denot g.row.Q-Target.Denot g.Q.Desk.start g.Q.Stage.Counted.faults (g.Q.Desk.seen c.write_swap.new.desk) c.args.unit.now.ready.ticket c.in-Err.trouble
    c.refusals_are_of_their_steps.ensures c.in-Err.ensures.refused)

pub returns-in-Err-clause-refused : goal.returns-in-Err-clause-refused
returns-in-Err-clause-refused g c =
    let s = g.Q.Desk.start in
    let seen = g.Q.Desk.seen in
    given_refused (evidence g.Q.Stage.Counted.faults g.Q.Fetch.Counted.faults g.Q.Shard.Counted.faults g.Q.Target.Counted.faults g.Q.Shard.Shard.told g.Q.Target.Target.told)
    s (seen c.args.desk.now) (seen c.write_swap.new.desk) (seen c.end_early.new.desk) c.args.unit.now.ready.ticket (info_of_code c.in-Finalize.info) (root_of c.in-Some.root) c.end_early.result
    (may_write g (goal.at.returns-in-Err-clause-refused g c).In-Some) c.write_swap.ensures.went c.end_early.ensures.given_up

pub returns-in-Err-clause-grew : goal.returns-in-Err-clause-grew
returns-in-Err-clause-grew g c =
    let seen = g.Q.Desk.seen in
    grew_by_on g.Q.Desk.start c.args.unit.now.ready.ticket (seen c.args.desk.now) (seen c.write_swap.new.desk) (seen c.end_early.new.desk) c.write_swap.ensures.went.grew c.end_early.ensures.grew

pub returns-in-Ok-clause-calls : goal.returns-in-Ok-clause-calls
returns-in-Ok-clause-calls g c = c.settle.ensures.calls ∙ c.write_swap.ensures.calls

pub returns-in-Err-clause-calls : goal.returns-in-Err-clause-calls
returns-in-Err-clause-calls g c = c.end_early.ensures.calls ∙ c.write_swap.ensures.calls
