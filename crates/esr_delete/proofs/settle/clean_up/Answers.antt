use Rattle.std.proofs.Common.{true, map, sym, ap, ◌∙◌, subst}
use Rattle.std.proofs.lemmas.Result.{on_ok_weaker}
use Rattle.esr_core.specs.World.{Ticket}
use Rattle.esr_formats.specs.Names.{name_of}
use Rattle.esr_desk.specs.declared.hand.Hand.TheVariants as hands
use Rattle.esr_desk.specs.Start.{ticket_of}
use Rattle.esr_desk.specs.Evidence.{evidence}
use Rattle.esr_desk.specs.Grew.{grew_by_on}
use Rattle.esr_unit.specs.declared.ending.Ending.{Ending}
use Rattle.esr_unit.specs.Shown.{EndingShown}
use Rattle.esr_finish.specs.Runs.{taken_on}
use Rattle.esr_delete.specs.Refused.{IsCleanRefused}
use Rattle.esr_delete.specs.Removed.{IsSettledPlan}
use Rattle.esr_delete.proofs.Clearing.{can_end_cleanup, cleared_on}
use Rattle.esr_delete.proofs.Ends.{given_late, clean_refused_on, clean_fails}
use Rattle.esr_delete.proofs.Passing.{removal_shown}
use Rattle.esr_delete.proofs.Uniting.{if_err}
use Rattle.esr_delete.proofs.settle.clean_up.Goals as goal

-- ---- all was taken away

pub end_cleanup-requires-clause-mine : goal.end_cleanup-requires-clause-mine
end_cleanup-requires-clause-mine g c κs within = taken_on (g.Q.Desk.calls c.args.desk.now) (g.Q.Desk.calls c.remove_once.new.desk) c.args.ticket c.remove_once.ensures.calls c.requires.mine

pub end_cleanup-requires-clause-may : goal.end_cleanup-requires-clause-may
end_cleanup-requires-clause-may g c κs within =
    can_end_cleanup g.Q.Desk.start (g.Q.Desk.seen c.args.desk.now) (g.Q.Desk.seen c.remove_once.new.desk) c.args.ticket
    (map name_of c.args.names.now) c.remove_once.ensures.own c.requires.over c.requires.mode c.requires.names c.requires.well c.requires.put
    c.in-Ok.ensures.removed

pub end_cleanup-requires-clause-new : goal.end_cleanup-requires-clause-new
end_cleanup-requires-clause-new g c κs within = c.in-Ok.ensures.removed.undropped c.requires.undropped

pub returns-in-Ok-clause-ok : goal.returns-in-Ok-clause-ok
returns-in-Ok-clause-ok g c =
    on_ok_weaker c.end_cleanup.result (cleared_on true g.Q.Desk.start (g.Q.Desk.seen c.args.desk.now) (g.Q.Desk.seen c.remove_once.new.desk) (g.Q.Desk.seen c.end_cleanup.new.desk) c.args.ticket c.remove_once.ensures.own) c.end_cleanup.ensures.ok

pub returns-in-Ok-clause-refused : goal.returns-in-Ok-clause-refused
returns-in-Ok-clause-refused g c =
    let s = g.Q.Desk.start in
    let old = g.Q.Desk.seen c.args.desk.now in
    let mid = g.Q.Desk.seen c.remove_once.new.desk in
    let new = g.Q.Desk.seen c.end_cleanup.new.desk in
    let who = c.args.ticket in
    let e = evidence g.Q.Stage.Counted.faults g.Q.Fetch.Counted.faults g.Q.Shard.Counted.faults g.Q.Target.Counted.faults g.Q.Shard.Shard.told g.Q.Target.Target.told in
    if_err c.end_cleanup.result (IsCleanRefused e s mid new who) (IsCleanRefused e s old new who) (λ x h. clean_refused_on e s old mid new who x c.remove_once.ensures.own h) c.end_cleanup.ensures.refused

pub returns-in-Ok-clause-grew : goal.returns-in-Ok-clause-grew
returns-in-Ok-clause-grew g c =
    grew_by_on g.Q.Desk.start c.args.ticket (g.Q.Desk.seen c.args.desk.now) (g.Q.Desk.seen c.remove_once.new.desk) (g.Q.Desk.seen c.end_cleanup.new.desk) c.remove_once.ensures.grew c.end_cleanup.ensures.grew

pub returns-in-Ok-clause-calls : goal.returns-in-Ok-clause-calls
returns-in-Ok-clause-calls g c = c.end_cleanup.ensures.calls ∙ c.remove_once.ensures.calls

-- ---- a removal was refused, or memory was wanting

pub end_early-requires-clause-mine : goal.end_early-requires-clause-mine
end_early-requires-clause-mine g c κs within = taken_on (g.Q.Desk.calls c.args.desk.now) (g.Q.Desk.calls c.remove_once.new.desk) c.args.ticket c.remove_once.ensures.calls c.requires.mine

pub end_early-requires-clause-may : goal.end_early-requires-clause-may
end_early-requires-clause-may g c κs within =
    let own = c.remove_once.ensures.own in
    clean_fails (ticket_of g.Q.Desk.start (g.Q.Desk.seen c.remove_once.new.desk) c.args.ticket) (subst IsSettledPlan (sym own) c.requires.over) (ap (λ (t : Ticket). t.clean) own ∙ c.requires.mode)

pub end_early-requires-clause-shown : goal.end_early-requires-clause-shown
end_early-requires-clause-shown g c κs within =
    let s = g.Q.Desk.start in
    let mid = g.Q.Desk.seen c.remove_once.new.desk in
    let who = c.args.ticket in
    let e = evidence g.Q.Stage.Counted.faults g.Q.Fetch.Counted.faults g.Q.Shard.Counted.faults g.Q.Target.Counted.faults g.Q.Shard.Shard.told g.Q.Target.Target.told in
    subst (λ (ending : Ending g.row.Q-Stage.Denot g.row.Q-Fetch.Denot g.row.Q-Shard.Denot g.row.Q-Target.Denot). EndingShown hands.Delete e ⊥ s mid who ending) (sym c.ending_of.ensures)
    (removal_shown e s mid who c.in-Err.refusal c.refusals_are_of_their_steps.ensures (subst IsSettledPlan (sym c.remove_once.ensures.own) c.requires.over) c.in-Err.ensures.refused)

pub end_early-requires-clause-cause : goal.end_early-requires-clause-cause
end_early-requires-clause-cause g c κs within = tt

pub returns-in-Err-clause-refused : goal.returns-in-Err-clause-refused
returns-in-Err-clause-refused g c =
    given_late (evidence g.Q.Stage.Counted.faults g.Q.Fetch.Counted.faults g.Q.Shard.Counted.faults g.Q.Target.Counted.faults g.Q.Shard.Shard.told g.Q.Target.Target.told)
    g.Q.Desk.start (g.Q.Desk.seen c.args.desk.now) (g.Q.Desk.seen c.remove_once.new.desk) (g.Q.Desk.seen c.end_early.new.desk) c.args.ticket c.end_early.result c.remove_once.ensures.own c.end_early.ensures.given_up

pub returns-in-Err-clause-grew : goal.returns-in-Err-clause-grew
returns-in-Err-clause-grew g c =
    grew_by_on g.Q.Desk.start c.args.ticket (g.Q.Desk.seen c.args.desk.now) (g.Q.Desk.seen c.remove_once.new.desk) (g.Q.Desk.seen c.end_early.new.desk) c.remove_once.ensures.grew c.end_early.ensures.grew

pub returns-in-Err-clause-calls : goal.returns-in-Err-clause-calls
returns-in-Err-clause-calls g c = c.end_early.ensures.calls ∙ c.remove_once.ensures.calls
