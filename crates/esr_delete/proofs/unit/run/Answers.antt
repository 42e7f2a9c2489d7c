use Rattle.std.proofs.Common.{map, sym, ap, ◌∙◌, subst}
use Rattle.std.proofs.lemmas.Result.{on_ok_weaker}
use Rattle.esr_core.specs.World.{Ticket}
use Rattle.esr_formats.specs.Ids.{number_of}
use Rattle.esr_formats.specs.Roots.{root_of}
use Rattle.esr_desk.specs.Start.{ticket_of}
use Rattle.esr_desk.specs.declared.hand.Hand.TheVariants as hands
use Rattle.esr_desk.specs.Evidence.{evidence}
use Rattle.esr_desk.specs.Grew.{grew_by_on}
use Rattle.esr_unit.specs.declared.ending.Ending.{Ending}
use Rattle.esr_unit.specs.Shown.{EndingShown}
use Rattle.esr_finish.specs.Runs.{taken_on}
use Rattle.esr_delete.specs.Refused.{IsUnitRefused, IsHalted}
use Rattle.esr_delete.proofs.Uniting.{can_fail, given_refused, deleted, halted, if_err}
use Rattle.esr_delete.proofs.unit.run.Goals as goal

-- ---- all that goes before the settle is done

pub settle-requires-clause-mine : goal.settle-requires-clause-mine
settle-requires-clause-mine g c κs within = taken_on (g.Q.Desk.calls c.args.desk.now) (g.Q.Desk.calls c.prepare.new.desk) c.args.ticket c.prepare.ensures.calls c.requires.mine

pub settle-requires-clause-mode : goal.settle-requires-clause-mode
settle-requires-clause-mode g c κs within = ap (λ (t : Ticket). t.clean) c.prepare.ensures.went.worked.is ∙ c.requires.may.mode

pub returns-in-Ok-clause-ok : goal.returns-in-Ok-clause-ok
returns-in-Ok-clause-ok g c =
    let seen = g.Q.Desk.seen in
    on_ok_weaker c.settle.result (λ over. deleted c.args.clean g.Q.Desk.start (seen c.args.desk.now) (seen c.prepare.new.desk) (seen c.settle.new.desk) c.args.ticket c.requires.may.mode c.in-Ok.ensures.ok over) c.settle.ensures.ok

pub returns-in-Ok-clause-refused : goal.returns-in-Ok-clause-refused
returns-in-Ok-clause-refused g c =
    let s = g.Q.Desk.start in
    let seen = g.Q.Desk.seen in
    let old = seen c.args.desk.now in
    let mid = seen c.prepare.new.desk in
    let new = seen c.settle.new.desk in
    let who = c.args.ticket in
    let clean = c.args.clean in
    let e = evidence g.Q.Stage.Counted.faults g.Q.Fetch.Counted.faults g.Q.Shard.Counted.faults g.Q.Target.Counted.faults g.Q.Shard.Shard.told g.Q.Target.Target.told in
    if_err c.settle.result (IsHalted clean e s mid new who) (IsUnitRefused e s old new who)
    (λ x h. halted e s old mid new who clean (root_of c.args.copy.now.root) (map number_of c.args.uuids.now) x c.requires.may c.prepare.ensures.went.worked c.in-Ok.ensures.ok h) c.settle.ensures.refused

pub returns-in-Ok-clause-grew : goal.returns-in-Ok-clause-grew
returns-in-Ok-clause-grew g c =
    let seen = g.Q.Desk.seen in
    grew_by_on g.Q.Desk.start c.args.ticket (seen c.args.desk.now) (seen c.prepare.new.desk) (seen c.settle.new.desk) c.prepare.ensures.went.grew c.settle.ensures.grew

pub returns-in-Ok-clause-calls : goal.returns-in-Ok-clause-calls
returns-in-Ok-clause-calls g c = c.settle.ensures.calls ∙ c.prepare.ensures.calls

-- ---- it isn't

pub end_early-requires-clause-mine : goal.end_early-requires-clause-mine
end_early-requires-clause-mine g c κs within = taken_on (g.Q.Desk.calls c.args.desk.now) (g.Q.Desk.calls c.prepare.new.desk) c.args.ticket c.prepare.ensures.calls c.requires.mine

pub end_early-requires-clause-may : goal.end_early-requires-clause-may
end_early-requires-clause-may g c κs within =
    let s = g.Q.Desk.start in
    can_fail (ticket_of s (g.Q.Desk.seen c.args.desk.now) c.args.ticket) (ticket_of s (g.Q.Desk.seen c.prepare.new.desk) c.args.ticket) c.requires.may.out c.requires.may.unsettled c.prepare.ensures.went.worked

pub end_early-requires-clause-shown : goal.end_early-requires-clause-shown
end_early-requires-clause-shown g c κs within =
    let e = evidence g.Q.Stage.Counted.faults g.Q.Fetch.Counted.faults g.Q.Shard.Counted.faults g.Q.Target.Counted.faults g.Q.Shard.Shard.told g.Q.Target.Target.told in
    subst (λ (ending : Ending g.row.Q-Stage.Denot g.row.Q-Fetch.Denot g.row.Q-Shard.Denot g.row.Q-Target.Denot). EndingShown hands.Delete e ⊥ g.Q.Desk.start (g.Q.Desk.seen c.prepare.new.desk) c.args.ticket ending)
    (sym c.ending_of.ensures) c.in-Err.ensures.trouble

pub end_early-requires-clause-cause : goal.end_early-requires-clause-cause
end_early-requires-clause-cause g c κs within = tt

pub returns-in-Err-clause-refused : goal.returns-in-Err-clause-refused
returns-in-Err-clause-refused g c =
    let seen = g.Q.Desk.seen in
    given_refused (evidence g.Q.Stage.Counted.faults g.Q.Fetch.Counted.faults g.Q.Shard.Counted.faults g.Q.Target.Counted.faults g.Q.Shard.Shard.told g.Q.Target.Target.told)
    g.Q.Desk.start (seen c.args.desk.now) (seen c.prepare.new.desk) (seen c.end_early.new.desk) c.args.ticket c.end_early.result c.requires.may.out c.requires.may.unsettled c.prepare.ensures.went.worked c.end_early.ensures.given_up

pub returns-in-Err-clause-grew : goal.returns-in-Err-clause-grew
returns-in-Err-clause-grew g c =
    let seen = g.Q.Desk.seen in
    grew_by_on g.Q.Desk.start c.args.ticket (seen c.args.desk.now) (seen c.prepare.new.desk) (seen c.end_early.new.desk) c.prepare.ensures.went.grew c.end_early.ensures.grew

pub returns-in-Err-clause-calls : goal.returns-in-Err-clause-calls
returns-in-Err-clause-calls g c = c.end_early.ensures.calls ∙ c.prepare.ensures.calls
