use Rattle.std.proofs.Common.{refl, subst}
use Rattle.esr_desk.specs.Start.{ticket_of}
use Rattle.esr_desk.specs.Evidence.{evidence}
use Rattle.esr_desk.specs.Grew.{grew_by_none}
use Rattle.esr_unit.specs.declared.ending.Ending.{Ending}
use Rattle.esr_unit.specs.declared.ending.Ending.TheVariants.{Failed}
use Rattle.esr_unit.specs.Shown.{EndingShown}
use Rattle.esr_finish.specs.Refused.{EndsAs}
use Rattle.esr_finish.proofs.Ends.{mine_of, calls_left, may_fail, over_of, given_up, stopped_up}
use Rattle.esr_finish.proofs.end.end_early.Goals as goal

-- ---- it failed

pub give_up-requires-clause-mine : goal.give_up-requires-clause-mine
give_up-requires-clause-mine g c κs within = mine_of c.args.hand (ticket_of g.Q.Desk.start (g.Q.Desk.seen c.args.desk.now) c.args.ticket) (g.Q.Desk.calls c.args.desk.now) c.args.ticket c.requires.may c.requires.mine

pub give_up-requires-clause-may : goal.give_up-requires-clause-may
give_up-requires-clause-may g c κs within = may_fail c.args.hand g.Q.Desk.start (g.Q.Desk.seen c.args.desk.now) c.args.ticket c.requires.may

pub give_up-requires-clause-shown : goal.give_up-requires-clause-shown
give_up-requires-clause-shown g c κs within =
    subst (λ (ending : Ending g.row.Q-Stage.Denot g.row.Q-Fetch.Denot g.row.Q-Shard.Denot g.row.Q-Target.Denot). EndingShown c.args.hand
    (evidence g.Q.Stage.Counted.faults g.Q.Fetch.Counted.faults g.Q.Shard.Counted.faults g.Q.Target.Counted.faults g.Q.Shard.Shard.told g.Q.Target.Target.told)
    ⊥ g.Q.Desk.start (g.Q.Desk.seen c.args.desk.now) c.args.ticket ending) c.in-Failed.is c.requires.shown

pub returns-in-Failed-clause-given_up : goal.returns-in-Failed-clause-given_up
returns-in-Failed-clause-given_up g c =
    let s = g.Q.Desk.start in
    let old = g.Q.Desk.seen c.args.desk.now in
    let who = c.args.ticket in
    let e = evidence g.Q.Stage.Counted.faults g.Q.Fetch.Counted.faults g.Q.Shard.Counted.faults g.Q.Target.Counted.faults g.Q.Shard.Shard.told g.Q.Target.Target.told in
    given_up c.args.hand e s old old (g.Q.Desk.seen c.give_up.new.desk) who (Failed c.in-Failed.why c.in-Failed.by) c.give_up.result c.requires.may refl
    (subst (λ (ending : Ending g.row.Q-Stage.Denot g.row.Q-Fetch.Denot g.row.Q-Shard.Denot g.row.Q-Target.Denot). EndsAs c.args.hand ending) c.in-Failed.is c.requires.cause)
    (subst (λ (ending : Ending g.row.Q-Stage.Denot g.row.Q-Fetch.Denot g.row.Q-Shard.Denot g.row.Q-Target.Denot). EndingShown c.args.hand e ⊥ s old who ending) c.in-Failed.is c.requires.shown)
    c.give_up.ensures.end

pub returns-in-Failed-clause-calls : goal.returns-in-Failed-clause-calls
returns-in-Failed-clause-calls g c = calls_left c.args.hand (ticket_of g.Q.Desk.start (g.Q.Desk.seen c.args.desk.now) c.args.ticket) (g.Q.Desk.calls c.args.desk.now) (g.Q.Desk.calls c.give_up.new.desk) c.requires.may c.give_up.ensures.others

-- ---- its term is over

pub end_stale-requires-clause-over : goal.end_stale-requires-clause-over
end_stale-requires-clause-over g c κs within =
    over_of c.args.hand g.Q.Desk.start (g.Q.Desk.seen c.args.desk.now) c.args.ticket (subst (λ (ending : Ending g.row.Q-Stage.Denot g.row.Q-Fetch.Denot g.row.Q-Shard.Denot g.row.Q-Target.Denot). EndingShown c.args.hand
    (evidence g.Q.Stage.Counted.faults g.Q.Fetch.Counted.faults g.Q.Shard.Counted.faults g.Q.Target.Counted.faults g.Q.Shard.Shard.told g.Q.Target.Target.told)
    ⊥ g.Q.Desk.start (g.Q.Desk.seen c.args.desk.now) c.args.ticket ending) c.in-Stale.is c.requires.shown)

-- ---- it was stopped

pub returns-in-Stopped-clause-given_up : goal.returns-in-Stopped-clause-given_up
returns-in-Stopped-clause-given_up g c =
    let s = g.Q.Desk.start in
    let old = g.Q.Desk.seen c.args.desk.now in
    let e = evidence g.Q.Stage.Counted.faults g.Q.Fetch.Counted.faults g.Q.Shard.Counted.faults g.Q.Target.Counted.faults g.Q.Shard.Shard.told g.Q.Target.Target.told in
    stopped_up c.args.hand e s old c.args.ticket c.in-Stopped.refusal
    (subst (λ (ending : Ending g.row.Q-Stage.Denot g.row.Q-Fetch.Denot g.row.Q-Shard.Denot g.row.Q-Target.Denot). EndingShown c.args.hand e ⊥ s old c.args.ticket ending) c.in-Stopped.is c.requires.shown)

pub returns-in-Stopped-clause-grew : goal.returns-in-Stopped-clause-grew
returns-in-Stopped-clause-grew g c = grew_by_none g.Q.Desk.start c.args.ticket (g.Q.Desk.seen c.args.desk.now)
