use Rattle.std.proofs.Common.{sym, ◌∙◌, subst}
use Rattle.esr_core.specs.Entry.{FinishStep, HasEnded}
use Rattle.esr_desk.specs.Start.{ticket_of}
use Rattle.esr_desk.specs.Evidence.{evidence}
use Rattle.esr_desk.specs.Grew.{grew_by_on, outcome_grew_by}
use Rattle.esr_unit.specs.declared.ending.Ending.{Ending}
use Rattle.esr_unit.specs.Ending.{ending_at}
use Rattle.esr_unit.specs.Shown.{EndingShown}
use Rattle.esr_finish.specs.Refused.{CanGiveUp, EndsAs}
use Rattle.esr_finish.specs.Runs.{taken_on}
use Rattle.esr_finish.proofs.Stopping.{finish_shown, finish_ends}
use Rattle.esr_finish.proofs.Ends.{mine_of, calls_left, may_end, ends_as, given_up, was_stale}
use Rattle.esr_finish.proofs.end.end_stale.Goals as goal

-- ---- it has ended

pub returns-in-Ok-clause-given_up : goal.returns-in-Ok-clause-given_up
returns-in-Ok-clause-given_up g c =
    let s = g.Q.Desk.start in
    let old = g.Q.Desk.seen c.args.desk.now in (
      c.in-Ok.ensures.own,
      record { before = old; refused = was_stale c.args.hand s old c.args.ticket c.requires.may c.requires.over; step = c.in-Ok.ensures.step },
    )

pub returns-in-Ok-clause-grew : goal.returns-in-Ok-clause-grew
returns-in-Ok-clause-grew g c =
    outcome_grew_by g.Q.Desk.start (g.Q.Desk.seen c.args.desk.now) (g.Q.Desk.seen c.finish.new.self) c.args.ticket FinishStep (λ x. HasEnded) c.finish.result c.finish.ensures.step

-- ---- the finish was refused

pub give_up-requires-clause-mine : goal.give_up-requires-clause-mine
give_up-requires-clause-mine g c κs within =
    mine_of c.args.hand (ticket_of g.Q.Desk.start (g.Q.Desk.seen c.args.desk.now) c.args.ticket) (g.Q.Desk.calls c.finish.new.self) c.args.ticket c.requires.may
    (taken_on (g.Q.Desk.calls c.args.desk.now) (g.Q.Desk.calls c.finish.new.self) c.args.ticket c.finish.ensures.calls c.requires.mine)

pub give_up-requires-clause-may : goal.give_up-requires-clause-may
give_up-requires-clause-may g c κs within =
    may_end c.args.hand g.Q.Desk.start (g.Q.Desk.seen c.finish.new.self) c.args.ticket c.ending_of.result (subst (CanGiveUp c.args.hand) (sym c.in-Err.ensures.kept) c.requires.may)

pub give_up-requires-clause-shown : goal.give_up-requires-clause-shown
give_up-requires-clause-shown g c κs within =
    let s = g.Q.Desk.start in
    let old = g.Q.Desk.seen c.args.desk.now in
    let mid = g.Q.Desk.seen c.finish.new.self in
    let who = c.args.ticket in
    let e = evidence g.Q.Stage.Counted.faults g.Q.Fetch.Counted.faults g.Q.Shard.Counted.faults g.Q.Target.Counted.faults g.Q.Shard.Shard.told g.Q.Target.Target.told in
    subst (λ (ending : Ending g.row.Q-Stage.Denot g.row.Q-Fetch.Denot g.row.Q-Shard.Denot g.row.Q-Target.Denot). EndingShown c.args.hand e ⊥ s mid who ending) (sym c.ending_of.ensures)
    (finish_shown c.args.hand e s old mid who c.in-Err.refusal c.refusals_are_of_their_steps.ensures (subst (CanGiveUp c.args.hand) (sym c.in-Err.ensures.kept) c.requires.may) c.in-Err.ensures.step)

pub give_up-requires-clause-present : goal.give_up-requires-clause-present
give_up-requires-clause-present g c κs within = λ same.
    (finish_ends {S = g.row.Q-Stage.Denot} {F = g.row.Q-Fetch.Denot} {H = g.row.Q-Shard.Denot} {T = g.row.Q-Target.Denot} g.Q.Desk.start
    (g.Q.Desk.seen c.args.desk.now) (g.Q.Desk.seen c.finish.new.self) c.args.ticket c.in-Err.refusal c.refusals_are_of_their_steps.ensures c.in-Err.ensures.step).0
    (sym c.ending_of.ensures ∙ same)

pub returns-in-Err-clause-given_up : goal.returns-in-Err-clause-given_up
returns-in-Err-clause-given_up g c =
    let s = g.Q.Desk.start in
    let old = g.Q.Desk.seen c.args.desk.now in
    let mid = g.Q.Desk.seen c.finish.new.self in
    let new = g.Q.Desk.seen c.give_up.new.desk in
    let who = c.args.ticket in
    let e = evidence g.Q.Stage.Counted.faults g.Q.Fetch.Counted.faults g.Q.Shard.Counted.faults g.Q.Target.Counted.faults g.Q.Shard.Shard.told g.Q.Target.Target.told in
    let law = c.refusals_are_of_their_steps.ensures in
    let ends = (finish_ends {S = g.row.Q-Stage.Denot} {F = g.row.Q-Fetch.Denot} {H = g.row.Q-Shard.Denot} {T = g.row.Q-Target.Denot} s old mid who c.in-Err.refusal law c.in-Err.ensures.step).1 in
    let cause = ends_as {S = g.row.Q-Stage.Denot} {F = g.row.Q-Fetch.Denot} {H = g.row.Q-Shard.Denot} {T = g.row.Q-Target.Denot} c.args.hand (ending_at c.in-Err.refusal) ends in
    let shown = finish_shown c.args.hand e s old mid who c.in-Err.refusal law (subst (CanGiveUp c.args.hand) (sym c.in-Err.ensures.kept) c.requires.may) c.in-Err.ensures.step in
    given_up c.args.hand e s old mid new who c.ending_of.result c.give_up.result c.requires.may c.in-Err.ensures.kept
    (subst (λ (ending : Ending g.row.Q-Stage.Denot g.row.Q-Fetch.Denot g.row.Q-Shard.Denot g.row.Q-Target.Denot). EndsAs c.args.hand ending) (sym c.ending_of.ensures) cause)
    (subst (λ (ending : Ending g.row.Q-Stage.Denot g.row.Q-Fetch.Denot g.row.Q-Shard.Denot g.row.Q-Target.Denot). EndingShown c.args.hand e ⊥ s mid who ending) (sym c.ending_of.ensures) shown)
    c.give_up.ensures.end

pub returns-in-Err-clause-grew : goal.returns-in-Err-clause-grew
returns-in-Err-clause-grew g c =
    let s = g.Q.Desk.start in
    let old = g.Q.Desk.seen c.args.desk.now in
    let mid = g.Q.Desk.seen c.finish.new.self in
    grew_by_on s c.args.ticket old mid (g.Q.Desk.seen c.give_up.new.desk) (outcome_grew_by s old mid c.args.ticket FinishStep (λ x. HasEnded) c.finish.result c.finish.ensures.step) c.give_up.ensures.grew

pub returns-in-Err-clause-calls : goal.returns-in-Err-clause-calls
returns-in-Err-clause-calls g c =
    calls_left c.args.hand (ticket_of g.Q.Desk.start (g.Q.Desk.seen c.args.desk.now) c.args.ticket) (g.Q.Desk.calls c.finish.new.self) (g.Q.Desk.calls c.give_up.new.desk) c.requires.may c.give_up.ensures.others ∙ c.finish.ensures.calls
