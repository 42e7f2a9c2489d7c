use Rattle.std.proofs.Common.{refl, sym, subst}
use Rattle.esr_core.specs.Entry.{HasEnded}
use Rattle.esr_desk.specs.declared.unit.UnitRefusal.TheVariants.{Failed, Stopped}
use Rattle.esr_desk.specs.Entries.{why_of}
use Rattle.esr_desk.specs.Hands.{fail_step}
use Rattle.esr_desk.specs.Grew.{grew_by_none, outcome_grew_by}
use Rattle.esr_desk.specs.Evidence.{evidence}
use Rattle.esr_unit.specs.declared.ending.Ending.{Ending}
use Rattle.esr_unit.specs.Shown.{EndingShown, MayEnd}
use Rattle.esr_unit.specs.Fail.{GivenUp, IsReported}
use Rattle.esr_unit.proofs.Steps.{mine_on, leaves_on, leaves_none}
use Rattle.esr_desk.specs.Lasting.{shown_on}
use Rattle.esr_unit.proofs.Reports.{fail_halts}
use Rattle.esr_unit.proofs.fail.give_up.Goals as goal

-- ---- it failed

pub fail-requires-clause-may : goal.fail-requires-clause-may
fail-requires-clause-may g c =
    subst (λ (ending : Ending g.row.Q-Stage.Denot g.row.Q-Fetch.Denot g.row.Q-Shard.Denot g.row.Q-Target.Denot). MayEnd c.args.hand g.Q.Desk.start (g.Q.Desk.seen c.args.desk.now) c.args.who ending) c.in-Failed.is c.requires.may

pub fail-requires-clause-shown : goal.fail-requires-clause-shown
fail-requires-clause-shown g c =
    subst (λ (ending : Ending g.row.Q-Stage.Denot g.row.Q-Fetch.Denot g.row.Q-Shard.Denot g.row.Q-Target.Denot). EndingShown c.args.hand
    (evidence g.Q.Stage.Counted.faults g.Q.Fetch.Counted.faults g.Q.Shard.Counted.faults g.Q.Target.Counted.faults g.Q.Shard.Shard.told g.Q.Target.Target.told)
    ⊥ g.Q.Desk.start (g.Q.Desk.seen c.args.desk.now) c.args.who ending) c.in-Failed.is c.requires.shown

pub returns-in-Ok-clause-end : goal.returns-in-Ok-clause-end
returns-in-Ok-clause-end g c =
    let s = g.Q.Desk.start in
    let old = g.Q.Desk.seen c.args.desk.now in
    let new = g.Q.Desk.seen c.fail.new.self in
    let who = c.args.who in
    let why = c.in-Failed.why in
    let by = c.in-Failed.by in
    let e = evidence g.Q.Stage.Counted.faults g.Q.Fetch.Counted.faults g.Q.Shard.Counted.faults g.Q.Target.Counted.faults g.Q.Shard.Shard.told g.Q.Target.Target.told in
    let step = c.in-Ok.ensures.step in
    let shown = subst (λ (ending : Ending g.row.Q-Stage.Denot g.row.Q-Fetch.Denot g.row.Q-Shard.Denot g.row.Q-Target.Denot). EndingShown c.args.hand e ⊥ s old who ending) c.in-Failed.is c.requires.shown in
    let may = subst (λ (ending : Ending g.row.Q-Stage.Denot g.row.Q-Fetch.Denot g.row.Q-Shard.Denot g.row.Q-Target.Denot). MayEnd c.args.hand s old who ending) c.in-Failed.is c.requires.may in
    subst (λ (ending : Ending g.row.Q-Stage.Denot g.row.Q-Fetch.Denot g.row.Q-Shard.Denot g.row.Q-Target.Denot). GivenUp c.args.hand e s old new who ending (Failed why)) (sym c.in-Failed.is) (
      refl,
      c.in-Ok.ensures.own,
      record {
        front = step.front;
        image = step.image;
        is = step.is;
        by = by;
        shown = shown_on c.args.hand e s (g.Q.Desk.calls c.args.desk.now) old step.front who (why_of why) by c.requires.mine may step.waited shown;
      },
    )

pub returns-in-Ok-clause-report : goal.returns-in-Ok-clause-report
returns-in-Ok-clause-report g c =
    subst (λ (ending : Ending g.row.Q-Stage.Denot g.row.Q-Fetch.Denot g.row.Q-Shard.Denot g.row.Q-Target.Denot).
    IsReported c.args.hand g.Q.Desk.start (g.Q.Desk.seen c.args.desk.now) (g.Q.Desk.seen c.fail.new.self) c.args.who ending (Failed c.in-Failed.why)) (sym c.in-Failed.is)
    c.in-Ok.ensures.step

pub returns-in-Ok-clause-grew : goal.returns-in-Ok-clause-grew
returns-in-Ok-clause-grew g c =
    outcome_grew_by g.Q.Desk.start (g.Q.Desk.seen c.args.desk.now) (g.Q.Desk.seen c.fail.new.self) c.args.who (fail_step c.args.hand (why_of c.in-Failed.why)) (λ x. HasEnded) c.fail.result c.fail.ensures.step

pub returns-in-Ok-clause-calls : goal.returns-in-Ok-clause-calls
returns-in-Ok-clause-calls g c =
    mine_on c.args.hand (g.Q.Desk.seen c.fail.new.self) (fail_step c.args.hand (why_of c.in-Failed.why)) (λ x. HasEnded) c.fail.result (g.Q.Desk.calls c.args.desk.now) (g.Q.Desk.calls c.fail.new.self) c.args.who c.fail.ensures.calls c.requires.mine

pub returns-in-Ok-clause-others : goal.returns-in-Ok-clause-others
returns-in-Ok-clause-others g c =
    leaves_on c.args.hand (g.Q.Desk.seen c.fail.new.self) (fail_step c.args.hand (why_of c.in-Failed.why)) (λ x. HasEnded) c.fail.result (g.Q.Desk.calls c.args.desk.now) (g.Q.Desk.calls c.fail.new.self) c.fail.ensures.calls

-- ---- the report was refused

pub returns-in-Err-clause-end : goal.returns-in-Err-clause-end
returns-in-Err-clause-end g c =
    let s = g.Q.Desk.start in
    let old = g.Q.Desk.seen c.args.desk.now in
    let new = g.Q.Desk.seen c.fail.new.self in
    let who = c.args.who in
    let e = evidence g.Q.Stage.Counted.faults g.Q.Fetch.Counted.faults g.Q.Shard.Counted.faults g.Q.Target.Counted.faults g.Q.Shard.Shard.told g.Q.Target.Target.told in
    subst (λ (ending : Ending g.row.Q-Stage.Denot g.row.Q-Fetch.Denot g.row.Q-Shard.Denot g.row.Q-Target.Denot). GivenUp c.args.hand e s old new who ending (Stopped c.in-Err.refusal)) (sym c.in-Failed.is) (record {
      same = c.in-Err.ensures.kept;
      halts =
          fail_halts c.args.hand s old new who (why_of c.in-Failed.why) (subst (λ (ending : Ending g.row.Q-Stage.Denot g.row.Q-Fetch.Denot g.row.Q-Shard.Denot g.row.Q-Target.Denot). MayEnd c.args.hand s old who ending) c.in-Failed.is c.requires.may)
          c.in-Err.ensures.kept c.refusals_are_of_their_steps.ensures c.in-Err.refusal c.in-Err.ensures.step;
    })

pub returns-in-Err-clause-report : goal.returns-in-Err-clause-report
returns-in-Err-clause-report g c =
    subst (λ (ending : Ending g.row.Q-Stage.Denot g.row.Q-Fetch.Denot g.row.Q-Shard.Denot g.row.Q-Target.Denot).
    IsReported c.args.hand g.Q.Desk.start (g.Q.Desk.seen c.args.desk.now) (g.Q.Desk.seen c.fail.new.self) c.args.who ending (Stopped c.in-Err.refusal)) (sym c.in-Failed.is)
    c.in-Err.ensures.step.0

pub returns-in-Err-clause-grew : goal.returns-in-Err-clause-grew
returns-in-Err-clause-grew g c =
    outcome_grew_by g.Q.Desk.start (g.Q.Desk.seen c.args.desk.now) (g.Q.Desk.seen c.fail.new.self) c.args.who (fail_step c.args.hand (why_of c.in-Failed.why)) (λ x. HasEnded) c.fail.result c.fail.ensures.step

pub returns-in-Err-clause-calls : goal.returns-in-Err-clause-calls
returns-in-Err-clause-calls g c =
    mine_on c.args.hand (g.Q.Desk.seen c.fail.new.self) (fail_step c.args.hand (why_of c.in-Failed.why)) (λ x. HasEnded) c.fail.result (g.Q.Desk.calls c.args.desk.now) (g.Q.Desk.calls c.fail.new.self) c.args.who c.fail.ensures.calls c.requires.mine

pub returns-in-Err-clause-others : goal.returns-in-Err-clause-others
returns-in-Err-clause-others g c =
    leaves_on c.args.hand (g.Q.Desk.seen c.fail.new.self) (fail_step c.args.hand (why_of c.in-Failed.why)) (λ x. HasEnded) c.fail.result (g.Q.Desk.calls c.args.desk.now) (g.Q.Desk.calls c.fail.new.self) c.fail.ensures.calls

-- ---- it was stopped

pub returns-in-Stopped-clause-end : goal.returns-in-Stopped-clause-end
returns-in-Stopped-clause-end g c =
    let s = g.Q.Desk.start in
    let old = g.Q.Desk.seen c.args.desk.now in
    let e = evidence g.Q.Stage.Counted.faults g.Q.Fetch.Counted.faults g.Q.Shard.Counted.faults g.Q.Target.Counted.faults g.Q.Shard.Shard.told g.Q.Target.Target.told in
    subst (λ (ending : Ending g.row.Q-Stage.Denot g.row.Q-Fetch.Denot g.row.Q-Shard.Denot g.row.Q-Target.Denot). GivenUp c.args.hand e s old old c.args.who ending (Stopped c.in-Stopped.refusal)) (sym c.in-Stopped.is) (refl, refl)

pub returns-in-Stopped-clause-others : goal.returns-in-Stopped-clause-others
returns-in-Stopped-clause-others g c = leaves_none c.args.hand (g.Q.Desk.calls c.args.desk.now)

pub returns-in-Stopped-clause-grew : goal.returns-in-Stopped-clause-grew
returns-in-Stopped-clause-grew g c = grew_by_none g.Q.Desk.start c.args.who (g.Q.Desk.seen c.args.desk.now)
