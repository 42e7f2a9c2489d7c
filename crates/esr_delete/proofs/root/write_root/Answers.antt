use Rattle.std.proofs.Common.{Bool, sym, ap, ◌∙◌, subst}
use Rattle.esr_core.specs.World.{Ticket}
use Rattle.esr_formats.specs.Roots.{root_of}
use Rattle.esr_desk.specs.declared.hand.Hand.TheVariants as hands
use Rattle.esr_desk.specs.Evidence.{evidence}
use Rattle.esr_desk.specs.Start.{ticket_of}
use Rattle.esr_unit.specs.Shown.{Shown}
use Rattle.esr_unit.specs.Refusals.{passed_on}
use Rattle.esr_finish.specs.Runs.{taken_on, went_on}
use Rattle.esr_delete.specs.Planned.{IsPruner}
use Rattle.esr_delete.proofs.Going.{put_shown, latest_shown}
use Rattle.esr_delete.proofs.Rooting.{can_put, pruner_on, latest_there, latest_failed}
use Rattle.esr_delete.proofs.root.write_root.Goals as goal

-- ---- the root wasn't put

pub returns-in_err-generation-clause-trouble : goal.returns-in_err-generation-clause-trouble
returns-in_err-generation-clause-trouble g c =
    let s = g.Q.Desk.start in
    let new = g.Q.Desk.seen c.put_root.new.desk in
    let who = c.args.ticket in
    let e = evidence g.Q.Stage.Counted.faults g.Q.Fetch.Counted.faults g.Q.Shard.Counted.faults g.Q.Target.Counted.faults g.Q.Shard.Shard.told g.Q.Target.Target.told in
    let own = pruner_on (ticket_of s (g.Q.Desk.seen c.args.desk.now) who) (ticket_of s new who) c.args.clean c.requires.pruner c.put_root.ensures.went.worked in
    let trouble = c.in_err-generation.field-0.0 in
    passed_on c.from_residual.result (Shown hands.Delete e ⊥ s new who) trouble c.from_residual.ensures.1 (put_shown e s new who trouble own.uuids own.plan c.refusals_are_of_their_steps.ensures own.out own.work c.in_err-generation.ensures.refused)

-- ---- `index.latest`

pub try_latest-requires-clause-mine : goal.try_latest-requires-clause-mine
try_latest-requires-clause-mine g c κs within = taken_on (g.Q.Desk.calls c.args.desk.now) (g.Q.Desk.calls c.put_root.new.desk) c.args.ticket c.put_root.ensures.calls c.requires.mine

pub try_latest-requires-clause-may : goal.try_latest-requires-clause-may
try_latest-requires-clause-may g c κs within =
    let s = g.Q.Desk.start in
    let who = c.args.ticket in
    can_put s (ticket_of s (g.Q.Desk.seen c.args.desk.now) who) (ticket_of s (g.Q.Desk.seen c.put_root.new.desk) who) (root_of c.args.root.now) c.in_ok-generation.generation c.requires.may c.in_ok-generation.ensures.ok

pub try_latest-requires-clause-untried : goal.try_latest-requires-clause-untried
try_latest-requires-clause-untried g c κs within = ap (λ (t : Ticket). t.tried_latest) c.in_ok-generation.ensures.ok.is ∙ c.requires.untried

pub returns-in_err-put-clause-trouble : goal.returns-in_err-put-clause-trouble
returns-in_err-put-clause-trouble g c =
    let s = g.Q.Desk.start in
    let new = g.Q.Desk.seen c.try_latest.new.desk in
    let who = c.args.ticket in
    let e = evidence g.Q.Stage.Counted.faults g.Q.Fetch.Counted.faults g.Q.Shard.Counted.faults g.Q.Target.Counted.faults g.Q.Shard.Shard.told g.Q.Target.Target.told in
    let went = went_on s (g.Q.Desk.seen c.args.desk.now) (g.Q.Desk.seen c.put_root.new.desk) (g.Q.Desk.seen c.try_latest.new.desk) c.args.ticket c.put_root.ensures.went c.try_latest.ensures.went in
    let own = pruner_on (ticket_of s (g.Q.Desk.seen c.args.desk.now) who) (ticket_of s new who) c.args.clean c.requires.pruner went.worked in
    let trouble = c.in_err-put.field-0.0 in
    passed_on c.from_residual-in_err-put.result (Shown hands.Delete e ⊥ s new who) trouble c.from_residual-in_err-put.ensures.1
    (put_shown e s new who trouble own.uuids own.plan c.refusals_are_of_their_steps.ensures own.out own.work c.in_err-put.ensures.refused)

pub returns-in_err-put-clause-went : goal.returns-in_err-put-clause-went
returns-in_err-put-clause-went g c =
    went_on g.Q.Desk.start (g.Q.Desk.seen c.args.desk.now) (g.Q.Desk.seen c.put_root.new.desk) (g.Q.Desk.seen c.try_latest.new.desk) c.args.ticket c.put_root.ensures.went c.try_latest.ensures.went

pub returns-in_err-put-clause-calls : goal.returns-in_err-put-clause-calls
returns-in_err-put-clause-calls g c = c.try_latest.ensures.calls ∙ c.put_root.ensures.calls

-- ---- it goes on

pub returns-then-goes_on-clause-ok : goal.returns-then-goes_on-clause-ok
returns-then-goes_on-clause-ok g c = record { mid = ticket_of g.Q.Desk.start (g.Q.Desk.seen c.put_root.new.desk) c.args.ticket; wrote = c.in_ok-generation.ensures.ok; is = c.in_ok-put.ensures.ok }

pub returns-then-goes_on-clause-put : goal.returns-then-goes_on-clause-put
returns-then-goes_on-clause-put g c = latest_there g.Q.Desk.start (g.Q.Desk.seen c.try_latest.new.desk) c.args.ticket c.in_ok-put.put c.args.clean (sym c.goes_on.ensures ∙ c.if-goes_on.true) c.in_ok-put.ensures.put

pub returns-then-goes_on-clause-went : goal.returns-then-goes_on-clause-went
returns-then-goes_on-clause-went g c =
    went_on g.Q.Desk.start (g.Q.Desk.seen c.args.desk.now) (g.Q.Desk.seen c.put_root.new.desk) (g.Q.Desk.seen c.try_latest.new.desk) c.args.ticket c.put_root.ensures.went c.try_latest.ensures.went

pub returns-then-goes_on-clause-calls : goal.returns-then-goes_on-clause-calls
returns-then-goes_on-clause-calls g c = c.try_latest.ensures.calls ∙ c.put_root.ensures.calls

-- ---- it doesn't

pub returns-else-goes_on-clause-trouble : goal.returns-else-goes_on-clause-trouble
returns-else-goes_on-clause-trouble g c =
    let s = g.Q.Desk.start in
    let new = g.Q.Desk.seen c.try_latest.new.desk in
    let who = c.args.ticket in
    let e = evidence g.Q.Stage.Counted.faults g.Q.Fetch.Counted.faults g.Q.Shard.Counted.faults g.Q.Target.Counted.faults g.Q.Shard.Shard.told g.Q.Target.Target.told in
    let failed = latest_failed s new who c.in_ok-put.put c.args.clean (sym c.goes_on.ensures ∙ c.if-goes_on.false) c.in_ok-put.ensures.put in
    let went = went_on s (g.Q.Desk.seen c.args.desk.now) (g.Q.Desk.seen c.put_root.new.desk) (g.Q.Desk.seen c.try_latest.new.desk) c.args.ticket c.put_root.ensures.went c.try_latest.ensures.went in
    let own = pruner_on (ticket_of s (g.Q.Desk.seen c.args.desk.now) who) (ticket_of s new who) c.args.clean c.requires.pruner went.worked in
    latest_shown e s new who c.refusals_are_of_their_steps.ensures (subst (λ (b : Bool). IsPruner (ticket_of s new who) b) failed.0 own) failed.1

pub returns-else-goes_on-clause-went : goal.returns-else-goes_on-clause-went
returns-else-goes_on-clause-went g c =
    went_on g.Q.Desk.start (g.Q.Desk.seen c.args.desk.now) (g.Q.Desk.seen c.put_root.new.desk) (g.Q.Desk.seen c.try_latest.new.desk) c.args.ticket c.put_root.ensures.went c.try_latest.ensures.went

pub returns-else-goes_on-clause-calls : goal.returns-else-goes_on-clause-calls
returns-else-goes_on-clause-calls g c = c.try_latest.ensures.calls ∙ c.put_root.ensures.calls
