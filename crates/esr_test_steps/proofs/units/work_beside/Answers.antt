use Rattle.std.proofs.Common.{◌≡◌, [], Result, Ok, Err, OnOk}
use Rattle.esr_test_steps.specs.declared.errors.Trouble.{Trouble}
use Rattle.esr_ops.specs.Units.{given_of}
use Rattle.esr_desk.specs.Calls.{HasTaken}
use Rattle.esr_desk.specs.Grew.{GrewBy}
use Rattle.esr_desk.specs.Own.{made_of}
use Rattle.esr_desk.specs.Taken.{Took}
use Rattle.esr_finish.specs.Runs.{taken_on}
use Rattle.esr_test_steps.proofs.Staying.{is_some, stays_beside, none_beside}
use Rattle.esr_test_steps.proofs.units.work_beside.Goals as goal

pub returns-clause-mine : goal.returns-clause-mine
returns-clause-mine g c = go c.work_unit.result c.work_unit.ensures.calls
  where
    go : (r : Result Unit Trouble) → OnOk r (g.Q.Desk.calls c.work_unit.new.desk ≡ g.Q.Desk.calls c.take.new.desk) → OnOk r (HasTaken (g.Q.Desk.calls c.work_unit.new.desk) c.args.held.now.ready.ticket)
    go (Ok x) same = taken_on (g.Q.Desk.calls c.take.new.desk) (g.Q.Desk.calls c.work_unit.new.desk) c.args.held.now.ready.ticket same (c.in_ok-unit.ensures.more c.args.held.now.ready.ticket c.requires.mine)
    go (Err e) same = tt

pub returns-clause-held : goal.returns-clause-held
returns-clause-held g c = go c.work_unit.result c.work_unit.ensures.grew
  where
    go : (r : Result Unit Trouble) → OnOk r (GrewBy g.Q.Desk.start c.in_ok-unit.unit.ready.ticket (g.Q.Desk.seen c.take.new.desk) (g.Q.Desk.seen c.work_unit.new.desk))
        → OnOk r (Took g.Q.Desk.start (g.Q.Desk.seen c.work_unit.new.desk) c.args.held.now)
    go (Ok x) grew =
        stays_beside g.Q.Desk.start c.requires.alone c.other_tickets_stay.ensures.steps c.other_tickets_stay.ensures.gives (g.Q.Desk.seen c.args.desk.now) (g.Q.Desk.seen c.take.new.desk) (g.Q.Desk.seen c.work_unit.new.desk)
        c.in_ok-unit.unit.ready.ticket c.in_ok-unit.unit.ready.op (given_of c.in_ok-unit.unit.ready) c.args.held.now c.in_ok-unit.ensures.gave grew
        (is_some c.in_ok-unit.unit.ready.ticket c.in_ok-unit.ensures.mine.some) c.if-unit-held.false c.requires.held
    go (Err e) grew = tt

pub returns-clause-new : goal.returns-clause-new
returns-clause-new g c = go c.work_unit.result c.work_unit.ensures.grew
  where
    go : (r : Result Unit Trouble) → OnOk r (GrewBy g.Q.Desk.start c.in_ok-unit.unit.ready.ticket (g.Q.Desk.seen c.take.new.desk) (g.Q.Desk.seen c.work_unit.new.desk))
        → OnOk r (made_of g.Q.Desk.start (g.Q.Desk.seen c.work_unit.new.desk) c.args.held.now.ready.ticket ≡ [])
    go (Ok x) grew =
        none_beside g.Q.Desk.start c.requires.alone (g.Q.Desk.seen c.args.desk.now) (g.Q.Desk.seen c.take.new.desk) (g.Q.Desk.seen c.work_unit.new.desk)
        c.in_ok-unit.unit.ready.ticket c.in_ok-unit.unit.ready.op (given_of c.in_ok-unit.unit.ready) c.args.held.now.ready.ticket c.in_ok-unit.ensures.gave grew
        (is_some c.args.held.now.ready.ticket c.requires.mine.some) c.if-unit-held.false c.requires.new
    go (Err e) grew = tt
