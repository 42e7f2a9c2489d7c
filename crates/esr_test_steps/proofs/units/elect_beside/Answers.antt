use Rattle.esr_core.specs.Entry.{ElectStep, ElectedTerm}
use Rattle.esr_test_steps.proofs.Staying.{is_some, stays_elected, none_elected, taken_more}
use Rattle.esr_test_steps.proofs.units.elect_beside.Goals as goal

pub returns-clause-mine : goal.returns-clause-mine
returns-clause-mine g c =
    taken_more (g.Q.Desk.seen c.elect.new.self) ElectStep (ElectedTerm c.in_ok-elect.field-0) (g.Q.Desk.calls c.args.desk.now) (g.Q.Desk.calls c.elect.new.self) c.args.held.now.ready.ticket c.in_ok-elect.ensures.calls c.requires.mine

pub returns-clause-held : goal.returns-clause-held
returns-clause-held g c =
    stays_elected g.Q.Desk.start c.requires.alone c.other_tickets_stay.ensures.nothing (g.Q.Desk.seen c.args.desk.now) (g.Q.Desk.seen c.elect.new.self) c.in_ok-elect.field-0 c.args.held.now c.in_ok-elect.ensures.step
    (is_some c.args.held.now.ready.ticket c.requires.mine.some) c.requires.held

pub returns-clause-new : goal.returns-clause-new
returns-clause-new g c =
    none_elected g.Q.Desk.start c.requires.alone (g.Q.Desk.seen c.args.desk.now) (g.Q.Desk.seen c.elect.new.self) c.in_ok-elect.field-0 c.args.held.now.ready.ticket c.in_ok-elect.ensures.step
    (is_some c.args.held.now.ready.ticket c.requires.mine.some) c.requires.new
