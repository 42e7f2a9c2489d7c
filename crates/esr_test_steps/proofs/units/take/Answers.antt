use Rattle.esr_core.specs.Entry.{TakeStep}
use Rattle.esr_desk.specs.Outcome.{take_reply}
use Rattle.esr_test_steps.proofs.Staying.{taken_more}
use Rattle.esr_test_steps.proofs.units.take.Goals as goal

pub returns-clause-more : goal.returns-clause-more
returns-clause-more g c = λ ticket was.
    taken_more (g.Q.Desk.seen c.take.new.self) TakeStep (take_reply c.in_ok-unit.field-0) (g.Q.Desk.calls c.args.desk.now) (g.Q.Desk.calls c.take.new.self) ticket c.in_ok-unit.ensures.calls was
