use Rattle.esr_run.proofs.Making.{rests_waiting, wait_ends, spends_waiting, made_waiting}
use Rattle.esr_run.proofs.Verifying.{waits_may, waits_closed, waits_whole, verifies_by}
use Rattle.esr_run.proofs.carry.wait.Goals as goal

pub returns-clause-made : goal.returns-clause-made
returns-clause-made g c = made_waiting g.Q.Desk.start (g.Q.Desk.seen c.args.desk) (g.Q.Desk.seen c.sit.result.0) c.sit.result.1 c.sit.ensures.grew

pub returns-clause-rests : goal.returns-clause-rests
returns-clause-rests g c none = rests_waiting g.Q.Desk.start (g.Q.Desk.seen c.args.desk) (g.Q.Desk.seen c.sit.result.0) c.sit.result.1 c.requires.earlier c.sit.ensures.rest c.sit.ensures.readers c.sit.ensures.stopped none

pub returns-clause-spent : goal.returns-clause-spent
returns-clause-spent g c = spends_waiting g.Q.Desk.start (g.Q.Desk.seen c.sit.result.0) c.sit.result.1 c.requires.earlier c.sit.ensures.stopped

pub returns-clause-ended : goal.returns-clause-ended
returns-clause-ended g c = wait_ends g.Q.Desk.start (g.Q.Desk.seen c.sit.result.0) c.sit.result.1 c.sit.ensures.ready c.sit.ensures.stopped

pub returns-clause-takes : goal.returns-clause-takes
returns-clause-takes g c = c.sit.ensures.takes

pub returns-clause-elects : goal.returns-clause-elects
returns-clause-elects g c = c.sit.ensures.elected

pub returns-clause-only : goal.returns-clause-only
returns-clause-only g c = c.sit.ensures.only

pub returns-clause-verified : goal.returns-clause-verified
returns-clause-verified g c checks may =
    verifies_by g.Q.Desk.start c.args.crew.workers checks (g.Q.Desk.seen c.sit.result.0) c.sit.result.1
    (waits_may c.work_leaves.ensures g.Q.Desk.start c.args.crew.workers checks (g.Q.Desk.seen c.args.desk) (g.Q.Desk.seen c.sit.result.0) c.sit.ensures.only c.sit.ensures.grew.legal may)

pub returns-clause-whole : goal.returns-clause-whole
returns-clause-whole g c workers checks was = waits_whole g.Q.Desk.start workers checks (g.Q.Desk.seen c.args.desk) (g.Q.Desk.seen c.sit.result.0) c.sit.ensures.only was

pub returns-clause-closed : goal.returns-clause-closed
returns-clause-closed g c closed = waits_closed c.work_leaves.ensures g.Q.Desk.start (g.Q.Desk.seen c.args.desk) (g.Q.Desk.seen c.sit.result.0) c.sit.ensures.only c.sit.ensures.grew.legal c.requires.legal closed
