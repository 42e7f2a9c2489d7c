use Rattle.std.proofs.Common.{Err, sym, subst}
use Rattle.esr_desk.specs.declared.refusal.StepRefusal.{StepRefusal}
use Rattle.esr_run.proofs.Making.{made_none, some_counts}
use Rattle.esr_run.proofs.Going.{IsEnd, ok_ends, err_ends, end_done, end_elected}
use Rattle.esr_run.proofs.carry.work_out.Goals as goal

pub returns-in-Ok-clause-grew : goal.returns-in-Ok-clause-grew
returns-in-Ok-clause-grew g c = made_none g.Q.Desk.start (g.Q.Desk.seen c.args.desk) (g.Q.Desk.seen c.wait-desk.result.0) c.wait-desk.result.1 c.wait-desk.ensures.made

pub returns-in-Ok-clause-elects : goal.returns-in-Ok-clause-elects
returns-in-Ok-clause-elects g c = some_counts c.args.crew.elections (g.Q.Desk.seen c.args.desk) (g.Q.Desk.seen c.wait-desk.result.0) c.wait-desk.result.1 c.wait-desk.ensures.elects

pub returns-in-Memory-clause-grew : goal.returns-in-Memory-clause-grew
returns-in-Memory-clause-grew g c = made_none g.Q.Desk.start (g.Q.Desk.seen c.args.desk) (g.Q.Desk.seen c.wait-desk.result.0) c.wait-desk.result.1 c.wait-desk.ensures.made

pub returns-in-Memory-clause-elects : goal.returns-in-Memory-clause-elects
returns-in-Memory-clause-elects g c = some_counts c.args.crew.elections (g.Q.Desk.seen c.args.desk) (g.Q.Desk.seen c.wait-desk.result.0) c.wait-desk.result.1 c.wait-desk.ensures.elects

pub returns-in-TurnsSpent-clause-grew : goal.returns-in-TurnsSpent-clause-grew
returns-in-TurnsSpent-clause-grew g c = made_none g.Q.Desk.start (g.Q.Desk.seen c.args.desk) (g.Q.Desk.seen c.wait-desk.result.0) c.wait-desk.result.1 c.wait-desk.ensures.made

pub returns-in-TurnsSpent-clause-elects : goal.returns-in-TurnsSpent-clause-elects
returns-in-TurnsSpent-clause-elects g c = some_counts c.args.crew.elections (g.Q.Desk.seen c.args.desk) (g.Q.Desk.seen c.wait-desk.result.0) c.wait-desk.result.1 c.wait-desk.ensures.elects

pub returns-in-Refused-clause-grew : goal.returns-in-Refused-clause-grew
returns-in-Refused-clause-grew g c = made_none g.Q.Desk.start (g.Q.Desk.seen c.args.desk) (g.Q.Desk.seen c.wait-desk.result.0) c.wait-desk.result.1 c.wait-desk.ensures.made

pub returns-in-Refused-clause-elects : goal.returns-in-Refused-clause-elects
returns-in-Refused-clause-elects g c = some_counts c.args.crew.elections (g.Q.Desk.seen c.args.desk) (g.Q.Desk.seen c.wait-desk.result.0) c.wait-desk.result.1 c.wait-desk.ensures.elects

pub returns-in-Ok-clause-done : goal.returns-in-Ok-clause-done
returns-in-Ok-clause-done g c none = end_done g.Q.Desk.start (g.Q.Desk.seen c.args.desk) (g.Q.Desk.seen c.wait-desk.result.0) c.wait-desk.result.1 (ok_ends c.wait-desk.result.1 tt c.in-Ok.is) c.wait-desk.ensures.rests c.wait-desk.ensures.ended none

pub returns-in-Ok-clause-elected : goal.returns-in-Ok-clause-elected
returns-in-Ok-clause-elected g c =
    end_elected c.args.crew.elections (g.Q.Desk.seen c.args.desk) (g.Q.Desk.seen c.wait-desk.result.0) c.wait-desk.result.1 (ok_ends c.wait-desk.result.1 tt c.in-Ok.is) c.wait-desk.ensures.elects c.wait-desk.ensures.spent

pub returns-in-TurnsSpent-clause-done : goal.returns-in-TurnsSpent-clause-done
returns-in-TurnsSpent-clause-done g c none = end_done g.Q.Desk.start (g.Q.Desk.seen c.args.desk) (g.Q.Desk.seen c.wait-desk.result.0) c.wait-desk.result.1
    (err_ends c.wait-desk.result.1 c.in-Err.refusal c.in-Err.is (subst (λ (e : StepRefusal). IsEnd (Err e)) (sym c.in-TurnsSpent.is) tt)) c.wait-desk.ensures.rests c.wait-desk.ensures.ended none

pub returns-in-TurnsSpent-clause-elected : goal.returns-in-TurnsSpent-clause-elected
returns-in-TurnsSpent-clause-elected g c = end_elected c.args.crew.elections (g.Q.Desk.seen c.args.desk) (g.Q.Desk.seen c.wait-desk.result.0) c.wait-desk.result.1
    (err_ends c.wait-desk.result.1 c.in-Err.refusal c.in-Err.is (subst (λ (e : StepRefusal). IsEnd (Err e)) (sym c.in-TurnsSpent.is) tt)) c.wait-desk.ensures.elects c.wait-desk.ensures.spent

pub returns-in-Refused-clause-done : goal.returns-in-Refused-clause-done
returns-in-Refused-clause-done g c none = end_done g.Q.Desk.start (g.Q.Desk.seen c.args.desk) (g.Q.Desk.seen c.wait-desk.result.0) c.wait-desk.result.1
    (err_ends c.wait-desk.result.1 c.in-Err.refusal c.in-Err.is (subst (λ (e : StepRefusal). IsEnd (Err e)) (sym c.in-Refused.is) tt)) c.wait-desk.ensures.rests c.wait-desk.ensures.ended none

pub returns-in-Refused-clause-elected : goal.returns-in-Refused-clause-elected
returns-in-Refused-clause-elected g c = end_elected c.args.crew.elections (g.Q.Desk.seen c.args.desk) (g.Q.Desk.seen c.wait-desk.result.0) c.wait-desk.result.1
    (err_ends c.wait-desk.result.1 c.in-Err.refusal c.in-Err.is (subst (λ (e : StepRefusal). IsEnd (Err e)) (sym c.in-Refused.is) tt)) c.wait-desk.ensures.elects c.wait-desk.ensures.spent
