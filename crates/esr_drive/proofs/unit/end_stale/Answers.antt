use Rattle.esr_core.specs.Entry.{FinishStep, HasEnded}
use Rattle.esr_desk.specs.Grew.{outcome_grew_by}
use Rattle.esr_drive.proofs.Halting.{finish_halted}
use Rattle.esr_drive.proofs.unit.end_stale.Goals as goal

pub returns-in-Err-clause-stopped : goal.returns-in-Err-clause-stopped
returns-in-Err-clause-stopped g c =
    finish_halted c.laws.ensures g.Q.Desk.start (g.Q.Desk.seen c.args.desk.now) (g.Q.Desk.seen c.finish.new.self) c.args.ticket c.in-Err.refusal c.in-Err.ensures.step c.in-Err.ensures.kept c.requires.work

pub returns-in-Err-clause-grew : goal.returns-in-Err-clause-grew
returns-in-Err-clause-grew g c =
    outcome_grew_by g.Q.Desk.start (g.Q.Desk.seen c.args.desk.now) (g.Q.Desk.seen c.finish.new.self) c.args.ticket FinishStep (λ x. HasEnded) c.finish.result c.finish.ensures.step

pub returns-in-Ok-clause-grew : goal.returns-in-Ok-clause-grew
returns-in-Ok-clause-grew g c =
    outcome_grew_by g.Q.Desk.start (g.Q.Desk.seen c.args.desk.now) (g.Q.Desk.seen c.finish.new.self) c.args.ticket FinishStep (λ x. HasEnded) c.finish.result c.finish.ensures.step
