use Rattle.std.proofs.Common.{Err, ◌-◌, length, arith}
use Rattle.esr_core.specs.Entry.{ElectedTerm, Refused}
use Rattle.esr_desk.specs.declared.refusal.StepRefusal.TheVariants.{Memory, TurnsSpent}
use Rattle.esr_desk.specs.Refusals.{refusal_of}
use Rattle.esr_drive.proofs.Working.{elected_none, elected_one}
use Rattle.esr_drive.proofs.workers.elect.Goals as goal

pub returns-in-Ok-clause-calls : goal.returns-in-Ok-clause-calls
returns-in-Ok-clause-calls g c = elected_one (g.Q.Desk.calls c.args.desk.now) (g.Q.Desk.calls c.elect.new.self) (length (g.Q.Desk.seen c.elect.new.self) - 1) (ElectedTerm c.in-Ok.field-0) c.in-Ok.ensures.calls (λ k o u is. cc)

pub returns-in-Err-Refused-clause-calls : goal.returns-in-Err-Refused-clause-calls
returns-in-Err-Refused-clause-calls g c = elected_one (g.Q.Desk.calls c.args.desk.now) (g.Q.Desk.calls c.elect.new.self) (length (g.Q.Desk.seen c.elect.new.self) - 1)
    (Refused (refusal_of c.in-Err-Refused.field-0-0)) (rw c.in-Err-Refused.field-0-is at c.in-Err-Refused.ensures.calls) (λ k o u is. cc)

pub returns-in-Err-Memory-clause-calls : goal.returns-in-Err-Memory-clause-calls
returns-in-Err-Memory-clause-calls g c = elected_none (g.Q.Desk.calls c.args.desk.now) (g.Q.Desk.calls c.elect.new.self) (Err Memory) 1 (rw c.in-Err-Memory.field-0-is at c.in-Err-Memory.ensures.calls) (omega arith)

pub returns-in-Err-TurnsSpent-clause-calls : goal.returns-in-Err-TurnsSpent-clause-calls
returns-in-Err-TurnsSpent-clause-calls g c = elected_none (g.Q.Desk.calls c.args.desk.now) (g.Q.Desk.calls c.elect.new.self) (Err TurnsSpent) 1 (rw c.in-Err-TurnsSpent.field-0-is at c.in-Err-TurnsSpent.ensures.calls) (omega arith)

pub returns-in-Err-TurnsSpent-clause-stopped : goal.returns-in-Err-TurnsSpent-clause-stopped
returns-in-Err-TurnsSpent-clause-stopped g c = (rw c.in-Err-TurnsSpent.field-0-is at c.in-Err-TurnsSpent.ensures.step).1
