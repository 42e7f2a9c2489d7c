use Rattle.std.proofs.Common.{◌≡◌, true≢false, refl, sym, ◌∙◌, arith}
use Rattle.esr_core.specs.Entry.{TakeStep, NothingReady}
use Rattle.esr_ops.specs.Units.{given_of}
use Rattle.esr_desk.specs.Calls.{with_call}
use Rattle.esr_desk.specs.Outcome.{Stepped, take_reply}
use Rattle.esr_desk.specs.Refusals.{told_refusal}
use Rattle.esr_quiet.specs.Asking.{asking_stepped, asking_taking}
use Rattle.esr_drive.proofs.Going.{took_none, took_some, called_none, called_some}
use Rattle.esr_drive.proofs.Halting.{take_stopped, unit_stopped}
use Rattle.esr_drive.proofs.Resting.{took_number, nothing_none, step_rest, step_readers}
use Rattle.esr_drive.proofs.Rounds.{gift, Round, round_longer, round_asks, round_works, round_idle, round_rest, round_readers}
use Rattle.esr_drive.proofs.Taking.{calls_took, calls_refused, ended_took, ended_idle}
use Rattle.esr_drive.proofs.Works.{works_took, works_refused}
use Rattle.esr_drive.specs.Takes.{idle_takes, stepped_takes, refused_takes}
use Rattle.esr_drive.proofs.worker.work_next.Goals as goal
use Rattle.esr_drive.proofs.worker.work_next.Goals.{In-Ok-None, After-do_next}

-- ---- no unit is ready

idle_at : (g : _) (c : In-Ok-None g) → Stepped g.Q.Desk.start (g.Q.Desk.seen c.args.desk.now) (g.Q.Desk.seen c.take.new.self) 0 TakeStep NothingReady
idle_at g c = took_none g.Q.Desk.start (g.Q.Desk.seen c.args.desk.now) (g.Q.Desk.seen c.take.new.self) c.in-Ok-None.field-0 c.in-Ok-None.field-0-is c.in-Ok-None.ensures.step

idle_called_at : (g : _) (c : In-Ok-None g) → g.Q.Desk.calls c.take.new.self ≡ with_call (g.Q.Desk.seen c.take.new.self) TakeStep NothingReady (g.Q.Desk.calls c.args.desk.now)
idle_called_at g c = called_none (g.Q.Desk.seen c.take.new.self) (g.Q.Desk.calls c.args.desk.now) (g.Q.Desk.calls c.take.new.self) c.in-Ok-None.field-0 c.in-Ok-None.field-0-is c.in-Ok-None.ensures.calls

pub returns-in-Ok-None-clause-idle : goal.returns-in-Ok-None-clause-idle
returns-in-Ok-None-clause-idle g c = λ none. idle_at g (goal.at.returns-in-Ok-None-clause-idle g c).In-Ok-None

pub returns-in-Ok-None-clause-longer : goal.returns-in-Ok-None-clause-longer
returns-in-Ok-None-clause-longer g c = λ did. absurd (true≢false (sym did))

pub returns-in-Ok-None-clause-rest : goal.returns-in-Ok-None-clause-rest
returns-in-Ok-None-clause-rest g c alone rest =
    step_rest c.laws.ensures g.Q.Desk.start alone (g.Q.Desk.seen c.args.desk.now) (g.Q.Desk.seen c.take.new.self) TakeStep NothingReady nothing_none (idle_at g (goal.at.returns-in-Ok-None-clause-rest g c).In-Ok-None) rest

pub returns-in-Ok-None-clause-readers : goal.returns-in-Ok-None-clause-readers
returns-in-Ok-None-clause-readers g c alone rest =
    step_readers c.laws.ensures g.Q.Desk.start alone (g.Q.Desk.seen c.args.desk.now) (g.Q.Desk.seen c.take.new.self) TakeStep NothingReady nothing_none (idle_at g (goal.at.returns-in-Ok-None-clause-readers g c).In-Ok-None) rest

pub returns-in-Ok-None-clause-grew : goal.returns-in-Ok-None-clause-grew
returns-in-Ok-None-clause-grew g c = asking_stepped g.Q.Desk.start (g.Q.Desk.seen c.args.desk.now) (g.Q.Desk.seen c.take.new.self) TakeStep NothingReady (idle_at g (goal.at.returns-in-Ok-None-clause-grew g c).In-Ok-None)

pub returns-in-Ok-None-clause-only : goal.returns-in-Ok-None-clause-only
returns-in-Ok-None-clause-only g c alone = works_took g.Q.Desk.start (g.Q.Desk.seen c.args.desk.now) (g.Q.Desk.seen c.take.new.self) NothingReady alone (idle_at g (goal.at.returns-in-Ok-None-clause-only g c).In-Ok-None)

pub returns-in-Ok-None-clause-takes : goal.returns-in-Ok-None-clause-takes
returns-in-Ok-None-clause-takes g c alone = stepped_takes g.Q.Desk.start (g.Q.Desk.seen c.args.desk.now) (g.Q.Desk.seen c.take.new.self) TakeStep NothingReady alone (idle_at g (goal.at.returns-in-Ok-None-clause-takes g c).In-Ok-None)

pub returns-in-Ok-None-clause-calls : goal.returns-in-Ok-None-clause-calls
returns-in-Ok-None-clause-calls g c = calls_took (g.Q.Desk.seen c.take.new.self) NothingReady (g.Q.Desk.calls c.args.desk.now) (g.Q.Desk.calls c.take.new.self) (idle_called_at g (goal.at.returns-in-Ok-None-clause-calls g c).In-Ok-None)

pub returns-in-Ok-None-clause-ended : goal.returns-in-Ok-None-clause-ended
returns-in-Ok-None-clause-ended g c =
    let log = g.Q.Desk.seen c.take.new.self in
    ended_idle g.Q.Desk.start log log (g.Q.Desk.calls c.args.desk.now) (g.Q.Desk.calls c.take.new.self) (idle_called_at g (goal.at.returns-in-Ok-None-clause-ended g c).In-Ok-None)

-- ---- the take was refused

pub returns-in-Err-clause-stopped : goal.returns-in-Err-clause-stopped
returns-in-Err-clause-stopped g c = take_stopped c.laws.ensures g.Q.Desk.start (g.Q.Desk.seen c.args.desk.now) (g.Q.Desk.seen c.take.new.self) take_reply c.in-Err.refusal c.in-Err.ensures.step

pub returns-in-Err-clause-grew : goal.returns-in-Err-clause-grew
returns-in-Err-clause-grew g c = asking_taking g.Q.Desk.start (g.Q.Desk.seen c.args.desk.now) (g.Q.Desk.seen c.take.new.self) (told_refusal c.in-Err.refusal) c.in-Err.ensures.step.0

pub returns-in-Err-clause-only : goal.returns-in-Err-clause-only
returns-in-Err-clause-only g c alone = works_refused g.Q.Desk.start (g.Q.Desk.seen c.args.desk.now) (g.Q.Desk.seen c.take.new.self) (told_refusal c.in-Err.refusal) alone c.in-Err.ensures.step.0

pub returns-in-Err-clause-takes : goal.returns-in-Err-clause-takes
returns-in-Err-clause-takes g c alone =
    let old = g.Q.Desk.seen c.args.desk.now in
    let new = g.Q.Desk.seen c.take.new.self in
    let same : idle_takes new ≡ idle_takes old = refused_takes g.Q.Desk.start old new TakeStep (told_refusal c.in-Err.refusal) alone (λ r. refl) c.in-Err.ensures.step.0 in
    omega (arith, same)

pub returns-in-Err-clause-calls : goal.returns-in-Err-clause-calls
returns-in-Err-clause-calls g c = calls_refused (g.Q.Desk.seen c.take.new.self) (told_refusal c.in-Err.refusal) (g.Q.Desk.calls c.args.desk.now) (g.Q.Desk.calls c.take.new.self) c.in-Err.ensures.calls

-- ---- the unit was worked

round_at : (g : _) (c : After-do_next g) → Round g.Q.Desk.start (g.Q.Desk.seen c.args.desk.now) (g.Q.Desk.seen c.take.new.self) (g.Q.Desk.seen c.do_next.new.desk) c.in-Ok-Some.unit
round_at g c =
    let took = c.in-Ok-Some in
    record {
      some = took_number (g.Q.Desk.calls c.take.new.self) took.field-0 took.unit took.field-0-is took.ensures.mine;
      gave = took_some g.Q.Desk.start (g.Q.Desk.seen c.args.desk.now) (g.Q.Desk.seen c.take.new.self) took.field-0 took.unit took.field-0-is took.ensures.step;
      grew = c.do_next.ensures.grew;
    }

called_at : (g : _) (c : After-do_next g) → g.Q.Desk.calls c.do_next.new.desk ≡ with_call (g.Q.Desk.seen c.take.new.self) TakeStep (gift c.in-Ok-Some.unit) (g.Q.Desk.calls c.args.desk.now)
called_at g c =
    let took = c.in-Ok-Some in
    c.do_next.ensures.calls ∙ called_some (g.Q.Desk.seen c.take.new.self) (g.Q.Desk.calls c.args.desk.now) (g.Q.Desk.calls c.take.new.self) took.field-0 took.unit took.field-0-is took.ensures.calls

pub returns-in-Ok-clause-idle : goal.returns-in-Ok-clause-idle
returns-in-Ok-clause-idle g c = λ none. absurd (true≢false none)

pub returns-in-Ok-clause-longer : goal.returns-in-Ok-clause-longer
returns-in-Ok-clause-longer g c = λ did. round_longer (round_at g (goal.at.returns-in-Ok-clause-longer g c).After-do_next)

pub returns-in-Ok-clause-rest : goal.returns-in-Ok-clause-rest
returns-in-Ok-clause-rest g c alone rest = round_rest (round_at g (goal.at.returns-in-Ok-clause-rest g c).After-do_next) c.laws.ensures alone c.in-Ok.ensures.over rest

pub returns-in-Ok-clause-readers : goal.returns-in-Ok-clause-readers
returns-in-Ok-clause-readers g c alone rest = round_readers (round_at g (goal.at.returns-in-Ok-clause-readers g c).After-do_next) c.laws.ensures alone c.in-Ok.ensures.over rest

pub returns-in-Ok-clause-grew : goal.returns-in-Ok-clause-grew
returns-in-Ok-clause-grew g c = round_asks (round_at g (goal.at.returns-in-Ok-clause-grew g c).After-do_next)

pub returns-in-Ok-clause-only : goal.returns-in-Ok-clause-only
returns-in-Ok-clause-only g c alone = round_works (round_at g (goal.at.returns-in-Ok-clause-only g c).After-do_next) alone

pub returns-in-Ok-clause-takes : goal.returns-in-Ok-clause-takes
returns-in-Ok-clause-takes g c alone =
    let same : idle_takes (g.Q.Desk.seen c.do_next.new.desk) ≡ idle_takes (g.Q.Desk.seen c.args.desk.now) = round_idle (round_at g (goal.at.returns-in-Ok-clause-takes g c).After-do_next) alone in
    omega (arith, same)

pub returns-in-Ok-clause-calls : goal.returns-in-Ok-clause-calls
returns-in-Ok-clause-calls g c =
    calls_took (g.Q.Desk.seen c.take.new.self) (gift c.in-Ok-Some.unit) (g.Q.Desk.calls c.args.desk.now) (g.Q.Desk.calls c.do_next.new.desk) (called_at g (goal.at.returns-in-Ok-clause-calls g c).After-do_next)

pub returns-in-Ok-clause-ended : goal.returns-in-Ok-clause-ended
returns-in-Ok-clause-ended g c =
    let unit = c.in-Ok-Some.unit in
    ended_took g.Q.Desk.start (g.Q.Desk.seen c.take.new.self) (g.Q.Desk.seen c.do_next.new.desk) unit.ready.ticket unit.ready.op (given_of unit.ready) (g.Q.Desk.calls c.args.desk.now) (g.Q.Desk.calls c.do_next.new.desk)
    (called_at g (goal.at.returns-in-Ok-clause-ended g c).After-do_next) c.in-Ok.ensures.over

-- ---- the unit was stopped

pub returns-in-Err-do_next-clause-stopped : goal.returns-in-Err-do_next-clause-stopped
returns-in-Err-do_next-clause-stopped g c =
    let round = round_at g (goal.at.returns-in-Err-do_next-clause-stopped g c).After-do_next in
    unit_stopped g.Q.Desk.start (g.Q.Desk.seen c.do_next.new.desk) c.in-Ok-Some.unit.ready.ticket c.in-Err-do_next.refusal round.some c.in-Err-do_next.ensures.stopped

pub returns-in-Err-do_next-clause-grew : goal.returns-in-Err-do_next-clause-grew
returns-in-Err-do_next-clause-grew g c = round_asks (round_at g (goal.at.returns-in-Err-do_next-clause-grew g c).After-do_next)

pub returns-in-Err-do_next-clause-only : goal.returns-in-Err-do_next-clause-only
returns-in-Err-do_next-clause-only g c alone = round_works (round_at g (goal.at.returns-in-Err-do_next-clause-only g c).After-do_next) alone

pub returns-in-Err-do_next-clause-takes : goal.returns-in-Err-do_next-clause-takes
returns-in-Err-do_next-clause-takes g c alone =
    let same : idle_takes (g.Q.Desk.seen c.do_next.new.desk) ≡ idle_takes (g.Q.Desk.seen c.args.desk.now) = round_idle (round_at g (goal.at.returns-in-Err-do_next-clause-takes g c).After-do_next) alone in
    omega (arith, same)

pub returns-in-Err-do_next-clause-calls : goal.returns-in-Err-do_next-clause-calls
returns-in-Err-do_next-clause-calls g c =
    calls_took (g.Q.Desk.seen c.take.new.self) (gift c.in-Ok-Some.unit) (g.Q.Desk.calls c.args.desk.now) (g.Q.Desk.calls c.do_next.new.desk) (called_at g (goal.at.returns-in-Err-do_next-clause-calls g c).After-do_next)
