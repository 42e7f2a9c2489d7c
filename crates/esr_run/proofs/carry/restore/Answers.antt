use Rattle.std.proofs.Common.{map, refl, Ok, Err, inl}
use Rattle.esr_core.specs.Entry.{Restore, AskStep, AcceptedRestore}
use Rattle.esr_formats.specs.Refs.{ref_of_code}
use Rattle.esr_desk.specs.declared.unit.AcceptedRestore.{AcceptedRestore as Answer}
use Rattle.esr_run.proofs.Making.{made_refused, restore_none}
use Rattle.esr_quiet.specs.Asking.{asking_stepped}
use Rattle.esr_run.proofs.Lines.{line_asked}
use Rattle.esr_run.proofs.carry.restore.Goals as goal

pub returns-in-Err-clause-asked : goal.returns-in-Err-clause-asked
returns-in-Err-clause-asked g c alone =
    line_asked c.steps_stay.ensures g.Q.Desk.start c.requires.numbered c.requires.ops alone c.requires.earlier (g.Q.Desk.seen c.args.desk.now) (g.Q.Desk.seen c.restore.new.self)
    (AskStep (Restore c.args.name.now c.args.place.now)) (λ (a : Answer). AcceptedRestore a.op a.uuid.number (map ref_of_code a.indices)) (Err c.in-Err.refusal)
    (inl (Restore c.args.name.now c.args.place.now, refl)) (λ a. restore_none a.op a.uuid.number (map ref_of_code a.indices)) c.in-Err.ensures.step

pub returns-clause-asked : goal.returns-clause-asked
returns-clause-asked g c alone =
    line_asked c.steps_stay.ensures g.Q.Desk.start c.requires.numbered c.requires.ops alone c.requires.earlier (g.Q.Desk.seen c.args.desk.now) (g.Q.Desk.seen c.restore.new.self)
    (AskStep (Restore c.args.name.now c.args.place.now)) (λ (a : Answer). AcceptedRestore a.op a.uuid.number (map ref_of_code a.indices)) (Ok c.in_default.field-0)
    (inl (Restore c.args.name.now c.args.place.now, refl)) (λ a. restore_none a.op a.uuid.number (map ref_of_code a.indices)) c.in_default.ensures.step

pub returns-in-Err-clause-made : goal.returns-in-Err-clause-made
returns-in-Err-clause-made g c = made_refused g.Q.Desk.start (g.Q.Desk.seen c.args.desk.now) (g.Q.Desk.seen c.restore.new.self) (AskStep (Restore c.args.name.now c.args.place.now)) c.in-Err.refusal refl c.in-Err.ensures.step.0

pub returns-clause-made : goal.returns-clause-made
returns-clause-made g c =
    asking_stepped g.Q.Desk.start (g.Q.Desk.seen c.args.desk.now) (g.Q.Desk.seen c.restore.new.self) (AskStep (Restore c.args.name.now c.args.place.now))
    (AcceptedRestore c.in_default.field-0.op c.in_default.field-0.uuid.number (map ref_of_code c.in_default.field-0.indices)) c.in_default.ensures.step
