use Rattle.std.proofs.Common.{ℕ, None, refl, Ok, Err, inl}
use Rattle.esr_core.specs.Entry.{Clone, AskStep, Accepted}
use Rattle.esr_run.proofs.Making.{made_asked, accepted_none}
use Rattle.esr_quiet.specs.Asking.{asking_stepped}
use Rattle.esr_run.proofs.Lines.{line_asked}
use Rattle.esr_run.proofs.carry.make_clone.Goals as goal

pub returns-in-Err-clause-asked : goal.returns-in-Err-clause-asked
returns-in-Err-clause-asked g c alone =
    let (taken, told, called) = c.in-Err.ensures.step in
    line_asked c.steps_stay.ensures g.Q.Desk.start c.requires.numbered c.requires.ops alone c.requires.earlier (g.Q.Desk.seen c.args.desk.now) (g.Q.Desk.seen c.clone_snapshot.new.self)
    (AskStep (Clone c.args.source.now c.args.name.now c.args.indices.now c.args.moment taken)) (λ (op : ℕ). Accepted op) (Err c.in-Err.refusal)
    (inl (Clone c.args.source.now c.args.name.now c.args.indices.now c.args.moment taken, refl)) accepted_none told

pub returns-clause-asked : goal.returns-clause-asked
returns-clause-asked g c alone =
    let (taken, told, called) = c.in_default.ensures.step in
    line_asked c.steps_stay.ensures g.Q.Desk.start c.requires.numbered c.requires.ops alone c.requires.earlier (g.Q.Desk.seen c.args.desk.now) (g.Q.Desk.seen c.clone_snapshot.new.self)
    (AskStep (Clone c.args.source.now c.args.name.now c.args.indices.now c.args.moment taken)) (λ (op : ℕ). Accepted op) (Ok c.in_default.field-0)
    (inl (Clone c.args.source.now c.args.name.now c.args.indices.now c.args.moment taken, refl)) accepted_none told

pub returns-in-Err-clause-made : goal.returns-in-Err-clause-made
returns-in-Err-clause-made g c =
    let (taken, told, called) = c.in-Err.ensures.step in
    made_asked g.Q.Desk.start (g.Q.Desk.seen c.args.desk.now) (g.Q.Desk.seen c.clone_snapshot.new.self) (AskStep (Clone c.args.source.now c.args.name.now c.args.indices.now c.args.moment taken))
    (AskStep (Clone c.args.source.now c.args.name.now c.args.indices.now c.args.moment None)) c.in-Err.refusal refl told.0

pub returns-clause-made : goal.returns-clause-made
returns-clause-made g c =
    let (taken, told, called) = c.in_default.ensures.step in
    asking_stepped g.Q.Desk.start (g.Q.Desk.seen c.args.desk.now) (g.Q.Desk.seen c.clone_snapshot.new.self) (AskStep (Clone c.args.source.now c.args.name.now c.args.indices.now c.args.moment taken)) (Accepted c.in_default.field-0) told
