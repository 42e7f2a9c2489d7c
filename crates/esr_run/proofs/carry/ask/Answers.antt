use Rattle.std.proofs.Common.{◌≡◌, List, ap, subst, refl, Result, Ok, Err, IfOk, inl}
use Rattle.std.specs.declared.alloc.AllocError.{AllocError}
use Rattle.esr_core.specs.Entry.{Asked, Step, AskStep, Accepted}
use Rattle.esr_ops.specs.declared.command.Command.{Command}
use Rattle.esr_ops.specs.Asked.{asked_of, IsForOp}
use Rattle.esr_quiet.specs.Asked.{as_asked, GrewAsking}
use Rattle.esr_quiet.specs.Asking.{asks_of, asking_stepped}
use Rattle.esr_run.proofs.Making.{made_asked, accepted_none}
use Rattle.esr_run.proofs.Verifying.{none_asked}
use Rattle.esr_run.proofs.Lines.{line_asked}
use Rattle.esr_run.proofs.Alone.{asks_same}
use Rattle.esr_run.proofs.carry.ask.Goals as goal

pub ask-requires : goal.ask-requires
ask-requires g c = subst (λ (r : Result Command AllocError). IfOk r (λ x. IsForOp (asked_of x))) c.in-Ok.is c.requires.may

pub returns-in-Ok-ask-clause-asked : goal.returns-in-Ok-ask-clause-asked
returns-in-Ok-ask-clause-asked g c alone =
    line_asked c.steps_stay.ensures g.Q.Desk.start c.requires.numbered c.requires.ops alone c.requires.earlier (g.Q.Desk.seen c.args.desk.now) (g.Q.Desk.seen c.ask.new.self)
    (AskStep (asked_of c.in-Ok.command)) (λ op. Accepted op) (Ok c.in-Ok-ask.field-0) (inl (asked_of c.in-Ok.command, refl)) accepted_none c.in-Ok-ask.ensures.step

pub returns-clause-asked : goal.returns-clause-asked
returns-clause-asked g c alone =
    line_asked c.steps_stay.ensures g.Q.Desk.start c.requires.numbered c.requires.ops alone c.requires.earlier (g.Q.Desk.seen c.args.desk.now) (g.Q.Desk.seen c.ask.new.self)
    (AskStep (asked_of c.in-Ok.command)) (λ op. Accepted op) (Err c.in-Err.refusal) (inl (asked_of c.in-Ok.command, refl)) accepted_none c.in-Err.ensures.step

pub returns-in_default-clause-asked : goal.returns-in_default-clause-asked
returns-in_default-clause-asked g c alone =
    record { rests = λ was. tt; spent = tt; takes = refl; only = asks_same (g.Q.Desk.seen c.args.desk.now) (g.Q.Desk.seen c.args.desk.now) refl; verified = λ workers checks may. may.whole }

pub returns-in_default-clause-made : goal.returns-in_default-clause-made
returns-in_default-clause-made g c wanted is = none_asked g.Q.Desk.start _ (g.Q.Desk.seen c.args.desk.now) (g.Q.Desk.seen c.args.desk.now) refl

-- the command is the one that was wanted
is_wanted : (r : Result Command AllocError) (command : Command) (wanted : Asked) → r ≡ Ok command → IfOk r (λ x. asked_of x ≡ wanted) → asks_of (AskStep (asked_of command)) ≡ asks_of (AskStep wanted)
is_wanted r command wanted is h = ap (λ (x : Asked). asks_of (AskStep x)) (subst (λ (z : Result Command AllocError). IfOk z (λ x. asked_of x ≡ wanted)) is h)

pub returns-in-Ok-ask-clause-made : goal.returns-in-Ok-ask-clause-made
returns-in-Ok-ask-clause-made g c wanted is =
    let s = g.Q.Desk.start in
    let old = g.Q.Desk.seen c.args.desk.now in
    let new = g.Q.Desk.seen c.ask.new.self in
    subst (λ (steps : List Step). GrewAsking s steps old new) (is_wanted _ c.in-Ok.command wanted c.in-Ok.is is) (asking_stepped s old new (AskStep (asked_of c.in-Ok.command)) (Accepted c.in-Ok-ask.field-0) c.in-Ok-ask.ensures.step)

pub returns-clause-made : goal.returns-clause-made
returns-clause-made g c wanted is =
    made_asked g.Q.Desk.start (g.Q.Desk.seen c.args.desk.now) (g.Q.Desk.seen c.ask.new.self) (AskStep (asked_of c.in-Ok.command)) (as_asked (AskStep wanted)) c.in-Err.refusal (is_wanted _ c.in-Ok.command wanted c.in-Ok.is is) c.in-Err.ensures.step.0
