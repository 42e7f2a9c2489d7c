use Rattle.std.proofs.Common.{refl}
use Rattle.esr_core.specs.Entry.{WasBegun, Entry}
use Rattle.esr_depot.specs.Calls.{SameImage}
use Rattle.esr_formats.specs.Names.{name_of}
use Rattle.esr_desk.specs.Entries.{step_of}
use Rattle.esr_repo.proofs.BlobCalls.{before_step, Pushed, begin_ok, begin_fault}
use Rattle.esr_repo.proofs.Pasts.{made_whole}
use Rattle.esr_repo.proofs.Failing.{unfailed_faults}
use Rattle.esr_repo.proofs.Calms.{calm_goes, sure_now}
use Rattle.esr_repo.proofs.Errors.{error_kept, error_step}
use Rattle.esr_repo.proofs.repo.Repo.call_begin.Goals as goal

pub invariant_of-self-in-Ok-begin : goal.invariant_of-self-in-Ok-begin
invariant_of-self-in-Ok-begin g c =
    let b = before_step c.laws.ensures c.self.invariant.0.repo c.self.view_is c.requires.live in
    let e : Entry = record { who = c.args.who; step = step_of c.args.step; reply = WasBegun } in
    let p : Pushed c.self.inside.history.items c.prepare.new.history.items c.push_reserved.new.self.items e = record { reserved = c.prepare.ensures.entries; pushed = c.push_reserved.ensures.items } in (
      made_whole b g.K.Told.past c.self.invariant.0.past (g.met.D.Depot.only_now c.begin.new.self)
          (begin_ok b (g.D.Depot.look c.begin.new.self) c.args.who (step_of c.args.step)
          (name_of c.args.name) c.requires.may c.requires.goes c.prepare.ensures.reads c.in-Ok-begin.stage c.in-Ok-begin.ensures.call c.prepare.new.history.items c.push_reserved.new.self.items p),
      unfailed_faults c.self.invariant.1 p (g.D.Counted.faults c.begin.new.self) refl c.in-Ok-begin.ensures.cause.later,
      calm_goes (g.D.Depot.look c.self.inside.depot).sure c.self.invariant.2 p (g.D.Depot.look c.begin.new.self).sure refl c.in-Ok-begin.ensures.sure.spent,
    )

pub returns-in-Ok-begin-clause-step : goal.returns-in-Ok-begin-clause-step
returns-in-Ok-begin-clause-step g c =
    let b = before_step c.laws.ensures c.self.invariant.0.repo c.self.view_is c.requires.live in
    (begin_ok b (g.D.Depot.look c.begin.new.self) c.args.who (step_of c.args.step)
    (name_of c.args.name) c.requires.may c.requires.goes c.prepare.ensures.reads c.in-Ok-begin.stage c.in-Ok-begin.ensures.call c.prepare.new.history.items c.push_reserved.new.self.items
    (record { reserved = c.prepare.ensures.entries; pushed = c.push_reserved.ensures.items })).added

pub returns-in-Ok-begin-clause-sure : goal.returns-in-Ok-begin-clause-sure
returns-in-Ok-begin-clause-sure g c =
    λ quiet below. c.in-Ok-begin.ensures.sure_stage (sure_now g.K.Told.start.quiet (g.D.Depot.look c.self.inside.depot) g.K.Told.clock c.self.inside.history.items c.args.self.now c.self.invariant.2 c.self.view_is quiet below)

pub invariant_of-self-in-Err : goal.invariant_of-self-in-Err
invariant_of-self-in-Err g c =
    let b = before_step c.laws.ensures c.self.invariant.0.repo c.self.view_is c.requires.live in
    error_kept b (g.D.Depot.look c.begin.new.self) c.args.who (step_of c.args.step) c.prepare.new.history.items c.refuse_call.new.history.items c.prepare.ensures.entries (λ _. SameImage) SameImage
    c.self.invariant.0 c.self.invariant.1 c.self.invariant.2 (g.met.D.Depot.only_now c.begin.new.self)
    (g.D.Counted.faults c.begin.new.self) c.in-Err.error c.in-Err.ensures.call c.in-Err.ensures.cause c.in-Err.ensures.sure c.refuse_call.ensures.entries
    (λ is p. begin_fault b (g.D.Depot.look c.begin.new.self) c.args.who (step_of c.args.step)
    (name_of c.args.name) c.requires.may c.requires.goes c.prepare.ensures.reads c.in-Err.error is c.in-Err.ensures.call c.prepare.new.history.items c.refuse_call.new.history.items p)

pub returns-clause-step : goal.returns-clause-step
returns-clause-step g c =
    let b = before_step c.laws.ensures c.self.invariant.0.repo c.self.view_is c.requires.live in
    error_step b (g.D.Depot.look c.begin.new.self) c.args.who (step_of c.args.step) c.prepare.new.history.items c.refuse_call.new.history.items c.prepare.ensures.entries
    (λ _. SameImage) SameImage c.in-Err.error c.in-Err.ensures.call c.refuse_call.ensures.entries
    (λ is p. begin_fault b (g.D.Depot.look c.begin.new.self) c.args.who (step_of c.args.step)
    (name_of c.args.name) c.requires.may c.requires.goes c.prepare.ensures.reads c.in-Err.error is c.in-Err.ensures.call c.prepare.new.history.items c.refuse_call.new.history.items p)
    c.refuse_call.result c.refuse_call.ensures.is
