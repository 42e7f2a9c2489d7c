use Rattle.std.proofs.Common.{refl, Option, Ok, ap, ◌∙◌}
use Rattle.esr_model.specs.Image.{Image}
use Rattle.esr_core.specs.After.{told_blob}
use Rattle.esr_core.specs.Entry.{WasFetched, WasAbsent, Entry}
use Rattle.esr_depot.specs.Calls.{SameImage}
use Rattle.esr_formats.specs.Names.{name_of}
use Rattle.esr_desk.specs.Entries.{step_of}
use Rattle.esr_desk.specs.Start.{formats_of}
use Rattle.esr_repo.proofs.BlobCalls.{before_step, Pushed, fetch_found, fetch_left, fetch_told, fetch_bytes, fetch_absent, fetch_fault}
use Rattle.esr_repo.proofs.Pasts.{made_whole}
use Rattle.esr_repo.proofs.Failing.{unfailed_faults}
use Rattle.esr_repo.proofs.Calms.{calm_goes, sure_now, found_sure}
use Rattle.esr_repo.proofs.Errors.{error_kept, error_step}
use Rattle.esr_repo.proofs.repo.Repo.call_fetch.Goals as goal

pub invariant_of-self-in-Ok-Some : goal.invariant_of-self-in-Ok-Some
invariant_of-self-in-Ok-Some g c =
    let b = before_step c.laws.ensures c.self.invariant.0.repo c.self.view_is c.requires.live in
    let e : Entry = record { who = c.args.who; step = step_of c.args.step; reply = WasFetched } in
    let p : Pushed c.self.inside.history.items c.prepare.new.history.items c.push_reserved.new.self.items e = record { reserved = c.prepare.ensures.entries; pushed = c.push_reserved.ensures.items } in (
      made_whole b g.K.Told.past c.self.invariant.0.past (g.met.D.Depot.only_now c.fetch.new.self)
          (fetch_found b (g.D.Depot.look c.fetch.new.self) c.args.who (step_of c.args.step) (name_of c.args.name) c.requires.may c.requires.goes c.prepare.ensures.reads c.as_str.result.now
          (c.as_str.ensures.text ∙ c.in-Ok.ensures.text) c.in-Ok-Some.field-0 c.in-Ok-Some.fetch c.in-Ok-Some.field-0-is c.in-Ok-Some.ensures.present c.in-Ok-Some.ensures.call c.prepare.new.history.items c.push_reserved.new.self.items p),
      unfailed_faults c.self.invariant.1 p (g.D.Counted.faults c.fetch.new.self) refl c.in-Ok-Some.ensures.cause.later,
      calm_goes (g.D.Depot.look c.self.inside.depot).sure c.self.invariant.2 p (g.D.Depot.look c.fetch.new.self).sure refl c.in-Ok-Some.ensures.sure.spent,
    )

pub returns-in-Ok-Some-clause-step : goal.returns-in-Ok-Some-clause-step
returns-in-Ok-Some-clause-step g c =
    let b = before_step c.laws.ensures c.self.invariant.0.repo c.self.view_is c.requires.live in
    let made = fetch_found b (g.D.Depot.look c.fetch.new.self) c.args.who (step_of c.args.step) (name_of c.args.name) c.requires.may c.requires.goes c.prepare.ensures.reads c.as_str.result.now
    (c.as_str.ensures.text ∙ c.in-Ok.ensures.text) c.in-Ok-Some.field-0 c.in-Ok-Some.fetch c.in-Ok-Some.field-0-is c.in-Ok-Some.ensures.present c.in-Ok-Some.ensures.call
    c.prepare.new.history.items c.push_reserved.new.self.items (record { reserved = c.prepare.ensures.entries; pushed = c.push_reserved.ensures.items }) in
    let left = fetch_left b (g.D.Depot.look c.fetch.new.self) c.args.who (step_of c.args.step) (name_of c.args.name) c.requires.may c.requires.goes c.prepare.ensures.reads c.as_str.result.now
    (c.as_str.ensures.text ∙ c.in-Ok.ensures.text) g.D.Fetch.Fetch.left c.in-Ok-Some.field-0 c.in-Ok-Some.fetch c.in-Ok-Some.field-0-is c.in-Ok-Some.ensures.left in (
      made.added,
      ap (λ (i : Option Image). told_blob (formats_of g.K.Told.start) i (name_of c.args.name)) made.image_is ∙ fetch_told b (g.D.Depot.look c.fetch.new.self) c.args.who (step_of c.args.step)
          (name_of c.args.name) c.requires.may c.requires.goes c.prepare.ensures.reads c.as_str.result.now (c.as_str.ensures.text ∙ c.in-Ok.ensures.text) c.in-Ok-Some.ensures.call.done (g.D.Fetch.Fetch.left c.in-Ok-Some.fetch) left,
      fetch_bytes b (g.D.Depot.look c.fetch.new.self) c.args.who (step_of c.args.step) (name_of c.args.name) c.requires.may c.requires.goes c.prepare.ensures.reads c.as_str.result.now
          (c.as_str.ensures.text ∙ c.in-Ok.ensures.text) c.in-Ok-Some.field-0 c.in-Ok-Some.fetch c.in-Ok-Some.field-0-is c.in-Ok-Some.ensures.present (g.D.Fetch.Fetch.left c.in-Ok-Some.fetch) left,
    )

pub returns-in-Ok-Some-clause-sure : goal.returns-in-Ok-Some-clause-sure
returns-in-Ok-Some-clause-sure g c = λ quiet below.
    found_sure (g.D.Depot.look c.self.inside.depot).sure g.D.Fetch.Fetch.is_sure c.in-Ok-Some.field-0 c.in-Ok-Some.fetch c.in-Ok-Some.field-0-is c.in-Ok-Some.ensures.sure_fetch
    (sure_now g.K.Told.start.quiet (g.D.Depot.look c.self.inside.depot) g.K.Told.clock c.self.inside.history.items c.args.self.now c.self.invariant.2 c.self.view_is quiet below)

pub invariant_of-self-in-Ok-None : goal.invariant_of-self-in-Ok-None
invariant_of-self-in-Ok-None g c =
    let b = before_step c.laws.ensures c.self.invariant.0.repo c.self.view_is c.requires.live in
    let e : Entry = record { who = c.args.who; step = step_of c.args.step; reply = WasAbsent } in
    let p : Pushed c.self.inside.history.items c.prepare.new.history.items c.push_reserved-in-Ok-None.new.self.items e = record { reserved = c.prepare.ensures.entries; pushed = c.push_reserved-in-Ok-None.ensures.items } in (
      made_whole b g.K.Told.past c.self.invariant.0.past (g.met.D.Depot.only_now c.fetch.new.self)
          (fetch_absent b (g.D.Depot.look c.fetch.new.self) c.args.who (step_of c.args.step) (name_of c.args.name) c.requires.may c.requires.goes c.prepare.ensures.reads c.as_str.result.now (c.as_str.ensures.text ∙ c.in-Ok.ensures.text)
          c.in-Ok-None.field-0 c.in-Ok-None.field-0-is (c.in-Ok-None.ensures.absent (ap Ok c.in-Ok-None.field-0-is)) c.in-Ok-None.ensures.call c.prepare.new.history.items c.push_reserved-in-Ok-None.new.self.items p),
      unfailed_faults c.self.invariant.1 p (g.D.Counted.faults c.fetch.new.self) refl c.in-Ok-None.ensures.cause.later,
      calm_goes (g.D.Depot.look c.self.inside.depot).sure c.self.invariant.2 p (g.D.Depot.look c.fetch.new.self).sure refl c.in-Ok-None.ensures.sure.spent,
    )

pub returns-in-Ok-None-clause-step : goal.returns-in-Ok-None-clause-step
returns-in-Ok-None-clause-step g c =
    let b = before_step c.laws.ensures c.self.invariant.0.repo c.self.view_is c.requires.live in
    (fetch_absent b (g.D.Depot.look c.fetch.new.self) c.args.who (step_of c.args.step) (name_of c.args.name) c.requires.may c.requires.goes c.prepare.ensures.reads c.as_str.result.now
    (c.as_str.ensures.text ∙ c.in-Ok.ensures.text) c.in-Ok-None.field-0 c.in-Ok-None.field-0-is (c.in-Ok-None.ensures.absent (ap Ok c.in-Ok-None.field-0-is)) c.in-Ok-None.ensures.call
    c.prepare.new.history.items c.push_reserved-in-Ok-None.new.self.items (record { reserved = c.prepare.ensures.entries; pushed = c.push_reserved-in-Ok-None.ensures.items })).added

pub invariant_of-self-in-Err : goal.invariant_of-self-in-Err
invariant_of-self-in-Err g c =
    let b = before_step c.laws.ensures c.self.invariant.0.repo c.self.view_is c.requires.live in
    error_kept b (g.D.Depot.look c.fetch.new.self) c.args.who (step_of c.args.step) c.prepare.new.history.items c.refuse_call.new.history.items c.prepare.ensures.entries (λ _. SameImage) SameImage
    c.self.invariant.0 c.self.invariant.1 c.self.invariant.2 (g.met.D.Depot.only_now c.fetch.new.self)
    (g.D.Counted.faults c.fetch.new.self) c.in-Err.error c.in-Err.ensures.call c.in-Err.ensures.cause c.in-Err.ensures.sure c.refuse_call.ensures.entries
    (λ is p. fetch_fault b (g.D.Depot.look c.fetch.new.self) c.args.who (step_of c.args.step) (name_of c.args.name) c.requires.may c.requires.goes c.prepare.ensures.reads c.as_str.result.now
    (c.as_str.ensures.text ∙ c.in-Ok.ensures.text) c.in-Err.error is c.in-Err.ensures.call c.prepare.new.history.items c.refuse_call.new.history.items p)

pub returns-clause-step : goal.returns-clause-step
returns-clause-step g c =
    let b = before_step c.laws.ensures c.self.invariant.0.repo c.self.view_is c.requires.live in
    error_step b (g.D.Depot.look c.fetch.new.self) c.args.who (step_of c.args.step) c.prepare.new.history.items c.refuse_call.new.history.items c.prepare.ensures.entries
    (λ _. SameImage) SameImage c.in-Err.error c.in-Err.ensures.call c.refuse_call.ensures.entries
    (λ is p. fetch_fault b (g.D.Depot.look c.fetch.new.self) c.args.who (step_of c.args.step) (name_of c.args.name) c.requires.may c.requires.goes c.prepare.ensures.reads c.as_str.result.now
    (c.as_str.ensures.text ∙ c.in-Ok.ensures.text) c.in-Err.error is c.in-Err.ensures.call c.prepare.new.history.items c.refuse_call.new.history.items p)
    c.refuse_call.result c.refuse_call.ensures.is
