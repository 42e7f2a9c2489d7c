use Rattle.std.proofs.Common.{refl, map, ◌∙◌}
use Rattle.esr_core.specs.Entry.{WasRemoved, Entry}
use Rattle.esr_depot.specs.declared.error.CallError.TheVariants.{Failed}
use Rattle.esr_depot.specs.Changes.{Removed, RemoveMay}
use Rattle.esr_formats.specs.Names.{name_of}
use Rattle.esr_desk.specs.Entries.{step_of}
use Rattle.esr_repo.proofs.BlobCalls.{before_step, Pushed}
use Rattle.esr_repo.proofs.Removals.{backs_of, texts_of, removed_ok, removed_fault}
use Rattle.esr_repo.proofs.Pasts.{made_whole}
use Rattle.esr_repo.proofs.Failing.{unfailed_faults}
use Rattle.esr_repo.proofs.Calms.{calm_goes}
use Rattle.esr_repo.proofs.Errors.{error_kept, error_step}
use Rattle.esr_repo.proofs.repo.Repo.call_remove.Goals as goal

pub invariant_of-self-in-Ok-remove : goal.invariant_of-self-in-Ok-remove
invariant_of-self-in-Ok-remove g c =
    let b = before_step c.laws.ensures c.self.invariant.0.repo c.self.view_is c.requires.live in
    let e : Entry = record { who = c.args.who; step = step_of c.args.step; reply = WasRemoved } in
    let p : Pushed c.self.inside.history.items c.reserve.new.self.items c.push_reserved.new.self.items e = record { reserved = c.reserve.ensures.items; pushed = c.push_reserved.ensures.items } in (
      made_whole b g.K.Told.past c.self.invariant.0.past (g.met.D.Depot.only_now c.remove.new.self)
          (removed_ok b (g.D.Depot.look c.remove.new.self) c.args.who (step_of c.args.step) (map name_of c.args.names.now) c.requires.may c.requires.goes (backs_of c.args.names.now c.in-Ok.ensures.reads) c.in-Ok.texts
          (c.in-Ok.ensures.texts ∙ texts_of c.args.names.now) c.in-Ok-remove.field-0 c.in-Ok-remove.ensures.call c.reserve.new.self.items c.push_reserved.new.self.items p),
      unfailed_faults c.self.invariant.1 p (g.D.Counted.faults c.remove.new.self) refl c.in-Ok-remove.ensures.cause.later,
      calm_goes (g.D.Depot.look c.self.inside.depot).sure c.self.invariant.2 p (g.D.Depot.look c.remove.new.self).sure refl c.in-Ok-remove.ensures.sure.spent,
    )

pub returns-in-Ok-remove-clause-step : goal.returns-in-Ok-remove-clause-step
returns-in-Ok-remove-clause-step g c =
    let b = before_step c.laws.ensures c.self.invariant.0.repo c.self.view_is c.requires.live in
    (removed_ok b (g.D.Depot.look c.remove.new.self) c.args.who (step_of c.args.step) (map name_of c.args.names.now) c.requires.may c.requires.goes (backs_of c.args.names.now c.in-Ok.ensures.reads) c.in-Ok.texts (c.in-Ok.ensures.texts
    ∙ texts_of c.args.names.now) c.in-Ok-remove.field-0 c.in-Ok-remove.ensures.call c.reserve.new.self.items c.push_reserved.new.self.items (record { reserved = c.reserve.ensures.items; pushed = c.push_reserved.ensures.items })).added

pub invariant_of-self-in-Err : goal.invariant_of-self-in-Err
invariant_of-self-in-Err g c =
    let b = before_step c.laws.ensures c.self.invariant.0.repo c.self.view_is c.requires.live in
    error_kept b (g.D.Depot.look c.remove.new.self) c.args.who (step_of c.args.step) c.reserve.new.self.items c.refuse_call.new.history.items c.reserve.ensures.items (λ _. Removed c.in-Ok.texts) (RemoveMay c.in-Ok.texts)
    c.self.invariant.0 c.self.invariant.1 c.self.invariant.2 (g.met.D.Depot.only_now c.remove.new.self) (g.D.Counted.faults c.remove.new.self) Failed c.in-Err.ensures.call c.in-Err.ensures.cause c.in-Err.ensures.sure c.refuse_call.ensures.entries
    (λ is p. removed_fault b (g.D.Depot.look c.remove.new.self) c.args.who (step_of c.args.step) (map name_of c.args.names.now) c.requires.may c.requires.goes
    (backs_of c.args.names.now c.in-Ok.ensures.reads) c.in-Ok.texts (c.in-Ok.ensures.texts ∙ texts_of c.args.names.now) c.in-Err.ensures.call c.reserve.new.self.items c.refuse_call.new.history.items p)

pub returns-clause-step : goal.returns-clause-step
returns-clause-step g c =
    let b = before_step c.laws.ensures c.self.invariant.0.repo c.self.view_is c.requires.live in
    error_step b (g.D.Depot.look c.remove.new.self) c.args.who (step_of c.args.step) c.reserve.new.self.items c.refuse_call.new.history.items c.reserve.ensures.items
    (λ _. Removed c.in-Ok.texts) (RemoveMay c.in-Ok.texts) Failed c.in-Err.ensures.call c.refuse_call.ensures.entries
    (λ is p. removed_fault b (g.D.Depot.look c.remove.new.self) c.args.who (step_of c.args.step) (map name_of c.args.names.now) c.requires.may c.requires.goes
    (backs_of c.args.names.now c.in-Ok.ensures.reads) c.in-Ok.texts (c.in-Ok.ensures.texts ∙ texts_of c.args.names.now) c.in-Err.ensures.call c.reserve.new.self.items c.refuse_call.new.history.items p)
    c.refuse_call.result c.refuse_call.ensures.is
