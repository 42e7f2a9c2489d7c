use Rattle.std.proofs.Common.{refl}
use Rattle.esr_core.specs.Entry.{LatestStep, WasReplaced, Entry}
use Rattle.esr_depot.specs.Changes.{Replaced, ReplaceMay}
use Rattle.esr_repo.proofs.BlobCalls.{before_step, Pushed, latest_back, latest_named, replace_ok, replace_fault}
use Rattle.esr_repo.proofs.Pasts.{made_whole}
use Rattle.esr_repo.proofs.Failing.{unfailed_faults}
use Rattle.esr_repo.proofs.Calms.{calm_goes}
use Rattle.esr_repo.proofs.Errors.{error_kept, error_step}
use Rattle.esr_repo.proofs.repo.Repo.call_replace.Goals as goal

pub invariant_of-self-in-Ok : goal.invariant_of-self-in-Ok
invariant_of-self-in-Ok g c =
    let b = before_step c.laws.ensures c.self.invariant.0.repo c.self.view_is c.requires.live in
    let e : Entry = record { who = c.args.who; step = LatestStep; reply = WasReplaced } in
    let p : Pushed c.self.inside.history.items c.reserve.new.self.items c.push_reserved.new.self.items e = record { reserved = c.reserve.ensures.items; pushed = c.push_reserved.ensures.items } in (
      made_whole b g.K.Told.past c.self.invariant.0.past (g.met.D.Depot.only_now c.replace.new.self)
          (replace_ok b (g.D.Depot.look c.replace.new.self) c.args.who (g.D.Stage.Stage.contents c.args.stage.stage) c.requires.may.0 c.requires.may.1 c.requires.may.2 c.requires.goes latest_back (g.D.Stage.Stage.name c.args.stage.stage)
          (latest_named c.args.stage.name (g.D.Stage.Stage.name c.args.stage.stage) c.args.stage.named c.requires.name) c.in-Ok.field-0 c.in-Ok.ensures.call c.reserve.new.self.items c.push_reserved.new.self.items p),
      unfailed_faults c.self.invariant.1 p (g.D.Counted.faults c.replace.new.self) refl c.in-Ok.ensures.cause.later,
      calm_goes (g.D.Depot.look c.self.inside.depot).sure c.self.invariant.2 p (g.D.Depot.look c.replace.new.self).sure refl c.in-Ok.ensures.sure.spent,
    )

pub returns-in-Ok-clause-step : goal.returns-in-Ok-clause-step
returns-in-Ok-clause-step g c =
    let b = before_step c.laws.ensures c.self.invariant.0.repo c.self.view_is c.requires.live in
    (replace_ok b (g.D.Depot.look c.replace.new.self) c.args.who (g.D.Stage.Stage.contents c.args.stage.stage) c.requires.may.0 c.requires.may.1 c.requires.may.2 c.requires.goes latest_back
    (g.D.Stage.Stage.name c.args.stage.stage) (latest_named c.args.stage.name (g.D.Stage.Stage.name c.args.stage.stage) c.args.stage.named c.requires.name) c.in-Ok.field-0
    c.in-Ok.ensures.call c.reserve.new.self.items c.push_reserved.new.self.items (record { reserved = c.reserve.ensures.items; pushed = c.push_reserved.ensures.items })).added

pub invariant_of-self-in-Err : goal.invariant_of-self-in-Err
invariant_of-self-in-Err g c =
    let b = before_step c.laws.ensures c.self.invariant.0.repo c.self.view_is c.requires.live in
    error_kept b (g.D.Depot.look c.replace.new.self) c.args.who LatestStep c.reserve.new.self.items c.refuse_call.new.history.items c.reserve.ensures.items
    (λ _. Replaced (g.D.Stage.Stage.name c.args.stage.stage) (g.D.Stage.Stage.contents c.args.stage.stage)) (ReplaceMay (g.D.Stage.Stage.name c.args.stage.stage) (g.D.Stage.Stage.contents c.args.stage.stage))
    c.self.invariant.0 c.self.invariant.1 c.self.invariant.2 (g.met.D.Depot.only_now c.replace.new.self)
    (g.D.Counted.faults c.replace.new.self) c.in-Err.error c.in-Err.ensures.call c.in-Err.ensures.cause c.in-Err.ensures.sure c.refuse_call.ensures.entries
    (λ is p. replace_fault b (g.D.Depot.look c.replace.new.self) c.args.who (g.D.Stage.Stage.contents c.args.stage.stage) c.requires.may.0 c.requires.may.1 c.requires.may.2 c.requires.goes latest_back (g.D.Stage.Stage.name c.args.stage.stage)
    (latest_named c.args.stage.name (g.D.Stage.Stage.name c.args.stage.stage) c.args.stage.named c.requires.name) c.in-Err.error is c.in-Err.ensures.call c.reserve.new.self.items c.refuse_call.new.history.items p)

pub returns-in-Err-clause-step : goal.returns-in-Err-clause-step
returns-in-Err-clause-step g c =
    let b = before_step c.laws.ensures c.self.invariant.0.repo c.self.view_is c.requires.live in
    error_step b (g.D.Depot.look c.replace.new.self) c.args.who LatestStep c.reserve.new.self.items c.refuse_call.new.history.items c.reserve.ensures.items
    (λ _. Replaced (g.D.Stage.Stage.name c.args.stage.stage) (g.D.Stage.Stage.contents c.args.stage.stage))
    (ReplaceMay (g.D.Stage.Stage.name c.args.stage.stage) (g.D.Stage.Stage.contents c.args.stage.stage)) c.in-Err.error c.in-Err.ensures.call c.refuse_call.ensures.entries
    (λ is p. replace_fault b (g.D.Depot.look c.replace.new.self) c.args.who (g.D.Stage.Stage.contents c.args.stage.stage) c.requires.may.0 c.requires.may.1 c.requires.may.2 c.requires.goes latest_back (g.D.Stage.Stage.name c.args.stage.stage)
    (latest_named c.args.stage.name (g.D.Stage.Stage.name c.args.stage.stage) c.args.stage.named c.requires.name) c.in-Err.error is c.in-Err.ensures.call c.reserve.new.self.items c.refuse_call.new.history.items p)
    c.refuse_call.result c.refuse_call.ensures.is
