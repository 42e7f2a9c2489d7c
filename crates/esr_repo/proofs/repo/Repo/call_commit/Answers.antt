use Rattle.std.proofs.Common.{refl, Option, ap, ◌∙◌, inl, inr}
use Rattle.esr_model.specs.Image.{Image}
use Rattle.esr_core.specs.After.{told_blob}
use Rattle.esr_core.specs.Entry.{WasDone, WasThere, NameTaken, Refused, Entry}
use Rattle.esr_depot.specs.Changes.{Committed, CommitMay}
use Rattle.esr_formats.specs.Names.{name_of}
use Rattle.esr_desk.specs.Entries.{step_of}
use Rattle.esr_desk.specs.Start.{formats_of}
use Rattle.esr_repo.proofs.BlobCalls.{before_step, Pushed, commit_done, commit_found, commit_taken, commit_fault}
use Rattle.esr_repo.proofs.Pasts.{made_whole}
use Rattle.esr_repo.proofs.Failing.{unfailed_faults}
use Rattle.esr_repo.proofs.Calms.{calm_goes}
use Rattle.esr_repo.proofs.Errors.{error_kept, error_step}
use Rattle.esr_repo.proofs.repo.Repo.call_commit.Goals as goal

pub invariant_of-self-in-Ok-Done : goal.invariant_of-self-in-Ok-Done
invariant_of-self-in-Ok-Done g c =
    let b = before_step c.laws.ensures c.self.invariant.0.repo c.self.view_is c.requires.live in
    let e : Entry = record { who = c.args.who; step = step_of c.args.step; reply = WasDone } in
    let p : Pushed c.self.inside.history.items c.reserve.new.self.items c.push_reserved.new.self.items e = record { reserved = c.reserve.ensures.items; pushed = c.push_reserved.ensures.items } in (
      made_whole b g.K.Told.past c.self.invariant.0.past (g.met.D.Depot.only_now c.commit.new.self)
          (commit_done b (g.D.Depot.look c.commit.new.self) c.args.who (step_of c.args.step) (name_of c.args.stage.name) (g.D.Stage.Stage.contents c.args.stage.stage) c.requires.may.0 c.requires.may.1 c.requires.may.2 c.requires.goes
          c.reads_back.ensures (g.D.Stage.Stage.name c.args.stage.stage) c.args.stage.named c.in-Ok-Done.field-0 c.in-Ok-Done.field-0-is c.in-Ok-Done.ensures.call c.reserve.new.self.items c.push_reserved.new.self.items p).0,
      unfailed_faults c.self.invariant.1 p (g.D.Counted.faults c.commit.new.self) refl c.in-Ok-Done.ensures.cause.later,
      calm_goes (g.D.Depot.look c.self.inside.depot).sure c.self.invariant.2 p (g.D.Depot.look c.commit.new.self).sure refl c.in-Ok-Done.ensures.sure.spent,
    )

pub returns-in-Ok-Done-clause-step : goal.returns-in-Ok-Done-clause-step
returns-in-Ok-Done-clause-step g c =
    let b = before_step c.laws.ensures c.self.invariant.0.repo c.self.view_is c.requires.live in
    let made = commit_done b (g.D.Depot.look c.commit.new.self) c.args.who (step_of c.args.step) (name_of c.args.stage.name)
    (g.D.Stage.Stage.contents c.args.stage.stage) c.requires.may.0 c.requires.may.1 c.requires.may.2 c.requires.goes c.reads_back.ensures (g.D.Stage.Stage.name c.args.stage.stage) c.args.stage.named c.in-Ok-Done.field-0
    c.in-Ok-Done.field-0-is c.in-Ok-Done.ensures.call c.reserve.new.self.items c.push_reserved.new.self.items (record { reserved = c.reserve.ensures.items; pushed = c.push_reserved.ensures.items }) in
    (made.0.added, ap (λ (i : Option Image). told_blob (formats_of g.K.Told.start) i (name_of c.args.stage.name)) made.0.image_is ∙ made.1)

pub invariant_of-self-then-is_metadata : goal.invariant_of-self-then-is_metadata
invariant_of-self-then-is_metadata g c =
    let b = before_step c.laws.ensures c.self.invariant.0.repo c.self.view_is c.requires.live in
    let e : Entry = record { who = c.args.who; step = step_of c.args.step; reply = WasThere } in
    let p : Pushed c.self.inside.history.items c.reserve.new.self.items c.push_reserved-then-is_metadata.new.self.items e = record { reserved = c.reserve.ensures.items; pushed = c.push_reserved-then-is_metadata.ensures.items } in (
      made_whole b g.K.Told.past c.self.invariant.0.past (g.met.D.Depot.only_now c.commit.new.self)
          (commit_found b (g.D.Depot.look c.commit.new.self) c.args.who (step_of c.args.step) (name_of c.args.stage.name) (g.D.Stage.Stage.contents c.args.stage.stage) c.requires.may.0 c.requires.may.1
          c.requires.may.2 c.requires.goes c.reads_back.ensures (g.D.Stage.Stage.name c.args.stage.stage) c.args.stage.named c.in-Ok-Exists.field-0 c.in-Ok-Exists.field-0-is c.in-Ok-Exists.ensures.call
          (c.is_metadata.ensures.yes_it_is c.if-is_metadata.true) c.reserve.new.self.items c.push_reserved-then-is_metadata.new.self.items p),
      unfailed_faults c.self.invariant.1 p (g.D.Counted.faults c.commit.new.self) refl c.in-Ok-Exists.ensures.cause.later,
      calm_goes (g.D.Depot.look c.self.inside.depot).sure c.self.invariant.2 p (g.D.Depot.look c.commit.new.self).sure refl c.in-Ok-Exists.ensures.sure.spent,
    )

pub returns-then-is_metadata-clause-step : goal.returns-then-is_metadata-clause-step
returns-then-is_metadata-clause-step g c =
    let b = before_step c.laws.ensures c.self.invariant.0.repo c.self.view_is c.requires.live in (
      (commit_found b (g.D.Depot.look c.commit.new.self) c.args.who (step_of c.args.step) (name_of c.args.stage.name) (g.D.Stage.Stage.contents c.args.stage.stage) c.requires.may.0 c.requires.may.1 c.requires.may.2 c.requires.goes
          c.reads_back.ensures (g.D.Stage.Stage.name c.args.stage.stage) c.args.stage.named c.in-Ok-Exists.field-0 c.in-Ok-Exists.field-0-is c.in-Ok-Exists.ensures.call (c.is_metadata.ensures.yes_it_is c.if-is_metadata.true)
          c.reserve.new.self.items c.push_reserved-then-is_metadata.new.self.items (record { reserved = c.reserve.ensures.items; pushed = c.push_reserved-then-is_metadata.ensures.items })).added,
      c.is_metadata.ensures.yes_it_is c.if-is_metadata.true,
    )

pub invariant_of-self-in-Ok-Exists : goal.invariant_of-self-in-Ok-Exists
invariant_of-self-in-Ok-Exists g c =
    let b = before_step c.laws.ensures c.self.invariant.0.repo c.self.view_is c.requires.live in
    let e : Entry = record { who = c.args.who; step = step_of c.args.step; reply = Refused (NameTaken (name_of c.args.stage.name)) } in
    let p : Pushed c.self.inside.history.items c.reserve.new.self.items c.push_reserved-in-Ok-Exists.new.self.items e = record { reserved = c.reserve.ensures.items; pushed = c.push_reserved-in-Ok-Exists.ensures.items } in (
      made_whole b g.K.Told.past c.self.invariant.0.past (g.met.D.Depot.only_now c.commit.new.self)
          (commit_taken b (g.D.Depot.look c.commit.new.self) c.args.who (step_of c.args.step) (name_of c.args.stage.name) (g.D.Stage.Stage.contents c.args.stage.stage) c.requires.may.0 c.requires.may.1
          c.requires.may.2 c.requires.goes c.reads_back.ensures (g.D.Stage.Stage.name c.args.stage.stage) c.args.stage.named c.in-Ok-Exists.field-0 c.in-Ok-Exists.field-0-is c.in-Ok-Exists.ensures.call
          (c.is_metadata.ensures.it_is_not c.if-is_metadata.false) c.reserve.new.self.items c.push_reserved-in-Ok-Exists.new.self.items p),
      unfailed_faults c.self.invariant.1 p (g.D.Counted.faults c.commit.new.self) refl c.in-Ok-Exists.ensures.cause.later,
      calm_goes (g.D.Depot.look c.self.inside.depot).sure c.self.invariant.2 p (g.D.Depot.look c.commit.new.self).sure refl c.in-Ok-Exists.ensures.sure.spent,
    )

pub returns-else-is_metadata-clause-step : goal.returns-else-is_metadata-clause-step
returns-else-is_metadata-clause-step g c =
    let b = before_step c.laws.ensures c.self.invariant.0.repo c.self.view_is c.requires.live in
    (commit_taken b (g.D.Depot.look c.commit.new.self) c.args.who (step_of c.args.step) (name_of c.args.stage.name) (g.D.Stage.Stage.contents c.args.stage.stage) c.requires.may.0 c.requires.may.1 c.requires.may.2 c.requires.goes c.reads_back.ensures
    (g.D.Stage.Stage.name c.args.stage.stage) c.args.stage.named c.in-Ok-Exists.field-0 c.in-Ok-Exists.field-0-is c.in-Ok-Exists.ensures.call
    (c.is_metadata.ensures.it_is_not c.if-is_metadata.false) c.reserve.new.self.items c.push_reserved-in-Ok-Exists.new.self.items (record { reserved = c.reserve.ensures.items; pushed = c.push_reserved-in-Ok-Exists.ensures.items })).added

pub invariant_of-self-in-Err : goal.invariant_of-self-in-Err
invariant_of-self-in-Err g c =
    let b = before_step c.laws.ensures c.self.invariant.0.repo c.self.view_is c.requires.live in
    error_kept b (g.D.Depot.look c.commit.new.self) c.args.who (step_of c.args.step) c.reserve.new.self.items c.refuse_call.new.history.items c.reserve.ensures.items
    (Committed (g.D.Stage.Stage.name c.args.stage.stage) (g.D.Stage.Stage.contents c.args.stage.stage)) (CommitMay (g.D.Stage.Stage.name c.args.stage.stage) (g.D.Stage.Stage.contents c.args.stage.stage))
    c.self.invariant.0 c.self.invariant.1 c.self.invariant.2 (g.met.D.Depot.only_now c.commit.new.self)
    (g.D.Counted.faults c.commit.new.self) c.in-Err.error c.in-Err.ensures.call c.in-Err.ensures.cause c.in-Err.ensures.sure c.refuse_call.ensures.entries
    (λ is p. commit_fault b (g.D.Depot.look c.commit.new.self) c.args.who (step_of c.args.step) (name_of c.args.stage.name) (g.D.Stage.Stage.contents c.args.stage.stage) c.requires.may.0 c.requires.may.1
    c.requires.may.2 c.requires.goes c.reads_back.ensures (g.D.Stage.Stage.name c.args.stage.stage) c.args.stage.named c.in-Err.error is c.in-Err.ensures.call c.reserve.new.self.items c.refuse_call.new.history.items p)

pub returns-in-Err-clause-step : goal.returns-in-Err-clause-step
returns-in-Err-clause-step g c =
    let b = before_step c.laws.ensures c.self.invariant.0.repo c.self.view_is c.requires.live in
    error_step b (g.D.Depot.look c.commit.new.self) c.args.who (step_of c.args.step) c.reserve.new.self.items c.refuse_call.new.history.items c.reserve.ensures.items
    (Committed (g.D.Stage.Stage.name c.args.stage.stage) (g.D.Stage.Stage.contents c.args.stage.stage))
    (CommitMay (g.D.Stage.Stage.name c.args.stage.stage) (g.D.Stage.Stage.contents c.args.stage.stage)) c.in-Err.error c.in-Err.ensures.call c.refuse_call.ensures.entries
    (λ is p. commit_fault b (g.D.Depot.look c.commit.new.self) c.args.who (step_of c.args.step) (name_of c.args.stage.name) (g.D.Stage.Stage.contents c.args.stage.stage) c.requires.may.0 c.requires.may.1
    c.requires.may.2 c.requires.goes c.reads_back.ensures (g.D.Stage.Stage.name c.args.stage.stage) c.args.stage.named c.in-Err.error is c.in-Err.ensures.call c.reserve.new.self.items c.refuse_call.new.history.items p)
    c.refuse_call.result c.refuse_call.ensures.is

pub returns-in-Err-clause-why : goal.returns-in-Err-clause-why
returns-in-Err-clause-why g c = elim c.refuse_call.ensures.why [ inl memory ↦ inl memory | inr fault ↦ inr (inl fault) ]
