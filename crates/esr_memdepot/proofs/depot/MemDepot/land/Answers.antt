use Rattle.std.proofs.Common.{inl, refl, sym, ◌∙◌, true, Some, rules}
use Rattle.esr_depot.specs.Image.{with_blob}
use Rattle.esr_depot.specs.Changes.{Replaced, ReplaceMay}
use Rattle.esr_depot.specs.Moments.{called_ok, called_failed, called_wanting}
use Rattle.esr_memdepot.specs.Meter.{sure_calls}
use Rattle.esr_memdepot.specs.MemDepot.{memory_image, left_by}
use Rattle.esr_memdepot.proofs.Passing.{rests, over, went}
use Rattle.esr_memdepot.proofs.Landed.{landed_image, landed_dated, landed, landed_done, landed_left, after_room}
use Rattle.esr_memdepot.proofs.depot.MemDepot.land.Goals as goal

pub returns-in_err-reserve-clause-call : goal.returns-in_err-reserve-clause-call
returns-in_err-reserve-clause-call c =
    let d = c.args.self.now in
    called_wanting _ _ (λ _. Replaced c.args.name (Some c.args.bytes)) (ReplaceMay c.args.name (Some c.args.bytes)) c.from_residual.result (search rules)
    (rests d.meter.clock d.meter.clock (sure_calls d.meter) (sure_calls d.meter) d.blobs.items c.reserve.new.self.items d.texts.items d.texts.items refl refl c.reserve.ensures.items refl)

pub returns-in-Over-clause-call : goal.returns-in-Over-clause-call
returns-in-Over-clause-call c =
    let d = c.args.self.now in
    let m = c.turn.new.self in
    over d.meter.clock m.clock (sure_calls d.meter) (sure_calls m) d.blobs.items _ d.texts.items _ (λ _. Replaced c.args.name (Some c.args.bytes)) (ReplaceMay c.args.name (Some c.args.bytes)) (λ o. inl refl)
    (c.turn.ensures.over c.in-Over.is) c.turn.ensures.clock c.reserve.ensures.items refl

pub invariant_of-self-in-Served : goal.invariant_of-self-in-Served
invariant_of-self-in-Served c =
    let d = c.args.self.now in
    let m = c.turn.new.self in
    record {
      dated = landed_dated d.meter.clock m.clock 0 0 d.blobs.items c.keep.new.blobs.items d.texts.items c.args.name c.args.bytes true (after_room _ _ _ _ c.keep.ensures c.reserve.ensures.items)
          (c.turn.ensures.not_over (λ o. cc)) c.turn.ensures.clock d.dated;
    }

pub invariant_of-self-in-Fails : goal.invariant_of-self-in-Fails
invariant_of-self-in-Fails c =
    let d = c.args.self.now in
    let m = c.turn.new.self in
    record {
      dated = landed_dated d.meter.clock m.clock 0 0 d.blobs.items c.keep-in-Fails.new.blobs.items d.texts.items c.args.name c.args.bytes c.is_new.result (after_room _ _ _ _ c.keep-in-Fails.ensures c.reserve.ensures.items)
          (c.turn.ensures.not_over (λ o. cc)) c.turn.ensures.clock d.dated;
    }

pub returns-in-Served-clause-went : goal.returns-in-Served-clause-went
returns-in-Served-clause-went c =
    let d = c.args.self.now in
    let m = c.turn.new.self in
    went d.meter m _ _ _ (λ turn. left_by turn (memory_image d) (with_blob (memory_image d) c.args.name c.args.bytes)) _ (sym c.turn.ensures.turn ∙ c.in-Served.is) refl refl
    (landed_image d.meter.clock m.clock 0 0 d.blobs.items c.keep.new.blobs.items d.texts.items c.args.name c.args.bytes true (after_room _ _ _ _ c.keep.ensures c.reserve.ensures.items)) c.turn.ensures.counts c.turn.ensures.plan

pub returns-in-Served-clause-call : goal.returns-in-Served-clause-call
returns-in-Served-clause-call c =
    let d = c.args.self.now in
    let m = c.turn.new.self in
    let kept = after_room _ _ _ _ c.keep.ensures c.reserve.ensures.items in
    let below = c.turn.ensures.not_over (λ o. cc) in
    called_ok _ _ (λ _. Replaced c.args.name (Some c.args.bytes)) (ReplaceMay c.args.name (Some c.args.bytes)) _
    (landed d.meter.clock m.clock (sure_calls d.meter) (sure_calls m) d.blobs.items c.keep.new.blobs.items d.texts.items c.args.name c.args.bytes true kept below c.turn.ensures.clock d.dated)
    (landed_done d.meter.clock m.clock (sure_calls d.meter) (sure_calls m) d.blobs.items c.keep.new.blobs.items d.texts.items c.args.name c.args.bytes true kept below c.turn.ensures.clock d.dated refl)

pub returns-in-Fails-clause-went : goal.returns-in-Fails-clause-went
returns-in-Fails-clause-went c =
    let d = c.args.self.now in
    let m = c.turn.new.self in
    let image = landed_image d.meter.clock m.clock 0 0 d.blobs.items c.keep-in-Fails.new.blobs.items d.texts.items c.args.name c.args.bytes c.is_new.result (after_room _ _ _ _ c.keep-in-Fails.ensures c.reserve.ensures.items) in
    went d.meter m _ _ _ (λ turn. left_by turn (memory_image d) (with_blob (memory_image d) c.args.name c.args.bytes)) _ (sym c.turn.ensures.turn ∙ c.in-Fails.is) refl refl (rw c.is_new.ensures at image) c.turn.ensures.counts c.turn.ensures.plan

pub returns-in-Fails-clause-call : goal.returns-in-Fails-clause-call
returns-in-Fails-clause-call c =
    let d = c.args.self.now in
    let m = c.turn.new.self in
    let kept = after_room _ _ _ _ c.keep-in-Fails.ensures c.reserve.ensures.items in
    let below = c.turn.ensures.not_over (λ o. cc) in
    called_failed _ _ (λ _. Replaced c.args.name (Some c.args.bytes)) (ReplaceMay c.args.name (Some c.args.bytes))
    (landed d.meter.clock m.clock (sure_calls d.meter) (sure_calls m) d.blobs.items c.keep-in-Fails.new.blobs.items d.texts.items c.args.name c.args.bytes c.is_new.result kept below c.turn.ensures.clock d.dated)
    (landed_left d.meter.clock m.clock (sure_calls d.meter) (sure_calls m) d.blobs.items c.keep-in-Fails.new.blobs.items d.texts.items c.args.name c.args.bytes c.is_new.result kept below c.turn.ensures.clock d.dated)
