use Rattle.std.proofs.Common.{inl, refl, sym, ◌∙◌, rules}
use Rattle.esr_depot.specs.Image.{with_text}
use Rattle.esr_depot.specs.Changes.{Swapped, SwapMay}
use Rattle.esr_depot.specs.Moments.{called_ok, called_failed, called_wanting}
use Rattle.esr_memdepot.specs.Meter.{sure_calls}
use Rattle.esr_memdepot.specs.MemDepot.{memory_image, left_by}
use Rattle.esr_memdepot.proofs.Passing.{rests, over, went}
use Rattle.esr_memdepot.proofs.Landed.{swapped_image, swapped_dated, swapped, swapped_done, swapped_left, after_room}
use Rattle.esr_memdepot.proofs.depot.MemDepot.land_text.Goals as goal

pub returns-in_err-reserve-clause-call : goal.returns-in_err-reserve-clause-call
returns-in_err-reserve-clause-call c =
    let d = c.args.self.now in
    called_wanting _ _ (λ _. Swapped c.args.bytes) (SwapMay c.args.bytes) c.from_residual.result (search rules)
    (rests d.meter.clock d.meter.clock (sure_calls d.meter) (sure_calls d.meter) d.blobs.items d.blobs.items d.texts.items c.reserve.new.self.items refl refl refl c.reserve.ensures.items)

pub returns-in-Over-clause-call : goal.returns-in-Over-clause-call
returns-in-Over-clause-call c =
    let d = c.args.self.now in
    let m = c.turn.new.self in
    over d.meter.clock m.clock (sure_calls d.meter) (sure_calls m) d.blobs.items _ d.texts.items _ (λ _. Swapped c.args.bytes) (SwapMay c.args.bytes) (λ o. inl refl)
    (c.turn.ensures.over c.in-Over.is) c.turn.ensures.clock refl c.reserve.ensures.items

pub invariant_of-self-in-Served : goal.invariant_of-self-in-Served
invariant_of-self-in-Served c =
    let d = c.args.self.now in
    let m = c.turn.new.self in
    record {
      dated = swapped_dated d.meter.clock m.clock 0 0 d.blobs.items d.texts.items c.keep_text.new.texts.items _ (after_room _ _ _ _ c.keep_text.ensures c.reserve.ensures.items)
          refl (c.turn.ensures.not_over (λ o. cc)) c.turn.ensures.clock d.dated;
    }

pub invariant_of-self-in-Fails : goal.invariant_of-self-in-Fails
invariant_of-self-in-Fails c =
    let d = c.args.self.now in
    let m = c.turn.new.self in
    record {
      dated = swapped_dated d.meter.clock m.clock 0 0 d.blobs.items d.texts.items c.keep_text-in-Fails.new.texts.items _ (after_room _ _ _ _ c.keep_text-in-Fails.ensures c.reserve.ensures.items)
          refl (c.turn.ensures.not_over (λ o. cc)) c.turn.ensures.clock d.dated;
    }

pub returns-in-Served-clause-went : goal.returns-in-Served-clause-went
returns-in-Served-clause-went c =
    let d = c.args.self.now in
    let m = c.turn.new.self in
    went d.meter m _ _ _ (λ turn. left_by turn (memory_image d) (with_text (memory_image d) c.args.bytes)) _ (sym c.turn.ensures.turn ∙ c.in-Served.is) refl refl
    (swapped_image d.meter.clock m.clock 0 0 d.blobs.items d.texts.items c.keep_text.new.texts.items _ (after_room _ _ _ _ c.keep_text.ensures c.reserve.ensures.items)) c.turn.ensures.counts c.turn.ensures.plan

pub returns-in-Served-clause-call : goal.returns-in-Served-clause-call
returns-in-Served-clause-call c =
    let d = c.args.self.now in
    let m = c.turn.new.self in
    let kept = after_room _ _ _ _ c.keep_text.ensures c.reserve.ensures.items in
    let below = c.turn.ensures.not_over (λ o. cc) in
    called_ok _ _ (λ _. Swapped c.args.bytes) (SwapMay c.args.bytes) _
    (swapped d.meter.clock m.clock (sure_calls d.meter) (sure_calls m) d.blobs.items d.texts.items c.keep_text.new.texts.items _ kept refl below c.turn.ensures.clock d.dated)
    (swapped_done d.meter.clock m.clock (sure_calls d.meter) (sure_calls m) d.blobs.items d.texts.items c.keep_text.new.texts.items _ kept refl below c.turn.ensures.clock d.dated refl)

pub returns-in-Fails-clause-went : goal.returns-in-Fails-clause-went
returns-in-Fails-clause-went c =
    let d = c.args.self.now in
    let m = c.turn.new.self in
    let image = swapped_image d.meter.clock m.clock 0 0 d.blobs.items d.texts.items c.keep_text-in-Fails.new.texts.items _ (after_room _ _ _ _ c.keep_text-in-Fails.ensures c.reserve.ensures.items) in
    went d.meter m _ _ _ (λ turn. left_by turn (memory_image d) (with_text (memory_image d) c.args.bytes)) _ (sym c.turn.ensures.turn ∙ c.in-Fails.is) refl refl (rw c.is_new-stands.ensures at image) c.turn.ensures.counts c.turn.ensures.plan

pub returns-in-Fails-clause-call : goal.returns-in-Fails-clause-call
returns-in-Fails-clause-call c =
    let d = c.args.self.now in
    let m = c.turn.new.self in
    let kept = after_room _ _ _ _ c.keep_text-in-Fails.ensures c.reserve.ensures.items in
    let below = c.turn.ensures.not_over (λ o. cc) in
    called_failed _ _ (λ _. Swapped c.args.bytes) (SwapMay c.args.bytes)
    (swapped d.meter.clock m.clock (sure_calls d.meter) (sure_calls m) d.blobs.items d.texts.items c.keep_text-in-Fails.new.texts.items _ kept refl below c.turn.ensures.clock d.dated)
    (swapped_left d.meter.clock m.clock (sure_calls d.meter) (sure_calls m) d.blobs.items d.texts.items c.keep_text-in-Fails.new.texts.items _ kept refl below c.turn.ensures.clock d.dated)
