use Rattle.std.proofs.Common.{refl, sym, ◌∙◌, length, take, arith}
use Rattle.esr_depot.specs.Image.{without}
use Rattle.esr_depot.specs.Changes.{Removed, RemoveMay}
use Rattle.esr_depot.specs.Moments.{called_ok, called_failed}
use Rattle.esr_memdepot.specs.Past.{taken_count}
use Rattle.esr_memdepot.specs.Meter.{sure_calls}
use Rattle.esr_memdepot.specs.MemDepot.{memory_image, taken_by}
use Rattle.esr_memdepot.proofs.Passing.{over, went}
use Rattle.esr_memdepot.proofs.Marked.{removed_now, removed_dated, removed, removed_done, removed_left, removes_none}
use Rattle.esr_memdepot.proofs.depot.MemDepotDepot.remove.Goals as goal

pub returns-in-Over-clause-call : goal.returns-in-Over-clause-call
returns-in-Over-clause-call c =
    let d = c.args.self.now in
    let m = c.turn.new.self in
    over d.meter.clock m.clock (sure_calls d.meter) (sure_calls m) d.blobs.items _ d.texts.items _ (λ _. Removed c.args.names.now) (RemoveMay c.args.names.now) (removes_none c.args.names.now)
    (c.turn.ensures.over c.in-Over.is) c.turn.ensures.clock refl refl

pub returns-in-Over-clause-went : goal.returns-in-Over-clause-went
returns-in-Over-clause-went c =
    let d = c.args.self.now in
    let names = c.args.names.now in
    went d.meter c.turn.new.self _ _ _ (λ turn. without (memory_image d) (take (taken_by turn (length names)) names)) _ (sym c.turn.ensures.turn ∙ c.in-Over.is) refl refl refl c.turn.ensures.counts c.turn.ensures.plan

pub invariant_of-self-in-Served : goal.invariant_of-self-in-Served
invariant_of-self-in-Served c =
    let d = c.args.self.now in
    let m = c.turn.new.self in
    let names = c.args.names.now in
    record {
      dated = removed_dated d.meter.clock m.clock 0 0 d.blobs.items c.remove_left.new.blobs.items d.texts.items names (length names) c.remove_left.ensures
          (c.turn.ensures.not_over (λ o. cc)) c.turn.ensures.clock d.dated;
    }

pub invariant_of-self-in-Fails : goal.invariant_of-self-in-Fails
invariant_of-self-in-Fails c =
    let d = c.args.self.now in
    let m = c.turn.new.self in
    let names = c.args.names.now in
    record {
      dated = removed_dated d.meter.clock m.clock 0 0 d.blobs.items c.remove_left-in-Fails.new.blobs.items d.texts.items names (taken_count c.in-Fails.leaves (length names)) c.remove_left-in-Fails.ensures
          (c.turn.ensures.not_over (λ o. cc)) c.turn.ensures.clock d.dated;
    }

pub returns-in-Served-clause-went : goal.returns-in-Served-clause-went
returns-in-Served-clause-went c =
    let d = c.args.self.now in
    let m = c.turn.new.self in
    let names = c.args.names.now in
    went d.meter m _ _ _ (λ turn. without (memory_image d) (take (taken_by turn (length names)) names)) _ (sym c.turn.ensures.turn ∙ c.in-Served.is) refl refl
    (removed_now d.meter.clock m.clock 0 0 d.blobs.items c.remove_left.new.blobs.items d.texts.items names (length names) c.remove_left.ensures) c.turn.ensures.counts c.turn.ensures.plan

pub returns-in-Served-clause-call : goal.returns-in-Served-clause-call
returns-in-Served-clause-call c =
    let d = c.args.self.now in
    let m = c.turn.new.self in
    let names = c.args.names.now in
    let below = c.turn.ensures.not_over (λ o. cc) in
    called_ok _ _ (λ _. Removed names) (RemoveMay names) _
    (removed d.meter.clock m.clock (sure_calls d.meter) (sure_calls m) d.blobs.items c.remove_left.new.blobs.items d.texts.items names (length names) c.remove_left.ensures below c.turn.ensures.clock d.dated)
    (removed_done d.meter.clock m.clock (sure_calls d.meter) (sure_calls m) d.blobs.items c.remove_left.new.blobs.items d.texts.items names (length names) c.remove_left.ensures below c.turn.ensures.clock d.dated (omega arith))

pub returns-in-Fails-clause-went : goal.returns-in-Fails-clause-went
returns-in-Fails-clause-went c =
    let d = c.args.self.now in
    let m = c.turn.new.self in
    let names = c.args.names.now in
    went d.meter m _ _ _ (λ turn. without (memory_image d) (take (taken_by turn (length names)) names)) _ (sym c.turn.ensures.turn ∙ c.in-Fails.is) refl refl
    (removed_now d.meter.clock m.clock 0 0 d.blobs.items c.remove_left-in-Fails.new.blobs.items d.texts.items names (taken_count c.in-Fails.leaves (length names)) c.remove_left-in-Fails.ensures) c.turn.ensures.counts c.turn.ensures.plan

pub returns-in-Fails-clause-call : goal.returns-in-Fails-clause-call
returns-in-Fails-clause-call c =
    let d = c.args.self.now in
    let m = c.turn.new.self in
    let names = c.args.names.now in
    let count = taken_count c.in-Fails.leaves (length names) in
    let below = c.turn.ensures.not_over (λ o. cc) in
    called_failed _ _ (λ _. Removed names) (RemoveMay names)
    (removed d.meter.clock m.clock (sure_calls d.meter) (sure_calls m) d.blobs.items c.remove_left-in-Fails.new.blobs.items d.texts.items names count c.remove_left-in-Fails.ensures below c.turn.ensures.clock d.dated)
    (removed_left d.meter.clock m.clock (sure_calls d.meter) (sure_calls m) d.blobs.items c.remove_left-in-Fails.new.blobs.items d.texts.items names count c.remove_left-in-Fails.ensures below c.turn.ensures.clock d.dated)
