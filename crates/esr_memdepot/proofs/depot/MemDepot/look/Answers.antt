use Rattle.std.proofs.Common.{refl}
use Rattle.esr_depot.specs.Calls.{SameImage}
use Rattle.esr_memdepot.specs.Meter.{sure_calls}
use Rattle.esr_memdepot.proofs.Dates.{all_later}
use Rattle.esr_memdepot.proofs.Passing.{over, looks_ok, looks_failed}
use Rattle.esr_memdepot.proofs.depot.MemDepot.look.Goals as goal

pub invariant_of-self : goal.invariant_of-self
invariant_of-self c =
    let d = c.args.self.now in
    record { dated = all_later d.meter.clock c.turn.new.self.clock d.blobs.items d.texts.items c.turn.ensures.later d.dated }

pub returns-in-Over-clause-call : goal.returns-in-Over-clause-call
returns-in-Over-clause-call c =
    let d = c.args.self.now in
    let m = c.turn.new.self in
    over d.meter.clock m.clock (sure_calls d.meter) (sure_calls m) d.blobs.items _ d.texts.items _ (λ _. SameImage) SameImage (λ o. refl)
    (c.turn.ensures.over c.in-Over.is) c.turn.ensures.clock refl refl

pub returns-in-Served-clause-call : goal.returns-in-Served-clause-call
returns-in-Served-clause-call c =
    let d = c.args.self.now in
    let m = c.turn.new.self in
    looks_ok d.meter.clock m.clock (sure_calls d.meter) (sure_calls m) d.blobs.items d.texts.items (c.turn.ensures.not_over (λ o. cc)) c.turn.ensures.clock d.dated _

pub returns-in-Fails-clause-call : goal.returns-in-Fails-clause-call
returns-in-Fails-clause-call c =
    let d = c.args.self.now in
    let m = c.turn.new.self in
    looks_failed d.meter.clock m.clock (sure_calls d.meter) (sure_calls m) d.blobs.items d.texts.items (c.turn.ensures.not_over (λ o. cc)) c.turn.ensures.clock d.dated
