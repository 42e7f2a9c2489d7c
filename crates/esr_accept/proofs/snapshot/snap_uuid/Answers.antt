use Rattle.std.proofs.Common.{List, true, false, map, sym, ◌∙◌, refl}
use Rattle.esr_root.specs.declared.snaps.RootSnap.{RootSnap}
use Rattle.esr_model.specs.Uploads.{same_bytes}
use Rattle.esr_formats.specs.Roots.{root_snap_of}
use Rattle.esr_accept.specs.Asking.{snap_uuid}
use Rattle.esr_ops.specs.Lists.{same_bytes-is}
use Rattle.esr_accept.proofs.Firsts.{first_step}
use Rattle.esr_accept.proofs.snapshot.snap_uuid.Goals as goal

pub returns-then-eq : goal.returns-then-eq
returns-then-eq c =
    let x = c.snap-item.result in
    let name = c.args.name.now in
    sym (c.loop-snap.invariant ∙ first_step (λ (xs : List RootSnap). snap_uuid (map root_snap_of xs) name) (λ (s : RootSnap). same_bytes s.name name) (λ (s : RootSnap). s.uuid.number) (λ s ss. refl)
    c.args.snaps.now c.loop-snap.snap-index x true c.loop-snap-test.true c.snap-item.is (same_bytes-is x.name name ∙ sym c.eq.ensures ∙ c.if-eq.true))

pub loop-snap-preserved : goal.loop-snap-preserved
loop-snap-preserved c =
    let x = c.snap-item.result in
    let name = c.args.name.now in
    c.loop-snap.invariant ∙ first_step (λ (xs : List RootSnap). snap_uuid (map root_snap_of xs) name) (λ (s : RootSnap). same_bytes s.name name) (λ (s : RootSnap). s.uuid.number) (λ s ss. refl)
    c.args.snaps.now c.loop-snap.snap-index x false c.loop-snap-test.true c.snap-item.is (same_bytes-is x.name name ∙ sym c.eq.ensures ∙ c.if-eq.false)
