use Rattle.std.proofs.Common.{◌≡◌, length, not, sym, subst, ap, ◌∙◌, arith}
use Rattle.std.specs.Prelude.{filter}
use Rattle.std.proofs.lemmas.List.{take_all}
use Rattle.esr_root.specs.Ids.{has_id}
use Rattle.esr_root.specs.Snaps.{AreSnaps}
use Rattle.esr_root.specs.declared.snaps.RootSnap.{RootSnap}
use Rattle.esr_root.proofs.Removed.{AreSnaps-filter}
use Rattle.esr_root.proofs.snaps.RootSnaps.without.Goals as goal

pub invariant_of-result : goal.invariant_of-result
invariant_of-result c =
    let stays = λ (s : RootSnap). not (has_id s.uuid c.args.uuids.now) in
    let same : length c.as_slice-snap-items.result.now ≡ length c.args.self.now = ap length c.as_slice-snap-items.ensures.items in
    let whole : c.loop-snap.items ≡ filter stays c.args.self.now = c.loop-snap.invariant ∙ ap (filter stays) (take_all c.loop-snap.snap-index c.args.self.now (omega arith)) in
    subst AreSnaps (sym whole) (AreSnaps-filter stays c.args.self.now c.as_slice-snap-items.ensures.rule)
