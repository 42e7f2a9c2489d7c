use Rattle.std.proofs.Common.{◌≡◌, ◌+◌, false, List, [], ◌∷◌, ◌++◌, map, drop, Ok, refl, sym, ap, ◌∙◌, arith}
use Rattle.std.specs.List.{list_any}
use Rattle.std.proofs.lemmas.List.{at_drop_more}
use Rattle.serde_json.specs.Data.{Data}
use Rattle.serde_json.specs.View.{view}
use Rattle.serde_json.specs.declared.value.Value.{Value}
use Rattle.esr_root.specs.Snaps.{clashes}
use Rattle.esr_root.specs.Reading.{snap_of, snaps_from}
use Rattle.esr_root.specs.declared.snaps.RootSnap.{RootSnap}
use Rattle.esr_root.proofs.read.snaps_of.Goals as goal

-- one snapshot read
next : (before : List RootSnap) (d : Data) (ds : List Data) (s : RootSnap) → snap_of d ≡ Ok s → list_any (λ old. clashes old s) before ≡ false → snaps_from before (d ∷ ds) ≡ snaps_from (before ++ s ∷ []) ds
unfolding snaps_from
next before d ds s read fresh = rw (read, fresh) refl

pub loop-value-preserved : goal.loop-value-preserved
loop-value-preserved c =
    let item : Value = c.value-item.result in
    let snaps : List RootSnap = c.loop-value.snaps in
    let rest : List Value = drop (c.loop-value.value-index + 1) c.args.values.now in
    let turn = at_drop_more (λ (vs : List Value). snaps_from snaps (map view vs)) c.args.values.now c.loop-value.value-index item (omega arith) in
    let fresh : list_any (λ old. clashes old c.in_ok-snap.snap) snaps ≡ false =
    sym (ap (λ (ss : List RootSnap). list_any (λ old. clashes old c.in_ok-snap.snap) ss) c.as_slice.ensures.items) ∙ sym c.is_listed.ensures ∙ c.if-is_listed.false in
    c.loop-value.invariant ∙ turn ∙ ap (λ (v : Value). snaps_from snaps (map view (v ∷ rest))) (sym c.value-item.is)
    ∙ next snaps (view item) (map view rest) c.in_ok-snap.snap c.in_ok-snap.ensures fresh ∙ ap (λ (ss : List RootSnap). snaps_from ss (map view rest)) (sym c.in_ok-push.ensures.ok)
