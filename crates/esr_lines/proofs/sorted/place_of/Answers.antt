use Rattle.std.proofs.Common.{◌++◌, ◌∷◌, ◌+◌, List, ap, ◌∙◌, sym, map, take, drop}
use Rattle.esr_model.specs.Values.{RootSnap}
use Rattle.esr_model.specs.Places.{put_by}
use Rattle.esr_formats.specs.Roots.{root_snap_of}
use Rattle.esr_lines.specs.Lines.{name_first}
use Rattle.esr_lines.proofs.Putting.{put_here, put_past}
use Rattle.esr_lines.proofs.sorted.place_of.Goals as goal

pub returns-then-comes_first-clause-put : goal.returns-then-comes_first-clause-put
returns-then-comes_first-clause-put c =
    let xs = c.args.sorted.now in
    let x = root_snap_of c.args.snap.now in
    let i = c.loop-old.old-index in
    let here = put_here name_first root_snap_of x xs i c.old-item.result c.loop-old-test.true c.old-item.is (sym c.comes_first.ensures ∙ c.if-comes_first.true) in
    let at_index = c.loop-old.invariant.put ∙ ap (λ (l : List RootSnap). take i (map root_snap_of xs) ++ l) here in
    at_index ∙ ap (λ n. take n (map root_snap_of xs) ++ x ∷ drop n (map root_snap_of xs)) (sym c.loop-old.invariant.place)

pub loop-old-preserved : goal.loop-old-preserved
loop-old-preserved c = record {
  place = ap (λ n. n + 1) c.loop-old.invariant.place;
  put = put_past name_first root_snap_of (root_snap_of c.args.snap.now) c.args.sorted.now c.loop-old.old-index c.old-item.result
      (put_by name_first (root_snap_of c.args.snap.now) (map root_snap_of c.args.sorted.now)) c.loop-old-test.true c.old-item.is (sym c.comes_first.ensures ∙ c.if-comes_first.false) c.loop-old.invariant.put;
}
