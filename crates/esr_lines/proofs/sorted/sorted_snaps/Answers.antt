use Rattle.std.proofs.Common.{◌++◌, ◌∷◌, ◌∙◌, List, map, take, drop, sym, ap}
use Rattle.esr_root.specs.declared.snaps.RootSnap.{RootSnap}
use Rattle.esr_model.specs.Places.{put_by}
use Rattle.esr_formats.specs.Roots.{root_snap_of}
use Rattle.esr_lines.specs.Lines.{name_first}
use Rattle.esr_lines.proofs.Sorting.{front_left, sorted_left, inserted}
use Rattle.esr_lines.proofs.sorted.sorted_snaps.Goals as goal

pub loop-left-preserved : goal.loop-left-preserved
loop-left-preserved c =
    let snaps = c.args.snaps.now in
    let left = c.loop-left.left.now in
    let old = c.loop-left.sorted in
    let last = c.last-item.result in
    let place = c.place_of-place.result in
    let put = ap (λ (l : List RootSnap). put_by name_first (root_snap_of last) (map root_snap_of l)) (sym c.as_slice.ensures) ∙ c.place_of-place.ensures.put
    ∙ ap (λ (l : List RootSnap). take place (map root_snap_of l) ++ root_snap_of last ∷ drop place (map root_snap_of l)) c.as_slice.ensures in
    record {
      front = front_left snaps left c.in-len1-up.len_at_least c.loop-left.invariant.front;
      sorted = ap (map root_snap_of) c.in_ok-insert.ensures.ok ∙ ap (λ (x : RootSnap). map root_snap_of (take place old ++ x ∷ drop place old)) c.in_ok-try_clone.ensures
          ∙ inserted root_snap_of old place last ∙ sym put
          ∙ sorted_left name_first root_snap_of snaps left last (map root_snap_of old) c.in-len1-up.len_at_least c.loop-left.invariant.front c.last-item.is c.loop-left.invariant.sorted;
    }
