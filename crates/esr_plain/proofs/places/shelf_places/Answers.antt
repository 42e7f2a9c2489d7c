use Rattle.std.proofs.Common.{◌++◌, ◌∷◌, [], ◌∙◌, List, map, take, drop, sym, ap, append_assoc}
use Rattle.esr_model.specs.Places.{put_by, comes_first}
use Rattle.esr_plain.specs.declared.places.Place.{Place}
use Rattle.esr_plain.specs.Places.{place_of}
use Rattle.esr_plain.proofs.Sorting.{inserted}
use Rattle.esr_plain.proofs.places.shelf_places.Goals as goal

pub loop-place-preserved : goal.loop-place-preserved
loop-place-preserved c =
    let old = c.loop-place.sorted in
    let place = c.in-Some.place in
    let at = c.place_among-at.result in
    let inv = c.loop-place.invariant in
    let put = ap (λ (l : List Place). put_by comes_first (place_of place) (map place_of l)) (sym c.as_slice.ensures) ∙ c.place_among-at.ensures.put
    ∙ ap (λ (l : List Place). take at (map place_of l) ++ place_of place ∷ drop at (map place_of l)) c.as_slice.ensures in
    record {
      done = place ∷ inv.done;
      all = inv.all ∙ ap (λ (l : List Place). l ++ inv.done) c.in-Some.ensures.last ∙ append_assoc c.pop.new.self (place ∷ []) inv.done;
      sorted = ap (map place_of) c.in_ok-insert.ensures.ok ∙ inserted place_of old at place ∙ sym put ∙ ap (put_by comes_first (place_of place)) inv.sorted;
    }
