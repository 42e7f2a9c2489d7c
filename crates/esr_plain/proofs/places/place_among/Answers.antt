use Rattle.std.proofs.Common.{◌++◌, ◌∷◌, ◌+◌, ℕ, List, ap, ◌∙◌, sym, map, take, drop}
use Rattle.esr_model.specs.Values.{IndexRef}
use Rattle.esr_model.specs.Places.{put_by, comes_first}
use Rattle.esr_plain.specs.Places.{place_of}
use Rattle.esr_plain.proofs.Sorting.{put_here, put_past}
use Rattle.esr_plain.proofs.places.place_among.Goals as goal

pub returns-then-comes_first-clause-put : goal.returns-then-comes_first-clause-put
returns-then-comes_first-clause-put c =
    let xs = c.args.sorted.now in
    let x = place_of c.args.place.now in
    let i = c.loop-old.old-index in
    let here = put_here comes_first place_of x xs i c.old-item.result c.loop-old-test.true c.old-item.is (sym c.comes_first.ensures ∙ c.if-comes_first.true) in
    let at_index = c.loop-old.invariant.put ∙ ap (λ (l : List (IndexRef × ℕ)). take i (map place_of xs) ++ l) here in
    at_index ∙ ap (λ n. take n (map place_of xs) ++ x ∷ drop n (map place_of xs)) (sym c.loop-old.invariant.at)

pub loop-old-preserved : goal.loop-old-preserved
loop-old-preserved c = record {
  at = ap (λ n. n + 1) c.loop-old.invariant.at;
  put = put_past comes_first place_of (place_of c.args.place.now) c.args.sorted.now c.loop-old.old-index c.old-item.result
      (put_by comes_first (place_of c.args.place.now) (map place_of c.args.sorted.now)) c.loop-old-test.true c.old-item.is (sym c.comes_first.ensures ∙ c.if-comes_first.false) c.loop-old.invariant.put;
}
