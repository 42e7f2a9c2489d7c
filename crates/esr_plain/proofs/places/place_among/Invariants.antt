use Rattle.std.proofs.Common.{◌≡◌, ◌++◌, drop, take, map}
use Rattle.esr_model.specs.Places.{put_by, comes_first}
use Rattle.esr_plain.specs.Places.{place_of}
use Rattle.esr_plain.proofs.places.place_among.Given as goal

abbrev pub invariant-loop-old : goal.invariant-loop-old
invariant-loop-old l = record {
  at : l.at ≡ l.old-index;
  put : put_by comes_first (place_of l.place) (map place_of l.sorted)
      ≡ take l.old-index (map place_of l.sorted) ++ put_by comes_first (place_of l.place) (drop l.old-index (map place_of l.sorted));
}
