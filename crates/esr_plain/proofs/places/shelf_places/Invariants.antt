use Rattle.std.proofs.Common.{◌≡◌, ◌++◌, List, length, map}
use Rattle.esr_model.specs.Places.{comes_first, sorted_by}
use Rattle.esr_plain.specs.declared.places.Place.{Place}
use Rattle.esr_plain.specs.Places.{place_of}
use Rattle.esr_plain.proofs.places.shelf_places.Given as goal

-- those that were taken off, sorted
abbrev pub invariant-loop-place : goal.invariant-loop-place
invariant-loop-place l = record {
  done : List Place;
  all : l.initial.left ≡ l.left ++ done;
  sorted : map place_of l.sorted ≡ sorted_by comes_first (map place_of done);
}

abbrev pub decreases-loop-place : goal.decreases-loop-place
decreases-loop-place l = length l.left
