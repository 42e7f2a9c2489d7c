use Rattle.std.proofs.Common.{◌≡◌, ℕ, take, map}
use Rattle.std.specs.Ordering.{nat_cmp}
use Rattle.std.specs.BTreeSet.{contains}
use Rattle.esr_formats.specs.Roots.{root_snap_of}
use Rattle.esr_reach.specs.Listing.{is_listed}
use Rattle.esr_reach.proofs.reached.listed_uuids.Given as goal

abbrev pub invariant-loop-snap : goal.invariant-loop-snap
invariant-loop-snap l = (q : ℕ) → contains nat_cmp l.uuids q ≡ is_listed (map root_snap_of (take l.snap-index l.snaps)) q
