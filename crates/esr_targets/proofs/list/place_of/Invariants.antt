use Rattle.std.proofs.Common.{◌≡◌, ◌++◌, drop, take}
use Rattle.esr_model.specs.Places.{put_by}
use Rattle.esr_targets.specs.Listed.{target_first}
use Rattle.esr_targets.proofs.list.place_of.Given as goal

abbrev pub invariant-loop-old : goal.invariant-loop-old
invariant-loop-old g l = record {
  place : l.place ≡ l.old-index;
  put : put_by target_first l.target l.sorted ≡ take l.old-index l.sorted ++ put_by target_first l.target (drop l.old-index l.sorted);
}
