use Rattle.std.proofs.Common.{◌≡◌, drop, take}
use Rattle.std.specs.List.{AllByRecursion}
use Rattle.esr_root.specs.Changes.{with_each}
use Rattle.esr_root.specs.Indices.{IsRef}
use Rattle.esr_root.proofs.root.RootData.add.Given as goal

abbrev pub invariant-loop-index : goal.invariant-loop-index
invariant-loop-index l = record {
  done : with_each l.snap.uuid l.fn.indices l.self.indices ≡ with_each l.snap.uuid (drop l.index-index l.fn.indices) l.items.items;
  good : AllByRecursion IsRef (take l.index-index l.fn.indices);
}
