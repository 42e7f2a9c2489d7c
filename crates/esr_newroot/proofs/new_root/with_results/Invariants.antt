use Rattle.std.proofs.Common.{◌≡◌, map, drop}
use Rattle.std.specs.List.{AllByRecursion}
use Rattle.esr_formats.specs.Roots.{root_of}
use Rattle.esr_model.specs.Values.{Bytes}
use Rattle.esr_newroot.specs.Named.{index_named, IsReady}
use Rattle.esr_results.specs.Results.{result_of}
use Rattle.esr_newroot.proofs.Refs.{by_refs}
use Rattle.esr_newroot.proofs.Steps.{with_own}
use Rattle.esr_newroot.proofs.new_root.with_results.Given as goal

abbrev pub invariant-loop-index : goal.invariant-loop-index
invariant-loop-index l = record {
  ready : AllByRecursion (IsReady (root_of l.root) (map result_of l.results)) (drop l.index-index l.indices);
  snapshots : (root_of l.root).snapshots ≡ (root_of l.fn.root).snapshots;
  named : (name : Bytes) → by_refs (with_own (map result_of l.results)) name (drop l.index-index l.indices) (index_named name (root_of l.root).indices)
      ≡ by_refs (with_own (map result_of l.results)) name l.indices (index_named name (root_of l.fn.root).indices);
}
