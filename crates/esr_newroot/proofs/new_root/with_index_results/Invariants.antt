use Rattle.std.proofs.Common.{◌≡◌, ◌≤◌, map, drop}
use Rattle.esr_formats.specs.Roots.{root_of}
use Rattle.esr_model.specs.Values.{Bytes}
use Rattle.esr_newroot.specs.Named.{with_done, HasShards, AreShardsOf, changed}
use Rattle.esr_results.specs.Results.{result_of}
use Rattle.esr_newroot.proofs.new_root.with_index_results.Given as goal

abbrev pub invariant-loop-own : goal.invariant-loop-own
invariant-loop-own l = record {
  few : l.index.shards ≤ 1024;
  has : HasShards (root_of l.root) l.index.name l.index.shards;
  shards : AreShardsOf l.index.id.number l.index.shards (map result_of (drop l.own-index l.results));
  snapshots : (root_of l.root).snapshots ≡ (root_of l.fn.root).snapshots;
  named : (name : Bytes) → changed l.index.name (with_done (map result_of (drop l.own-index l.results)) l.index.id.number) (root_of l.root) name
      ≡ changed l.index.name (with_done (map result_of l.results) l.index.id.number) (root_of l.fn.root) name;
}
