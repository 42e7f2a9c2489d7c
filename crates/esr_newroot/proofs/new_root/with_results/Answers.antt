use Rattle.std.proofs.Common.{◌≡◌, ◌+◌, ℕ, List, [], ◌∷◌, drop, map, sym, ap, ◌∙◌, subst}
use Rattle.std.specs.List.{AllByRecursion}
use Rattle.std.proofs.lemmas.List.{drop_all}
use Rattle.esr_names.specs.declared.index_ref.IndexRef.{IndexRef}
use Rattle.esr_formats.specs.Roots.{root_of}
use Rattle.esr_model.specs.Values.{ShardResult}
use Rattle.esr_newroot.specs.Named.{index_named, IsReady}
use Rattle.esr_results.specs.Results.{result_of}
use Rattle.esr_newroot.proofs.Refs.{by_refs}
use Rattle.esr_newroot.proofs.Steps.{next_index, with_own, ready_still, all_done}
use Rattle.esr_newroot.proofs.new_root.with_results.Goals as goal

pub loop-index-preserved : goal.loop-index-preserved
loop-index-preserved c =
    let indices : List IndexRef = c.args.indices.now in
    let results : List ShardResult = map result_of c.args.results.now in
    let k : ℕ = c.loop-index.index-index in
    let q : IndexRef = c.index-item.result in
    let rest : List IndexRef = drop (k + 1) indices in
    let next : drop k indices ≡ q ∷ rest = next_index indices k q c.loop-index-test.true c.index-item.is in
    let ready = subst (AllByRecursion (IsReady (root_of c.loop-index.root) results)) next c.loop-index.invariant.ready in
    let b = c.in_ok-root.ensures in
    record {
      ready = ready_still (root_of c.loop-index.root) (root_of c.in_ok-root.root) q.name results q.id.number b rest ready.1;
      snapshots = b.snapshots ∙ c.loop-index.invariant.snapshots;
      named = λ n.
          ap (by_refs (with_own results) n rest) (b.indices n)
          ∙ ap (λ (qs : List IndexRef). by_refs (with_own results) n qs (index_named n (root_of c.loop-index.root).indices)) (sym next) ∙ c.loop-index.invariant.named n;
    }

pub returns : goal.returns
returns c =
    let indices : List IndexRef = c.args.indices.now in
    let results : List ShardResult = map result_of c.args.results.now in
    let none : drop c.loop-index.index-index indices ≡ [] = drop_all c.loop-index.index-index indices c.loop-index-test.false in
    record {
      snapshots = c.loop-index.invariant.snapshots;
      indices = λ n.
          ap (λ (qs : List IndexRef). by_refs (with_own results) n qs (index_named n (root_of c.loop-index.root).indices)) (sym none)
          ∙ c.loop-index.invariant.named n ∙ all_done results n indices (index_named n (root_of c.args.root).indices) c.requires.names;
    }
