use Rattle.std.proofs.Common.{◌≡◌, ◌≢◌, ◌+◌, ℕ, List, [], ◌∷◌, drop, map, get_or, sym, ap, ◌∙◌, subst}
use Rattle.std.proofs.lemmas.Bool.{eqb-true, eq-eqb, true≢false}
use Rattle.esr_root.specs.Root.{Root}
use Rattle.esr_formats.specs.Roots.{root_of}
use Rattle.esr_model.specs.Values.{Bytes, ShardResult}
use Rattle.esr_results.specs.declared.result.ShardResult.{ShardResult as CodeResult}
use Rattle.esr_newroot.specs.Named.{with_done, HasShards, AreShardsOf, Becomes, changed}
use Rattle.esr_results.specs.Results.{result_of}
use Rattle.esr_newroot.proofs.Steps.{no_result, next_result, no_more, step_own, step_other, step_none, has_still}
use Rattle.esr_newroot.proofs.new_root.with_index_results.Goals as goal
use Rattle.esr_newroot.proofs.new_root.with_index_results.Goals.{then-eq+in_ok-root, else-eq}

pub loop-own-preserved : goal.loop-own-preserved
loop-own-preserved c =
    let results : List CodeResult = c.args.results.now in
    let k : ℕ = c.loop-own.own-index in
    let name : Bytes = c.args.index.now.name in
    let id : ℕ = c.args.index.now.id.number in
    let r : ShardResult = result_of (get_or results k no_result) in
    let rest : List ShardResult = map result_of (drop (k + 1) results) in
    let next : map result_of (drop k results) ≡ r ∷ rest = next_result results k c.loop-own-test.true in
    let shards = subst (AreShardsOf id c.args.index.now.shards) next c.loop-own.invariant.shards in
    elim c.if-eq.branch [
      | then-eq+in_ok-root w ↦
          let own : r.index ≡ id = eqb-true r.index id (sym c.eq.ensures ∙ w.if-eq.true) in
          let b = subst (λ (new : Root). Becomes (root_of c.loop-own.root) (root_of new) (changed name (with_done (r ∷ []) r.index) (root_of c.loop-own.root))) (sym w.root-is) w.in_ok-root.ensures in
          record {
            few = c.loop-own.invariant.few;
            has = has_still (root_of c.loop-own.root) (root_of c.if-eq.root) name (r ∷ []) r.index b name c.args.index.now.shards c.loop-own.invariant.has;
            shards = shards.1;
            snapshots = b.snapshots ∙ c.loop-own.invariant.snapshots;
            named = λ n.
                step_own (root_of c.loop-own.root) (root_of c.if-eq.root) name id r rest own (shards.0 own).1 b n
                ∙ ap (λ (rs : List ShardResult). changed name (with_done rs id) (root_of c.loop-own.root) n) (sym next) ∙ c.loop-own.invariant.named n;
          }
      | else-eq w ↦
          let other : r.index ≢ id = (λ e. true≢false (sym (eq-eqb r.index id e) ∙ sym c.eq.ensures ∙ w.if-eq.false)) in
          record {
            few = c.loop-own.invariant.few;
            has = subst (λ (new : Root). HasShards (root_of new) name c.args.index.now.shards) (sym w.root-is) c.loop-own.invariant.has;
            shards = shards.1;
            snapshots = ap (λ (new : Root). (root_of new).snapshots) w.root-is ∙ c.loop-own.invariant.snapshots;
            named = λ n.
                ap (λ (new : Root). changed name (with_done rest id) (root_of new) n) w.root-is ∙ step_other (root_of c.loop-own.root) name id r rest other n
                ∙ ap (λ (rs : List ShardResult). changed name (with_done rs id) (root_of c.loop-own.root) n) (sym next) ∙ c.loop-own.invariant.named n;
          }
    ]

pub returns : goal.returns
returns c =
    let name : Bytes = c.args.index.now.name in
    let id : ℕ = c.args.index.now.id.number in
    let none : map result_of (drop c.loop-own.own-index c.args.results.now) ≡ [] = no_more c.args.results.now c.loop-own.own-index c.loop-own-test.false in
    record {
      snapshots = c.loop-own.invariant.snapshots;
      indices = λ n.
          sym (step_none (root_of c.loop-own.root) name id n) ∙ ap (λ (rs : List ShardResult). changed name (with_done rs id) (root_of c.loop-own.root) n) (sym none)
          ∙ c.loop-own.invariant.named n;
    }
