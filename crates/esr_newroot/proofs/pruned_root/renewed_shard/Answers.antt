use Rattle.std.proofs.Common.{◌≡◌, true, List, option_map, inl, sym, ap, ◌∙◌, subst}
use Rattle.std.specs.List.{list_any}
use Rattle.std.proofs.lemmas.Result.{IfOk-weaker}
use Rattle.esr_root.specs.Root.{Root}
use Rattle.esr_root.specs.Indices.{is_named}
use Rattle.esr_root.specs.Changes.{set_generation_of}
use Rattle.esr_root.specs.declared.indices.RootIndex.{RootIndex as CodeIndex}
use Rattle.esr_formats.specs.Ids.{number_of}
use Rattle.esr_formats.specs.Roots.{root_of}
use Rattle.esr_model.specs.Values.{Has}
use Rattle.esr_model.specs.Delete.{set_fresh}
use Rattle.esr_newroot.proofs.Pruning.{known, renewed_here, renewed_none, passed_one, all_passed, item_there}
use Rattle.esr_newroot.proofs.pruned_root.renewed_shard.Goals as goal

pub loop-index-init : goal.loop-index-init
loop-index-init c = λ i m. inl m

pub set_generation-requires-clause-known : goal.set_generation-requires-clause-known
set_generation-requires-clause-known c =
    subst (λ (is : List CodeIndex). list_any (is_named c.index-item.result.name) is ≡ true) (c.as_slice-index-items.ensures.items ∙ ap (λ (r : Root). r.indices) c.root.view_is)
    (known c.as_slice-index-items.result.now c.index-item.result (item_there c.as_slice-index-items.result.now c.loop-index.index-index c.index-item.result c.loop-index-test.true c.index-item.is))

pub returns-then-eq : goal.returns-then-eq
returns-then-eq c =
    let items = c.as_slice-index-items.ensures.items ∙ ap (λ (r : Root). r.indices) c.root.view_is in
    let there = subst (λ (is : List CodeIndex). Has is c.index-item.result) items (item_there c.as_slice-index-items.result.now c.loop-index.index-index c.index-item.result c.loop-index-test.true c.index-item.is) in
    IfOk-weaker c.set_generation.result (λ (r : Root). r ≡ set_generation_of c.args.root.now c.index-item.result.name c.args.shard.now.shard.number c.args.to)
    (λ (r : Root). root_of r ≡ set_fresh c.args.shard.now.shard.index.number c.args.shard.now.shard.number (option_map number_of c.args.to) (root_of c.args.root.now))
    (λ r e. renewed_here c.args.root.now c.args.shard.now c.args.to c.index-item.result r c.indices_rule.ensures c.requires there (sym c.eq.ensures ∙ c.if-eq.true) e) c.set_generation.ensures.value

pub loop-index-preserved : goal.loop-index-preserved
loop-index-preserved c =
    passed_one c.as_slice-index-items.result.now c.args.shard.now.shard.index.number c.loop-index.index-index c.index-item.result c.loop-index-test.true c.index-item.is (sym c.eq.ensures ∙ c.if-eq.false) c.loop-index.invariant

pub returns : goal.returns
returns c =
    let items = c.as_slice-index-items.ensures.items ∙ ap (λ (r : Root). r.indices) c.root.view_is in
    IfOk-weaker c.try_clone.result (λ (r : Root). r ≡ c.args.root.now)
    (λ (r : Root). root_of r ≡ set_fresh c.args.shard.now.shard.index.number c.args.shard.now.shard.number (option_map number_of c.args.to) (root_of c.args.root.now))
    (λ r e. renewed_none c.args.root.now r c.args.shard.now c.args.to
    (λ i m. all_passed c.as_slice-index-items.result.now c.args.shard.now.shard.index.number c.loop-index.index-index c.loop-index-test.false c.loop-index.invariant i (subst (λ (is : List CodeIndex). Has is i) (sym items) m)) e) c.try_clone.ensures
