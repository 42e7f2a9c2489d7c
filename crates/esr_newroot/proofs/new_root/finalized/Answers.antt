use Rattle.std.proofs.Common.{◌≡◌, List, map, sym, ap, ◌∙◌, subst}
use Rattle.std.specs.List.{AllByRecursion, IsDistinct}
use Rattle.esr_names.specs.declared.index_ref.IndexRef.{IndexRef}
use Rattle.esr_meta.specs.Info.{Info}
use Rattle.esr_root.specs.Changes.{MayAdd, add_of}
use Rattle.esr_formats.specs.Roots.{root_of}
use Rattle.esr_newroot.specs.Named.{index_named, ref_named, done_in, IsReady, Becomes}
use Rattle.esr_results.specs.Results.{result_of}
use Rattle.esr_results.specs.declared.result.ShardResult.{ShardResult}
use Rattle.esr_newroot.specs.RefLists.{one_name, names_distinct}
use Rattle.esr_newroot.proofs.Growing.{may_add, ready_of}
use Rattle.esr_newroot.proofs.Finalizing.{is_finalized}
use Rattle.esr_newroot.proofs.new_root.finalized.Goals as goal

pub add-requires : goal.add-requires
add-requires c =
    let indices : c.info.inside.indices ≡ c.args.info.now.indices = ap (λ (i : Info). i.indices) c.info.view_is in
    subst (MayAdd c.args.root.now c.in_ok-snap_of.field-0) (sym indices)
    (may_add c.args.root.now c.args.info.now (map result_of c.args.results.now) c.in_ok-snap_of.field-0 c.info_rule.ensures.indices c.requires c.in_ok-snap_of.ensures)

pub with_results-requires-clause-names : goal.with_results-requires-clause-names
with_results-requires-clause-names c =
    let indices : c.as_slice.result.now ≡ c.args.info.now.indices = c.as_slice.ensures ∙ ap (λ (i : Info). i.indices) c.info.view_is in
    subst (IsDistinct one_name) (sym indices) (names_distinct c.args.info.now.indices c.info_rule.ensures.indices)

pub with_results-requires-clause-ready : goal.with_results-requires-clause-ready
with_results-requires-clause-ready c =
    let inside : c.info.inside.indices ≡ c.args.info.now.indices = ap (λ (i : Info). i.indices) c.info.view_is in
    let grows = c.in_ok-grown.ensures.value ∙ ap (add_of c.args.root.now c.in_ok-snap_of.field-0) inside in
    subst (AllByRecursion (IsReady (root_of c.in_ok-grown.grown) (map result_of c.as_slice-2.result.now))) (sym (c.as_slice.ensures ∙ inside))
    (subst (λ (rs : List ShardResult). AllByRecursion (IsReady (root_of c.in_ok-grown.grown) (map result_of rs)) c.args.info.now.indices) (sym c.as_slice-2.ensures)
    (ready_of c.args.root.now c.in_ok-grown.grown c.args.info.now (map result_of c.args.results.now) c.in_ok-snap_of.field-0 c.root_rule.ensures c.info_rule.ensures.indices c.requires c.in_ok-snap_of.ensures grows))

pub returns : goal.returns
returns c =
    let inside : c.info.inside.indices ≡ c.args.info.now.indices = ap (λ (i : Info). i.indices) c.info.view_is in
    let grows = c.in_ok-grown.ensures.value ∙ ap (add_of c.args.root.now c.in_ok-snap_of.field-0) inside in
    let ByRefs : List ShardResult → List IndexRef → Type 0 = λ rs qs.
    Becomes (root_of c.in_ok-grown.grown) (root_of c.in_ok-new.new) (λ name. done_in (map result_of rs) (ref_named name qs) (index_named name (root_of c.in_ok-grown.grown).indices)) in
    let becomes : ByRefs c.args.results.now c.args.info.now.indices =
    subst (λ (rs : List ShardResult). ByRefs rs c.args.info.now.indices) c.as_slice-2.ensures (subst (ByRefs c.as_slice-2.result.now) (c.as_slice.ensures ∙ inside) c.in_ok-new.ensures) in
    is_finalized c.args.root.now c.in_ok-grown.grown c.in_ok-new.new c.args.info.now (map result_of c.args.results.now) c.in_ok-snap_of.field-0
    c.root_rule.ensures c.root_rule-2.ensures c.info_rule.ensures.indices c.requires c.in_ok-snap_of.ensures grows becomes
