use Rattle.std.proofs.Common.{◌≡◌, ◌+◌, ℕ, List, ◌∷◌, drop, map, sym, ap, ◌∙◌, arith, string_bytes}
use Rattle.std.proofs.lemmas.List.{at_drop_more, drop_all}
use Rattle.serde_json.specs.Data.{Data, Members, put, object}
use Rattle.serde_json.specs.View.{view, members_view}
use Rattle.serde_json.proofs.Views.{view-Object, members_view-insert_entry}
use Rattle.esr_json.specs.Named.{with_members}
use Rattle.esr_root.specs.Text.{index_data, index_entry}
use Rattle.esr_root.specs.declared.indices.RootIndex.{RootIndex}
use Rattle.esr_root.proofs.write.indices_value.Goals as goal

-- the members with some indices put in
with_indices : Members → List RootIndex → Members
with_indices ms is = with_members ms (map index_entry is)

pub loop-index-preserved : goal.loop-index-preserved
unfolding with_indices
loop-index-preserved c =
    let item : RootIndex = c.index-item.result in
    let old : Members = members_view c.loop-index.members.entries in
    let turn = at_drop_more (with_indices old) c.args.indices.now c.loop-index.index-index item (omega arith) in
    let rest : List RootIndex = drop (c.loop-index.index-index + 1) c.args.indices.now in
    let name : string_bytes c.in_ok-name.name ≡ item.name = c.in_ok-name.ensures.ok ∙ c.as_str.ensures.text in
    let entries : members_view c.insert.new.self.entries ≡ put item.name (index_data item) old =
    ap members_view c.in_ok-insert.ensures.entries ∙ members_view-insert_entry c.loop-index.members.entries c.in_ok-name.name c.in_ok-index_value.field-0
    ∙ ap (λ (k : List ℕ). put k (view c.in_ok-index_value.field-0) old) name ∙ ap (λ (d : Data). put item.name d old) c.in_ok-index_value.ensures in
    c.loop-index.invariant ∙ turn ∙ ap (λ (x : RootIndex). with_indices old (x ∷ rest)) (sym c.index-item.is)
    ∙ ap (λ (m : Members). with_indices m rest) (sym entries)

pub returns : goal.returns
unfolding with_indices
returns c =
    view-Object c.loop-index.members
    ∙ ap object (sym (c.loop-index.invariant ∙ ap (with_indices (members_view c.loop-index.members.entries)) (drop_all c.loop-index.index-index c.args.indices.now c.loop-index-test.false)))
