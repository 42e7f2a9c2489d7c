use Rattle.std.proofs.Common.{◌≡◌, ◌≤◌, ℕ, true, not, List, length, map, take, sym, subst, ap, ◌∙◌, arith}
use Rattle.std.specs.Prelude.{filter}
use Rattle.std.specs.List.{AllByRecursion, list_any}
use Rattle.std.proofs.lemmas.List.{take_all}
use Rattle.esr_names.specs.declared.ids.Id.{Id}
use Rattle.esr_root.specs.Ids.{has_id}
use Rattle.esr_root.specs.Indices.{AreIndices, IsListed, is_named}
use Rattle.esr_root.specs.Root.{Root, IsInRootOrder}
use Rattle.esr_root.specs.Changes.{has_some, thinned, without_of, generation_at}
use Rattle.esr_root.specs.declared.snaps.RootSnap.{RootSnap}
use Rattle.esr_root.specs.declared.indices.RootIndex.{RootIndex}
use Rattle.esr_root.proofs.Removed.{AreIndices-without, listed_without, generation_at-without}
use Rattle.esr_root.proofs.Ordered.{ordered_without}
use Rattle.esr_root.specs.RootLists.{root_with}
use Rattle.esr_root.proofs.root.RootData.without.Goals as goal

-- the indices, once each was worked
all_done : (uuids : List Id) (all slice items : List RootIndex) (k : ℕ) → slice ≡ all → length slice ≤ k
    → items ≡ filter has_some (map (thinned uuids) (take k all)) → items ≡ filter has_some (map (thinned uuids) all)
all_done uuids all slice items k same past step =
    let end : length all ≤ k = omega (arith, ap length same) in
    step ∙ ap (λ (is : List RootIndex). filter has_some (map (thinned uuids) is)) (take_all k all end)

-- the snapshots, without those of the uuids
kept_snaps : (r : Root) (uuids slice : List Id) (old new : List RootSnap) → old ≡ r.snapshots → slice ≡ uuids → new ≡ filter (λ (s : RootSnap). not (has_id s.uuid slice)) old → new ≡ (without_of r uuids).snapshots
kept_snaps r uuids slice old new same is kept = kept ∙ ap (λ (us : List Id). filter (λ (s : RootSnap). not (has_id s.uuid us)) old) is ∙ ap (filter (λ (s : RootSnap). not (has_id s.uuid uuids))) same

pub from_items-indices-requires : goal.from_items-indices-requires
from_items-indices-requires c =
    let all : List RootIndex = c.args.self.now.indices in
    let slice : c.as_slice-index-items.result.now ≡ all = c.as_slice-index-items.ensures.items ∙ ap (λ (r : Root). r.indices) c.self.view_is in
    let whole = all_done c.args.uuids.now all c.as_slice-index-items.result.now c.loop-index.items c.loop-index.index-index slice c.loop-index-test.false c.loop-index.invariant in
    subst AreIndices (sym whole) (AreIndices-without c.args.uuids.now all c.rule.ensures.indices)

pub from_parts-requires : goal.from_parts-requires
from_parts-requires c =
    let all : List RootIndex = c.args.self.now.indices in
    let slice : c.as_slice-index-items.result.now ≡ all = c.as_slice-index-items.ensures.items ∙ ap (λ (r : Root). r.indices) c.self.view_is in
    let whole = all_done c.args.uuids.now all c.as_slice-index-items.result.now c.loop-index.items c.loop-index.index-index slice c.loop-index-test.false c.loop-index.invariant in
    let snaps = kept_snaps c.args.self.now c.args.uuids.now _ c.self.inside.snapshots c.in_ok-snapshots.snapshots (ap (λ (r : Root). r.snapshots) c.self.view_is) c.as_slice.ensures c.in_ok-snapshots.ensures in
    subst (λ (ss : List RootSnap). AllByRecursion (IsListed ss) c.from_items-indices.result) (sym snaps)
    (subst (AllByRecursion (IsListed (without_of c.args.self.now c.args.uuids.now).snapshots)) (sym (c.from_items-indices.ensures ∙ whole)) (listed_without c.args.self.now c.args.uuids.now c.rule.ensures))

pub returns-clause-generations : goal.returns-clause-generations
returns-clause-generations c = λ name k there.
    let all : List RootIndex = c.args.self.now.indices in
    let slice : c.as_slice-index-items.result.now ≡ all = c.as_slice-index-items.ensures.items ∙ ap (λ (r : Root). r.indices) c.self.view_is in
    let whole = all_done c.args.uuids.now all c.as_slice-index-items.result.now c.loop-index.items c.loop-index.index-index slice c.loop-index-test.false c.loop-index.invariant in
    let root = c.from_parts.ensures ∙ ap (root_with c.in_ok-snapshots.snapshots) (c.from_items-indices.ensures ∙ whole) in
    ap (λ (r : Root). generation_at r name k) root
    ∙ generation_at-without c.args.self.now c.args.uuids.now c.rule.ensures name k (subst (λ (r : Root). list_any (is_named name) r.indices ≡ true) root there)

pub returns-clause-order : goal.returns-clause-order
returns-clause-order c = λ order.
    let all : List RootIndex = c.args.self.now.indices in
    let slice : c.as_slice-index-items.result.now ≡ all = c.as_slice-index-items.ensures.items ∙ ap (λ (r : Root). r.indices) c.self.view_is in
    let whole = all_done c.args.uuids.now all c.as_slice-index-items.result.now c.loop-index.items c.loop-index.index-index slice c.loop-index-test.false c.loop-index.invariant in
    let snaps = kept_snaps c.args.self.now c.args.uuids.now _ c.self.inside.snapshots c.in_ok-snapshots.snapshots (ap (λ (r : Root). r.snapshots) c.self.view_is) c.as_slice.ensures c.in_ok-snapshots.ensures in
    let root = c.from_parts.ensures ∙ ap (λ (ss : List RootSnap). root_with ss c.from_items-indices.result) snaps ∙ ap (root_with (without_of c.args.self.now c.args.uuids.now).snapshots) (c.from_items-indices.ensures ∙ whole) in
    subst (λ (r : Root). AllByRecursion (IsInRootOrder r.snapshots) r.indices) (sym root) (ordered_without c.args.self.now c.args.uuids.now order)
