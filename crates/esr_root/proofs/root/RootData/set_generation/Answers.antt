use Rattle.std.proofs.Common.{◌≡◌, ◌≤◌, ℕ, List, Option, length, map, take, sym, subst, ap, ◌∙◌, arith}
use Rattle.std.specs.List.{AllByRecursion}
use Rattle.std.proofs.lemmas.List.{take_all}
use Rattle.esr_names.specs.declared.ids.Id.{Id}
use Rattle.esr_root.specs.Indices.{AreIndices, IsListed}
use Rattle.esr_root.specs.Root.{Root, IsInRootOrder}
use Rattle.esr_root.specs.Changes.{set_generation_in, generation_at}
use Rattle.esr_root.specs.declared.snaps.RootSnap.{RootSnap}
use Rattle.esr_root.specs.declared.indices.RootIndex.{RootIndex}
use Rattle.esr_root.proofs.Changed.{AreIndices-set, listed_set, generation_at-there, generation_at-elsewhere}
use Rattle.esr_root.proofs.Ordered.{ordered_set}
use Rattle.esr_root.specs.RootLists.{root_with}
use Rattle.esr_root.proofs.root.RootData.set_generation.Goals as goal

-- the indices, once each was worked
all_done : (name : List ℕ) (shard : ℕ) (to : Option Id) (all slice items : List RootIndex) (k : ℕ) → slice ≡ all → length slice ≤ k
    → items ≡ map (set_generation_in name shard to) (take k all) → items ≡ map (set_generation_in name shard to) all
all_done name shard to all slice items k same past step =
    let end : length all ≤ k = omega (arith, ap length same) in
    step ∙ ap (λ (is : List RootIndex). map (set_generation_in name shard to) is) (take_all k all end)

pub from_items-indices-requires : goal.from_items-indices-requires
from_items-indices-requires c =
    let all : List RootIndex = c.args.self.now.indices in
    let slice : c.as_slice-old-items.result.now ≡ all = c.as_slice-old-items.ensures.items ∙ ap (λ (r : Root). r.indices) c.self.view_is in
    let whole = all_done c.args.index.now c.args.shard c.args.to all c.as_slice-old-items.result.now c.loop-old.items c.loop-old.old-index slice c.loop-old-test.false c.loop-old.invariant in
    subst AreIndices (sym whole) (AreIndices-set c.args.index.now c.args.shard c.args.to all c.requires.shard c.rule-2.ensures c.rule.ensures.indices)

pub from_parts-requires : goal.from_parts-requires
from_parts-requires c =
    let all : List RootIndex = c.args.self.now.indices in
    let slice : c.as_slice-old-items.result.now ≡ all = c.as_slice-old-items.ensures.items ∙ ap (λ (r : Root). r.indices) c.self.view_is in
    let whole = all_done c.args.index.now c.args.shard c.args.to all c.as_slice-old-items.result.now c.loop-old.items c.loop-old.old-index slice c.loop-old-test.false c.loop-old.invariant in
    let snaps : c.in_ok-snapshots.snapshots ≡ c.args.self.now.snapshots = c.in_ok-snapshots.ensures ∙ ap (λ (r : Root). r.snapshots) c.self.view_is in
    subst (λ (ss : List RootSnap). AllByRecursion (IsListed ss) c.from_items-indices.result) (sym snaps)
    (subst (AllByRecursion (IsListed c.args.self.now.snapshots)) (sym (c.from_items-indices.ensures ∙ whole)) (listed_set c.args.self.now c.args.index.now c.args.shard c.args.to c.rule.ensures))

pub returns-clause-there : goal.returns-clause-there
returns-clause-there c =
    let all : List RootIndex = c.args.self.now.indices in
    let slice : c.as_slice-old-items.result.now ≡ all = c.as_slice-old-items.ensures.items ∙ ap (λ (r : Root). r.indices) c.self.view_is in
    let whole = all_done c.args.index.now c.args.shard c.args.to all c.as_slice-old-items.result.now c.loop-old.items c.loop-old.old-index slice c.loop-old-test.false c.loop-old.invariant in
    ap (λ (r : Root). generation_at r c.args.index.now c.args.shard) (c.from_parts.ensures ∙ ap (root_with c.in_ok-snapshots.snapshots) (c.from_items-indices.ensures ∙ whole))
    ∙ generation_at-there c.args.self.now c.args.index.now c.args.shard c.args.to c.requires.known

pub returns-clause-elsewhere : goal.returns-clause-elsewhere
returns-clause-elsewhere c = λ name k apart.
    let all : List RootIndex = c.args.self.now.indices in
    let slice : c.as_slice-old-items.result.now ≡ all = c.as_slice-old-items.ensures.items ∙ ap (λ (r : Root). r.indices) c.self.view_is in
    let whole = all_done c.args.index.now c.args.shard c.args.to all c.as_slice-old-items.result.now c.loop-old.items c.loop-old.old-index slice c.loop-old-test.false c.loop-old.invariant in
    ap (λ (r : Root). generation_at r name k) (c.from_parts.ensures ∙ ap (root_with c.in_ok-snapshots.snapshots) (c.from_items-indices.ensures ∙ whole))
    ∙ generation_at-elsewhere c.args.self.now c.args.index.now c.args.shard c.args.to name k apart

pub returns-clause-order : goal.returns-clause-order
returns-clause-order c = λ order.
    let all : List RootIndex = c.args.self.now.indices in
    let slice : c.as_slice-old-items.result.now ≡ all = c.as_slice-old-items.ensures.items ∙ ap (λ (r : Root). r.indices) c.self.view_is in
    let whole = all_done c.args.index.now c.args.shard c.args.to all c.as_slice-old-items.result.now c.loop-old.items c.loop-old.old-index slice c.loop-old-test.false c.loop-old.invariant in
    let snaps : c.in_ok-snapshots.snapshots ≡ c.args.self.now.snapshots = c.in_ok-snapshots.ensures ∙ ap (λ (r : Root). r.snapshots) c.self.view_is in
    let root = c.from_parts.ensures ∙ ap (λ (ss : List RootSnap). root_with ss c.from_items-indices.result) snaps ∙ ap (root_with c.args.self.now.snapshots) (c.from_items-indices.ensures ∙ whole) in
    subst (λ (r : Root). AllByRecursion (IsInRootOrder r.snapshots) r.indices) (sym root) (ordered_set c.args.self.now c.args.index.now c.args.shard c.args.to order)
