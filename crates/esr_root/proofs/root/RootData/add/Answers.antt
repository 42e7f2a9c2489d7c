use Rattle.std.proofs.Common.{◌≡◌, ◌≤◌, ℕ, List, [], ◌∷◌, ◌++◌, length, drop, sym, subst, ap, ◌∙◌, arith}
use Rattle.std.specs.List.{AllByRecursion}
use Rattle.std.proofs.lemmas.List.{drop_all, take_all}
use Rattle.esr_names.specs.declared.ids.Id.{Id}
use Rattle.esr_names.specs.declared.index_ref.IndexRef.{IndexRef}
use Rattle.esr_root.specs.Indices.{AreIndices, IsListed, IsRef}
use Rattle.esr_root.specs.Root.{Root, IsInRootOrder}
use Rattle.esr_root.specs.Changes.{with_each, generation_at}
use Rattle.esr_root.specs.declared.snaps.RootSnap.{RootSnap}
use Rattle.esr_root.specs.declared.indices.RootIndex.{RootIndex}
use Rattle.esr_root.proofs.Added.{AreIndices-added, listed_added, generation_at-added}
use Rattle.esr_root.proofs.Ordered.{ordered_added}
use Rattle.esr_root.specs.RootLists.{root_with}
use Rattle.esr_root.proofs.root.RootData.add.Goals as goal

-- the indices, once each that is named was worked
all_done : (uuid : Id) (xs slice : List IndexRef) (start items : List RootIndex) (k : ℕ) → slice ≡ xs → length slice ≤ k
    → with_each uuid xs start ≡ with_each uuid (drop k xs) items → items ≡ with_each uuid xs start
all_done uuid xs slice start items k same past step =
    let end : length xs ≤ k = omega (arith, ap length same) in
    sym (step ∙ ap (λ (ys : List IndexRef). with_each uuid ys items) (drop_all k xs end))

-- the snapshots, with the one that was pushed
with_snap : (r : Root) (snap own : RootSnap) (copied pushed : List RootSnap) → copied ≡ r.snapshots → own ≡ snap → pushed ≡ copied ++ own ∷ [] → pushed ≡ r.snapshots ++ snap ∷ []
with_snap r snap own copied pushed same is push = push ∙ ap (λ (ss : List RootSnap). ss ++ own ∷ []) same ∙ ap (λ (s : RootSnap). r.snapshots ++ s ∷ []) is

pub from_items-indices-requires : goal.from_items-indices-requires
from_items-indices-requires c =
    let refs : List IndexRef = c.args.indices.now in
    let slice : c.as_slice-index-items.result.now ≡ refs = c.as_slice-index-items.ensures in
    let end : length refs ≤ c.loop-index.index-index = omega (arith, ap length slice) in
    let whole = all_done c.args.snap.now.uuid refs c.as_slice-index-items.result.now c.args.self.now.indices c.loop-index.items.items c.loop-index.index-index slice c.loop-index-test.false c.loop-index.invariant.done in
    let good : AllByRecursion IsRef refs = subst (AllByRecursion IsRef) (take_all c.loop-index.index-index refs end) c.loop-index.invariant.good in
    subst AreIndices (sym (c.from_vec.ensures ∙ whole)) (AreIndices-added c.args.self.now c.args.snap.now refs c.rule.ensures c.rule-2.ensures good c.requires)

pub from_parts-requires : goal.from_parts-requires
from_parts-requires c =
    let refs : List IndexRef = c.args.indices.now in
    let slice : c.as_slice-index-items.result.now ≡ refs = c.as_slice-index-items.ensures in
    let whole = all_done c.args.snap.now.uuid refs c.as_slice-index-items.result.now c.args.self.now.indices c.loop-index.items.items c.loop-index.index-index slice c.loop-index-test.false c.loop-index.invariant.done in
    let indices = c.from_items-indices.ensures ∙ c.from_vec.ensures ∙ whole in
    let snaps = with_snap c.args.self.now c.args.snap.now c.in_ok-try_clone.field-0 _ c.push.new.self (c.in_ok-snapshots.ensures ∙ ap (λ (r : Root). r.snapshots) c.self.view_is) c.in_ok-try_clone.ensures c.in_ok-push.ensures.ok in
    subst (λ (ss : List RootSnap). AllByRecursion (IsListed ss) c.from_items-indices.result) (sym snaps)
    (subst (AllByRecursion (IsListed (c.args.self.now.snapshots ++ c.args.snap.now ∷ []))) (sym indices) (listed_added c.args.self.now c.args.snap.now refs c.rule.ensures))

pub returns-clause-generations : goal.returns-clause-generations
returns-clause-generations c = λ name k.
    let refs : List IndexRef = c.args.indices.now in
    let slice : c.as_slice-index-items.result.now ≡ refs = c.as_slice-index-items.ensures in
    let whole = all_done c.args.snap.now.uuid refs c.as_slice-index-items.result.now c.args.self.now.indices c.loop-index.items.items c.loop-index.index-index slice c.loop-index-test.false c.loop-index.invariant.done in
    let indices = c.from_items-indices.ensures ∙ c.from_vec.ensures ∙ whole in
    ap (λ (r : Root). generation_at r name k) (c.from_parts.ensures ∙ ap (root_with c.push.new.self) indices)
    ∙ generation_at-added c.args.self.now c.args.snap.now refs c.rule.ensures name k

pub returns-clause-order : goal.returns-clause-order
returns-clause-order c = λ order.
    let refs : List IndexRef = c.args.indices.now in
    let slice : c.as_slice-index-items.result.now ≡ refs = c.as_slice-index-items.ensures in
    let whole = all_done c.args.snap.now.uuid refs c.as_slice-index-items.result.now c.args.self.now.indices c.loop-index.items.items c.loop-index.index-index slice c.loop-index-test.false c.loop-index.invariant.done in
    let indices = c.from_items-indices.ensures ∙ c.from_vec.ensures ∙ whole in
    let snaps = with_snap c.args.self.now c.args.snap.now c.in_ok-try_clone.field-0 _ c.push.new.self (c.in_ok-snapshots.ensures ∙ ap (λ (r : Root). r.snapshots) c.self.view_is) c.in_ok-try_clone.ensures c.in_ok-push.ensures.ok in
    let root = c.from_parts.ensures ∙ ap (λ (ss : List RootSnap). root_with ss c.from_items-indices.result) snaps ∙ ap (root_with (c.args.self.now.snapshots ++ c.args.snap.now ∷ [])) indices in
    subst (λ (r : Root). AllByRecursion (IsInRootOrder r.snapshots) r.indices) (sym root) (ordered_added c.args.self.now c.args.snap.now refs c.rule.ensures c.requires order)
