-- The snapshots of an index stay in the root's order.
use Rattle.std.proofs.Common.{◌≡◌, Bool, true, false, ◌||◌, List, [], ◌∷◌, ◌++◌, ℕ, Option, map, refl, sym, ap, ◌∙◌, subst, inl, inr}
use Rattle.std.specs.Prelude.{filter}
use Rattle.std.specs.List.{AllByRecursion}
use Rattle.std.proofs.lemmas.Bool.{cases_Bool, true≢false, or_parts}
use Rattle.std.proofs.lemmas.List.{append-nil, map-append}
use Rattle.std.proofs.lemmas.List.Elements.{filter-append}
use Rattle.std.proofs.lemmas.List.Folds.{list_any-append}
use Rattle.std.proofs.lemmas.Map.Views.{any-filter_same}
use Rattle.esr_names.specs.declared.ids.Id.{Id}
use Rattle.esr_names.specs.declared.index_ref.IndexRef.{IndexRef}
use Rattle.esr_root.specs.Ids.{same_id, has_id}
use Rattle.esr_root.specs.Snaps.{lists}
use Rattle.esr_root.specs.Root.{Root, IsRoot, uuids_of, IsInRootOrder}
use Rattle.esr_root.specs.Changes.{grown, first, with_each, MayAdd, thinned, has_some, without_of, set_generation_in}
use Rattle.esr_root.specs.declared.snaps.RootSnap.{RootSnap}
use Rattle.esr_root.specs.declared.indices.RootIndex.{RootIndex}
use Rattle.esr_root.specs.IdLaws.{same_id-flip, same_id-is, same_id-refl}
use Rattle.esr_root.specs.Lists.{all_filter, all_map, all_weaken, all_both}
use Rattle.esr_root.proofs.Added.{with_each_all, fresh_of, takes_added, not_in_any}
use Rattle.esr_root.proofs.Removed.{stays}

-- ---- filters

filter_same : {A : Type 0} (p q : A → Bool) (xs : List A) → AllByRecursion (λ x. p x ≡ q x) xs → filter p xs ≡ filter q xs
filter_same p q [] h = refl
filter_same p q (x ∷ xs) h = rw (h.0, filter_same p q xs h.1) refl

filter_none : {A : Type 0} (xs : List A) → filter (λ x. false) xs ≡ []
filter_none [] = refl
filter_none (x ∷ xs) = filter_none xs

-- two filters, one of which may look at what the other leaves
filter_swap : {A : Type 0} (p a b : A → Bool) → ((x : A) → p x ≡ true → a x ≡ b x) → (xs : List A) → filter p (filter a xs) ≡ filter b (filter p xs)
filter_swap {A} p a b same [] = refl
filter_swap {A} p a b same (x ∷ xs) = elim (cases_Bool (p x)) [
  | inl stay ↦ elim (cases_Bool (a x)) [
    | inl here ↦ let also : b x ≡ true = sym (same x stay) ∙ here in rw (here, stay, also) (ap (λ (zs : List A). x ∷ zs) (filter_swap p a b same xs))
    | inr gone ↦ let also : b x ≡ false = sym (same x stay) ∙ gone in rw (gone, stay, also) (filter_swap p a b same xs)
  ]
  | inr out ↦ elim (cases_Bool (a x)) [
    | inl here ↦ rw (here, out) (filter_swap p a b same xs)
    | inr gone ↦ rw (gone, out) (filter_swap p a b same xs)
  ]
]

-- ---- one snapshot more

uuids_push : (ss : List RootSnap) (s : RootSnap) → uuids_of (ss ++ s ∷ []) ≡ uuids_of ss ++ s.uuid ∷ []
uuids_push ss s = map-append (λ (t : RootSnap). t.uuid) ss (s ∷ [])

-- the snapshots of an index that has not the new one
order_same : (ss : List RootSnap) (s : RootSnap) (i : RootIndex) → IsInRootOrder ss i → has_id s.uuid i.snapshots ≡ false → IsInRootOrder (ss ++ s ∷ []) i
order_same ss s i h fresh =
    let p = λ (u : Id). has_id u i.snapshots in
    let last : filter p (s.uuid ∷ []) ≡ [] = rw fresh refl in
    h ∙ sym (ap (filter p) (uuids_push ss s) ∙ filter-append p (uuids_of ss) (s.uuid ∷ []) ∙ ap (λ (us : List Id). filter p (uuids_of ss) ++ us) last ∙ append-nil _)

-- none that was listed is the new one
differ : (ss : List RootSnap) (u : Id) → lists ss u ≡ false → AllByRecursion (λ v. same_id v u ≡ false) (uuids_of ss)
differ [] u h = tt
differ (s ∷ ss) u h = let parts = or_parts (same_id s.uuid u) (lists ss u) h in (parts.0, differ ss u parts.1)

has_push : (u v : Id) (us : List Id) → same_id v u ≡ false → has_id v (us ++ u ∷ []) ≡ has_id v us
has_push u v [] other = let flipped : same_id u v ≡ false = same_id-flip u v ∙ other in rw flipped refl
has_push u v (w ∷ us) other = rw (has_push u v us other) refl

has_last : (u : Id) (us : List Id) → has_id u (us ++ u ∷ []) ≡ true
has_last u us = list_any-append (λ v. same_id v u) us (u ∷ []) ∙ rw (same_id-refl u) (or_true (has_id u us))
  where
    or_true : (x : Bool) → (x || true) ≡ true
    or_true true = refl
    or_true false = refl

-- a list in order, with the new one at its end
order_push : (ss : List RootSnap) (s : RootSnap) (us : List Id) → lists ss s.uuid ≡ false → us ≡ filter (λ u. has_id u us) (uuids_of ss)
    → us ++ s.uuid ∷ [] ≡ filter (λ u. has_id u (us ++ s.uuid ∷ [])) (uuids_of (ss ++ s ∷ []))
order_push ss s us none h =
    let p = λ (u : Id). has_id u (us ++ s.uuid ∷ []) in
    let q = λ (u : Id). has_id u us in
    let front : filter p (uuids_of ss) ≡ us =
    filter_same p q (uuids_of ss) (all_weaken (λ v. same_id v s.uuid ≡ false) (λ v. p v ≡ q v) (λ v other. has_push s.uuid v us other) (uuids_of ss) (differ ss s.uuid none)) ∙ sym h in
    let last : filter p (s.uuid ∷ []) ≡ s.uuid ∷ [] = rw (has_last s.uuid us) refl in
    sym (ap (filter p) (uuids_push ss s) ∙ filter-append p (uuids_of ss) (s.uuid ∷ []) ∙ ap (λ (vs : List Id). vs ++ filter p (s.uuid ∷ [])) front ∙ ap (λ (vs : List Id). us ++ vs) last)

-- in order with the new snapshot, and without it where the index has it not
abbrev InBoth : List RootSnap → RootSnap → RootIndex → Type 0
InBoth ss s i = (has_id s.uuid i.snapshots ≡ false → IsInRootOrder ss i) × IsInRootOrder (ss ++ s ∷ []) i

has_it : (ss : List RootSnap) (u : Id) (us : List Id) (i : RootIndex) → i.snapshots ≡ us ++ u ∷ [] → has_id u i.snapshots ≡ false → IsInRootOrder ss i
has_it ss u us i is none = absurd (true≢false (sym (has_last u us) ∙ sym (ap (has_id u) is) ∙ none))

pub ordered_added : (r : Root) (s : RootSnap) (xs : List IndexRef) → IsRoot r → MayAdd r s xs → AllByRecursion (IsInRootOrder r.snapshots) r.indices
    → AllByRecursion (IsInRootOrder (r.snapshots ++ s ∷ [])) (with_each s.uuid xs r.indices)
ordered_added r s xs h may order =
    let ss : List RootSnap = r.snapshots in
    let none : lists ss s.uuid ≡ false = fresh_of ss s may.fresh in
    let start = all_both (IsInRootOrder ss) (λ i. has_id s.uuid i.snapshots ≡ false) (InBoth ss s) (λ i one fresh. ((λ e. one), order_same ss s i one fresh)) r.indices order (not_in_any r s xs h may) in
    all_weaken (InBoth ss s) (IsInRootOrder (ss ++ s ∷ [])) (λ i both. both.1) (with_each s.uuid xs r.indices)
    (with_each_all (InBoth ss s) s.uuid xs r.indices may.names may.ids (takes_added r s xs h may) start
    (λ x. (has_it ss s.uuid [] (first s.uuid x) refl, order_push ss s [] none (sym (filter_none (uuids_of ss)))))
    (λ x i fresh both. (has_it ss s.uuid i.snapshots (grown s.uuid x.shards i) refl, order_push ss s i.snapshots none (both.0 fresh))))

-- ---- fewer snapshots

stays_same : (uuids us : List Id) (v : Id) → stays uuids v ≡ true → has_id v us ≡ has_id v (filter (stays uuids) us)
stays_same uuids us v stay =
    sym (any-filter_same (λ (u : Id). same_id u v) (stays uuids) true (λ u same. subst (λ (w : Id). stays uuids w ≡ true) (sym (same_id-is u v same)) stay) us)

uuids_filter : (uuids : List Id) (ss : List RootSnap) → uuids_of (filter (λ s. stays uuids s.uuid) ss) ≡ filter (stays uuids) (uuids_of ss)
uuids_filter uuids [] = refl
uuids_filter uuids (s ∷ ss) = elim (cases_Bool (stays uuids s.uuid)) [
  | inl stay ↦ rw stay (ap (λ (us : List Id). s.uuid ∷ us) (uuids_filter uuids ss))
  | inr out ↦ rw out (uuids_filter uuids ss)
]

order_thinned : (uuids : List Id) (ss : List RootSnap) (i : RootIndex) → IsInRootOrder ss i → IsInRootOrder (filter (λ s. stays uuids s.uuid) ss) (thinned uuids i)
order_thinned uuids ss i h =
    let us : List Id = i.snapshots in
    ap (filter (stays uuids)) h
    ∙ filter_swap (stays uuids) (λ u. has_id u us) (λ u. has_id u (filter (stays uuids) us)) (stays_same uuids us) (uuids_of ss)
    ∙ ap (filter (λ u. has_id u (filter (stays uuids) us))) (sym (uuids_filter uuids ss))

pub ordered_set : (r : Root) (name : List ℕ) (k : ℕ) (g : Option Id) → AllByRecursion (IsInRootOrder r.snapshots) r.indices → AllByRecursion (IsInRootOrder r.snapshots) (map (set_generation_in name k g) r.indices)
ordered_set r name k g order = all_map (IsInRootOrder r.snapshots) (set_generation_in name k g) r.indices order

pub ordered_without : (r : Root) (uuids : List Id) → AllByRecursion (IsInRootOrder r.snapshots) r.indices → AllByRecursion (IsInRootOrder (without_of r uuids).snapshots) (without_of r uuids).indices
ordered_without r uuids order =
    let ss : List RootSnap = filter (λ s. stays uuids s.uuid) r.snapshots in
    all_filter (IsInRootOrder ss) has_some (map (thinned uuids) r.indices)
    (all_map (IsInRootOrder ss) (thinned uuids) r.indices
    (all_weaken (IsInRootOrder r.snapshots) (λ i. IsInRootOrder ss (thinned uuids i)) (λ i one. order_thinned uuids r.snapshots i one) r.indices order))
