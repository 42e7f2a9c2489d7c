-- The shards of a root, of which some generation stands, are those of the first root, and those that were asked.
use Rattle.std.proofs.Common.{◌≡◌, ◌⊎◌, ℕ, zero, suc, pred, ◌+◌, List, [], ◌∷◌, ◌++◌, append-nil, append_assoc, map, Bool, false, Option, Some, None, refl, sym, ap, ◌∙◌, subst, inl, inr, ⊎_elim}
use Rattle.std.specs.Prelude.{◌==◌, ◌&&◌, set}
use Rattle.std.proofs.lemmas.Bool.Decides.{eqb_tells}
use Rattle.std.proofs.lemmas.Bool.{cases_Bool, cond-true, cond-false}
use Rattle.std.specs.FinMap as fin
use Rattle.std.proofs.lemmas.Option.{same_Some, none-some}
use Rattle.esr_model.specs.Lists.{Has-left, Has-right, Has-either, Has-map, Has-mapped}
use Rattle.esr_model.specs.Names.{BlobName, ShardIndex}
use Rattle.esr_model.specs.Values.{Has, IndexRef, RootIndex, RootData, SnapInfo, ShardResult, IsOneEach, Formats}
use Rattle.esr_model.specs.Shelf.{Command}
use Rattle.esr_model.specs.Image.{index_at, at_shard, at_shard_of, Generation, AllPairs}
use Rattle.esr_model.specs.Delete.{PrunedShard, own_id, next_after, fresh_in, set_fresh, renewed, left_root, deleted_root}
use Rattle.esr_model.specs.Finalize.{finalized_root, finalized_indices, named_first, larger, done_at, merged, ref_of, with_ref, has_id, new_indices}
use Rattle.esr_core.specs.World.{World, Op, ShardWork, Done, AllDone, Work, Finalize, Deleting, Ticket, Swap, swap, swap_of, metadata}
use Rattle.esr_core.specs.Pruning.{AreOfRoot}
use Rattle.esr_core.specs.Tracked.{Tracked}
use Rattle.esr_core.specs.ReadTracked.{ReadTracked}
use Rattle.esr_core.specs.Changes.{StepChange, Settlement, SwapFault}
use Rattle.esr_core.specs.Entry.{Step, Moment}
use Rattle.esr_core.specs.After.{answered, after}
use Rattle.esr_core.specs.Allowed.{Allowed}
use Rattle.esr_core.specs.History.{world_from, IsLegal, AllKnown, AreTold}
use Rattle.esr_core.specs.Laws.NewRoots.{index_found}
use Rattle.esr_core.specs.Laws.SortedLists.{Has-sorted}
use Rattle.esr_core.specs.Laws.DeleteRoots.{index_was}
use Rattle.esr_core.specs.Laws.DeletePlans.{in_root}
use Rattle.esr_core.specs.Laws.NumberMaps.{nothing}
use Rattle.esr_bounds.specs.Keys.{AreHeard, IsHeard}
use Rattle.esr_bounds.specs.Others.{generation_names}
use Rattle.esr_bounds.specs.Laws.{StepLaws, MasterLaws}
use Rattle.esr_bounds.proofs.Once.{Kept, step_kept, untouched_kept}
use Rattle.esr_bounds.proofs.Further.{IsPlan, in_generations, plus_none, none_plus, shift}
use Rattle.esr_bounds.proofs.Prunes.{Pruned, step_pruned, untouched_pruned}
use Rattle.esr_bounds.proofs.Masters.{MastersOnce, ReadyOf, ready_now, masters_on, untouched_masters}
use Rattle.esr_bounds.specs.Units.{asked_counts}
use Rattle.esr_bounds.proofs.Items.{Item, item_of, asked_items, all_items, AllIn, in_now, same_final}

-- ---- the shards of one root

-- each shard of the root that has a generation is one of these
abbrev pub RootIn : List (ℕ × ℕ) → RootData → Type 0
RootIn places root = (x : RootIndex) (n g : ℕ) → Has root.indices x → at_shard x.generations n ≡ Some g → Has places (x.id, n)

root_on : (a b : List (ℕ × ℕ)) → ((p : ℕ × ℕ) → Has a p → Has b p) → (root : RootData) → RootIn a root → RootIn b root
root_on a b more root h x n g had is = more (x.id, n) (h x n g had is)

pub by_generation : (places : List (ℕ × ℕ)) (root : RootData) → RootIn places root → (index n g : ℕ) → Generation root index n g → Has places (index, n)
by_generation places root h index n g is = at (index_at root.indices index) refl is
  where
    at : (o : Option RootIndex) → index_at root.indices index ≡ o → at_shard_of o n ≡ Some g → Has places (index, n)
    at None found no_shard = absurd (none-some g no_shard)
    at (Some x) found has = let e = index_found root.indices index x found in subst (λ (i : ℕ). Has places (i, n)) e.1 (h x n g e.0 has)

-- ---- the root of a finalization

-- a generation that the old list has, or at which the shard was done
abbrev Merges : List ShardResult → ℕ → ℕ → List (Option ℕ) → ℕ → Type 0
Merges results id k gs j = ((h : ℕ) × (at_shard gs j ≡ Some h)) ⊎ ((h : ℕ) × (done_at results id (k + j) ≡ Some h))

merged_first : (results : List ShardResult) (id k : ℕ) (old : Option ℕ) (gs : List (Option ℕ)) (g : ℕ) → larger old (done_at results id k) ≡ Some g → Merges results id k (old ∷ gs) 0
merged_first results id k None gs g is = inr (g, subst (λ (q : ℕ). done_at results id q ≡ Some g) (plus_none k) is)
merged_first results id k (Some a) gs g is = inl (a, refl)

merged_next : (results : List ShardResult) (id k : ℕ) (old : Option ℕ) (gs : List (Option ℕ)) (j : ℕ) → Merges results id (suc k) gs j → Merges results id k (old ∷ gs) (suc j)
merged_next results id k old gs j (inl h) = inl h
merged_next results id k old gs j (inr h) = inr (h.0, subst (λ (q : ℕ). done_at results id q ≡ Some h.0) (shift k j) h.1)

merged_from : (results : List ShardResult) (id k : ℕ) (gs : List (Option ℕ)) (n j g : ℕ) → at_shard (merged results id k gs n) j ≡ Some g → Merges results id k gs j
merged_from results id k (old ∷ gs) n zero g is = merged_first results id k old gs g is
merged_from results id k (old ∷ gs) n (suc j) g is = merged_next results id k old gs j (merged_from results id (suc k) gs (pred n) j g is)
merged_from results id k [] zero j g is = absurd (none-some g is)
merged_from results id k [] (suc n) zero g is = inr (g, subst (λ (q : ℕ). done_at results id q ≡ Some g) (plus_none k) is)
merged_from results id k [] (suc n) (suc j) g is = by (merged_from results id (suc k) [] n j g is)
  where
    by : Merges results id (suc k) [] j → Merges results id k [] (suc j)
    by (inl h) = absurd (none-some h.0 h.1)
    by (inr h) = inr (h.0, subst (λ (q : ℕ). done_at results id q ≡ Some h.0) (shift k j) h.1)

abbrev DoneIn : List ShardResult → ℕ → ℕ → Type 0
DoneIn results index shard = (r : ShardResult) × Has results r × (r.index ≡ index) × (r.shard ≡ shard)

done_or : (r : ShardResult) (results : List ShardResult) (index shard g : ℕ) → done_at (r ∷ results) index shard ≡ Some g → (done_at results index shard ≡ Some g → DoneIn results index shard) → DoneIn (r ∷ results) index shard
done_or r results index shard g is rest = elim (eqb_tells r.index index) [
  | inl a ↦ elim (eqb_tells r.shard shard) [
    | inl b ↦ (r, inl refl, a.1, b.1)
    | inr b ↦ later (ap (λ (x : Bool). x && (r.shard == shard)) a.0 ∙ b.0)
  ]
  | inr a ↦ later (ap (λ (x : Bool). x && (r.shard == shard)) a.0)
]
  where
    later : ((r.index == index) && (r.shard == shard)) ≡ false → (q : ShardResult) × Has (r ∷ results) q × (q.index ≡ index) × (q.shard ≡ shard)
    later e = let found = rest (sym (cond-false _ _ _ e) ∙ is) in (found.0, inr found.1, found.2, found.3)

done_in : (results : List ShardResult) (index shard g : ℕ) → done_at results index shard ≡ Some g → DoneIn results index shard
done_in [] index shard g is = absurd (none-some g is)
done_in (r ∷ results) index shard g is = done_or r results index shard g is (λ e. done_in results index shard g e)

abbrev pub fresh_index : SnapInfo → List ShardResult → IndexRef → RootIndex
fresh_index info results r = record { name = r.name; id = r.id; snapshots = info.uuid ∷ []; generations = merged results r.id 0 [] r.shards }

module _ (places : List (ℕ × ℕ)) (root : RootData) (info : SnapInfo) (results : List ShardResult) (h : RootIn places root) (done : (r : ShardResult) → Has results r → Has places (r.index, r.shard)) where
  by_done : (index n g : ℕ) → done_at results index n ≡ Some g → Has places (index, n)
  by_done index n g is =
      let d = done_in results index n g is in
      subst (λ (i : ℕ). Has places (i, n)) d.2 (subst (λ (k : ℕ). Has places (d.0.index, k)) d.3 (done d.0 d.1))

  old_in : (x : RootIndex) (o : Option IndexRef) (n g : ℕ) → Has root.indices x → at_shard (with_ref info results x o).generations n ≡ Some g → Has places ((with_ref info results x o).id, n)
  old_in x None n g had is = h x n g had is
  old_in x (Some r) n g had is = ⊎_elim
      (λ (old : (q : ℕ) × (at_shard x.generations n ≡ Some q)). h x n old.0 had old.1)
      (λ (new : (q : ℕ) × (done_at results x.id (0 + n) ≡ Some q)). by_done x.id n new.0 (subst (λ (k : ℕ). done_at results x.id k ≡ Some new.0) (none_plus n) new.1))
      (merged_from results x.id 0 x.generations r.shards n g is)

  first_in : (r : IndexRef) (n g : ℕ) → at_shard (merged results r.id 0 [] r.shards) n ≡ Some g → Has places (r.id, n)
  first_in r n g is = ⊎_elim
      (λ (old : (q : ℕ) × (at_shard [] n ≡ Some q)). absurd (none-some old.0 old.1))
      (λ (new : (q : ℕ) × (done_at results r.id (0 + n) ≡ Some q)). by_done r.id n new.0 (subst (λ (k : ℕ). done_at results r.id k ≡ Some new.0) (none_plus n) new.1))
      (merged_from results r.id 0 [] r.shards n g is)

  new_or : (r : IndexRef) (refs : List IndexRef) (y : RootIndex) (n g : ℕ) → Has (new_indices info results root.indices (r ∷ refs)) y → at_shard y.generations n ≡ Some g
      → (Has (new_indices info results root.indices refs) y → Has places (y.id, n)) → Has places (y.id, n)
  new_or r refs y n g had is rest = elim (cases_Bool (has_id root.indices r.id)) [
    | inl e ↦ rest (subst (λ (l : List RootIndex). Has l y) (cond-true _ _ _ e) had)
    | inr e ↦ by (subst (λ (l : List RootIndex). Has l y) (cond-false _ _ _ e) had)
  ]
    where
      by : Has (fresh_index info results r ∷ new_indices info results root.indices refs) y → Has places (y.id, n)
      by (inl same) = subst (λ (z : RootIndex). at_shard z.generations n ≡ Some g → Has places (z.id, n)) same (first_in r n g) is
      by (inr later) = rest later

  new_in : (refs : List IndexRef) (y : RootIndex) (n g : ℕ) → Has (new_indices info results root.indices refs) y → at_shard y.generations n ≡ Some g → Has places (y.id, n)
  new_in [] y n g had is = absurd had
  new_in (r ∷ refs) y n g had is = new_or r refs y n g had is (λ m. new_in refs y n g m is)

  pub final_in : RootIn places (finalized_root root info results)
  unfolding finalized_root
  final_in y n g had is = ⊎_elim
      (λ (old : Has (map (λ (x : RootIndex). with_ref info results x (ref_of info.indices x.id)) root.indices) y).
      let r = Has-mapped (λ (x : RootIndex). with_ref info results x (ref_of info.indices x.id)) root.indices y old in
      subst (λ (z : RootIndex). Has places (z.id, n)) r.2 (old_in r.0 (ref_of info.indices r.0.id) n g r.1 (subst (λ (z : RootIndex). at_shard z.generations n ≡ Some g) (sym r.2) is)))
      (λ (new : Has (new_indices info results root.indices info.indices) y). new_in info.indices y n g new is)
      (Has-either (map (λ (x : RootIndex). with_ref info results x (ref_of info.indices x.id)) root.indices) (new_indices info results root.indices info.indices) y
      (Has-sorted named_first (finalized_indices root info results) y had))

-- ---- the root of a delete or cleanup

set_or : (gs : List (Option ℕ)) (k n g : ℕ) (to : Option ℕ) → at_shard (set gs k to) n ≡ Some g → (n ≡ k) ⊎ (at_shard gs n ≡ Some g)
set_or (x ∷ gs) zero zero g to e = inl refl
set_or (x ∷ gs) (suc k) (suc n) g to e = elim (set_or gs k n g to e) [ inl same ↦ inl (ap suc same) | inr old ↦ inr old ]
set_or gs k n g to e = inr e

module _ (places : List (ℕ × ℕ)) where
  fresh_rooted : (root : RootData) → RootIn places root → (i k : ℕ) (to : Option ℕ) → Has places (i, k) → RootIn places (set_fresh i k to root)
  fresh_rooted root h i k to place y n g had is =
      let r = Has-mapped (fresh_in i k to) root.indices y had in
      subst (λ (z : RootIndex). Has places (z.id, n)) r.2 (by r.0 r.1 (subst (λ (z : RootIndex). at_shard z.generations n ≡ Some g) (sym r.2) is))
    where
      by : (x : RootIndex) → Has root.indices x → at_shard (fresh_in i k to x).generations n ≡ Some g → Has places (x.id, n)
      by x there at = elim (eqb_tells x.id i) [
        | inl own ↦ elim (set_or x.generations k n g to (ap (λ (gs : List (Option ℕ)). at_shard gs n) (sym (cond-true _ _ _ own.0)) ∙ at)) [
          | inl same ↦ subst (λ (j : ℕ). Has places (j, n)) (sym own.1) (subst (λ (q : ℕ). Has places (i, q)) (sym same) place)
          | inr old ↦ h x n g there old
        ]
        | inr other ↦ h x n g there (ap (λ (gs : List (Option ℕ)). at_shard gs n) (sym (cond-false _ _ _ other.0)) ∙ at)
      ]

  renewed_in : (shards : List PrunedShard) (next : ℕ) (root : RootData) → RootIn places root → ((p : PrunedShard) → Has shards p → Has places (p.index, p.number)) → RootIn places (renewed next shards root)
  renewed_in [] next root h all = h
  renewed_in (p ∷ shards) next root h all =
      renewed_in shards (next_after next p) (set_fresh p.index p.number (own_id next p) root) (fresh_rooted root h p.index p.number (own_id next p) (all p (inl refl))) (λ q m. all q (inr m))

  left_in : (root : RootData) (uuids : List ℕ) → RootIn places root → RootIn places (left_root root uuids)
  left_in root uuids h y n g had is =
      let e = index_was uuids root.indices y had in
      subst (λ (z : RootIndex). Has places (z.id, n)) (sym e.2) (h e.0 n g e.1 (ap (λ (z : RootIndex). at_shard z.generations n) (sym e.2) ∙ is))

  pub plan_places : (root : RootData) (shards : List PrunedShard) → RootIn places root → AreOfRoot root shards → (p : PrunedShard) → Has shards p → Has places (p.index, p.number)
  plan_places root shards h of_root p m = by_generation places root h p.index p.number p.base (in_root root shards p of_root m)

  deleted_in : (root : RootData) (uuids : List ℕ) (shards : List PrunedShard) (first : ℕ) → RootIn places root → AreOfRoot root shards → RootIn places (deleted_root root uuids shards first)
  unfolding deleted_root
  deleted_in root uuids shards first h of_root = renewed_in shards first (left_root root uuids) (left_in root uuids h) (plan_places root shards h of_root)

-- ---- what holds of a world

-- the shards of its roots are among these places, and each root lists an index once
pub record Placed (places : List (ℕ × ℕ)) (w : World) : Type 0 where
  pub root : RootIn places w.root
  pub one_each : IsOneEach w.root.indices
  pub tickets : (k : ℕ) (t : Ticket) → fin.get w.tickets k ≡ Some t → RootIn places t.root × IsOneEach t.root.indices
  pub finals : (k : ℕ) (t : Ticket) (info : SnapInfo) (results : List ShardResult) (made : Command) → fin.get w.tickets k ≡ Some t → t.work ≡ Finalize info results made
      → ((r : ShardResult) → Has results r → Has places (r.index, r.shard)) × IsOneEach (finalized_root t.root info results).indices

abbrev pub item_place : Item → ℕ × ℕ
item_place i = (i.index, i.number)

abbrev pub places_of : List (ℕ × ℕ) → List Item → List (ℕ × ℕ)
places_of first items = first ++ map item_place items

places_more : (first : List (ℕ × ℕ)) (items more : List Item) (p : ℕ × ℕ) → Has (places_of first items) p → Has (places_of first (items ++ more)) p
places_more first items more p h = ⊎_elim
    (λ (old : Has first p). Has-left first (map item_place (items ++ more)) p old)
    (λ (new : Has (map item_place items) p).
    let r = Has-mapped item_place items p new in
    Has-right first (map item_place (items ++ more)) p (subst (Has (map item_place (items ++ more))) r.2 (Has-map item_place (items ++ more) r.0 (Has-left items more r.0 r.1))))
    (Has-either first (map item_place items) p h)

pair_of : {A B : Type 0} (R : A → B → Type 0) (xs : List A) (ys : List B) (y : B) → AllPairs R xs ys → Has ys y → (x : A) × Has xs x × R x y
pair_of R [] [] y h m = absurd m
pair_of R [] (b ∷ ys) y h m = absurd h
pair_of R (a ∷ xs) [] y h m = absurd m
pair_of R (a ∷ xs) (b ∷ ys) y h (inl e) = (a, inl refl, subst (R a) e h.0)
pair_of R (a ∷ xs) (b ∷ ys) y h (inr m) = let r = pair_of R xs ys y h.1 m in (r.0, inr r.1, r.2)

module _ (f : Formats) (size : ℕ) (laws : StepLaws f size) (masters : MasterLaws f size) (first : List (ℕ × ℕ)) where
  module _ (w : World) (m : Moment) (tracked : Tracked w) (reads : ReadTracked w) (a : Allowed f size w m) (pruned : Pruned f w) (once : MastersOnce w)
      (items : List Item) (counts : List (ℕ × ℕ)) (all : AllIn items counts w) (placed : Placed (places_of first items) w) where
    abbrev places : List (ℕ × ℕ)
    places = places_of first items

    abbrev now_places : List (ℕ × ℕ)
    now_places = places_of first (items ++ asked_items w m.entry.step)

    on : (p : ℕ × ℕ) → Has places p → Has now_places p
    on = places_more first items (asked_items w m.entry.step)

    -- the root of a swap
    swapped : (k : ℕ) (t : Ticket) (s : Swap) → fin.get w.tickets k ≡ Some t → swap f t ≡ Some s → RootIn places s.root × IsOneEach s.root.indices
    swapped k t s there = by t.work refl
      where
        by : (work : Work) → t.work ≡ work → swap_of f work t.root ≡ Some s → RootIn places s.root × IsOneEach s.root.indices
        by (Finalize info results made) is e =
            let h = placed.finals k t info results made there is in
            subst (λ (x : Swap). RootIn places x.root × IsOneEach x.root.indices) (same_Some (record { root = finalized_root t.root info results; own = metadata f info; commands = made ∷ [] }) s e)
            (final_in places t.root info results (placed.tickets k t there).0 h.0, h.1)
        by (Deleting uuids plan) is e =
            let p : IsPlan t.root uuids s = pruned.few k t (once.numbered k t there) there uuids s (is ∙ ap (Deleting uuids) e) in
            (subst (RootIn places) (sym p.root_is) (deleted_in places t.root uuids p.shards p.first (placed.tickets k t there).0 p.of_root), p.one_each)
        by work is e = absurd (none-some s e)

    root_now : (who : ℕ) (step : Step) (new : World) → StepChange f w who step new → RootIn places new.root × IsOneEach new.root.indices
    root_now who step new (Settlement settle t s n names deletes there is raised left) = swapped who t s there is
    root_now who step new (SwapFault swaps up change) = root_now who step up change
    root_now who step new other = (placed.root, placed.one_each)

    tickets_now : (k : ℕ) (v : Ticket) → fin.get (after f w m).tickets k ≡ Some v → RootIn now_places v.root × IsOneEach v.root.indices
    tickets_now k v there = elim ((masters.frame w m).come k v there) [
      | inl old ↦
          let h = placed.tickets k old.0 old.1 in
          subst (λ (r : RootData). RootIn now_places r × IsOneEach r.indices) (sym old.2.root) (root_on places now_places on old.0.root h.0, h.1)
      | inr new ↦ subst (λ (r : RootData). RootIn now_places r × IsOneEach r.indices) (sym new.1.root) (root_on places now_places on w.root placed.root, placed.one_each)
    ]

    -- the results of an op are those of its shards
    done_place : (o : ℕ) (op : Op) (results : List ShardResult) → fin.get w.ops o ≡ Some op → AllDone op.shards results → (r : ShardResult) → Has results r → Has places (r.index, r.shard)
    done_place o op results there done r had =
        let s = pair_of (λ (s : ShardWork) (q : ShardResult). s.state ≡ Done q) op.shards results r done had in
        let ids = tracked.named.results o op s.0 r there s.1 s.2 in
        subst (λ (i : ℕ). Has places (i, r.shard)) (sym ids.0)
        (subst (λ (n : ℕ). Has places (s.0.ref.id, n)) (sym ids.1) (Has-right first (map item_place items) (s.0.ref.id, s.0.number) (Has-map item_place items (item_of o op.source s.0) (all.shards o op s.0 there s.1))))

    finals_now : (k : ℕ) (v : Ticket) (info : SnapInfo) (results : List ShardResult) (made : Command) → fin.get (after f w m).tickets k ≡ Some v → v.work ≡ Finalize info results made
        → ((r : ShardResult) → Has results r → Has now_places (r.index, r.shard)) × IsOneEach (finalized_root v.root info results).indices
    finals_now k v info results made there is = elim ((masters.frame w m).come k v there) [
      | inl old ↦
          let h = placed.finals k old.0 info results made old.1 (same_final old.0 v info results made old.2 is) in
          ((λ r had. on (r.index, r.shard) (h.0 r had)), subst (λ (x : RootData). IsOneEach (finalized_root x info results).indices) (sym old.2.root) h.1)
      | inr new ↦
          let ready = subst (ReadyOf w v.op) is (ready_now f size masters w m tracked reads a once v (subst (λ (n : ℕ). fin.get (after f w m).tickets n ≡ Some v) new.0 there)) in (
            (λ r had. on (r.index, r.shard) (done_place v.op ready.0 results ready.2.op_there (subst (AllDone ready.0.shards) ready.4 ready.2.done) r had)),
            subst (λ (x : RootData). IsOneEach (finalized_root x info results).indices) (sym new.1.root) ready.5,
          )
    ]

    placed_now : Placed now_places (after f w m)
    placed_now =
        let root = root_now m.entry.who m.entry.step (answered f w m.entry.who m.entry.step m.entry.reply m.image) (masters.change w m.entry.who m.entry.step m.entry.reply m.image) in
        record { root = root_on places now_places on (answered f w m.entry.who m.entry.step m.entry.reply m.image).root root.0; one_each = root.1; tickets = tickets_now; finals = finals_now }

  module _ (known : AllKnown f) where
    placed_from : (w : World) (log : List Moment) (items : List Item) (counts : List (ℕ × ℕ)) → Tracked w → ReadTracked w → Kept w → Pruned f w → MastersOnce w → IsLegal f size w log → AreHeard log → AreTold log
        → AllIn items counts w → Placed (places_of first items) w → Placed (places_of first (items ++ all_items f w log)) (world_from f w log)
    placed_from w [] items counts tracked reads kept pruned once legal heard told all placed = subst (λ (l : List Item). Placed (places_of first l) w) (sym (append-nil items)) placed
    placed_from w (m ∷ log) items counts tracked reads kept pruned once legal heard told all placed =
        subst (λ (l : List Item). Placed (places_of first l) (world_from f (after f w m) log)) (append_assoc items (asked_items w m.entry.step) (all_items f (after f w m) log))
        (placed_from (after f w m) log (items ++ asked_items w m.entry.step) (counts ++ asked_counts w m.entry.step) (laws.tracks w m tracked legal.0) (laws.reads w m tracked reads legal.0)
        (step_kept f size laws w m tracked reads legal.0 (heard m (inl refl)) kept) (step_pruned f size known laws masters w m tracked reads legal.0 (heard m (inl refl)) told.0 kept pruned) (masters_on f size masters w m tracked reads legal.0 once)
        legal.1 (λ n h. heard n (inr h)) told.1 (in_now f size masters w m tracked reads legal.0 once items counts all) (placed_now w m tracked reads legal.0 pruned once items counts all placed))

-- ---- from a world in which nothing was done

-- the place of a shard's index
abbrev pub name_place : BlobName → ℕ × ℕ
name_place (ShardIndex i k g) = (i, k)
name_place name = (0, 0)

abbrev pub first_places : RootData → List (ℕ × ℕ)
first_places root = map name_place (generation_names root.indices)

first_in_root : (root : RootData) → RootIn (first_places root) root
first_in_root root x n g had is = Has-map name_place (generation_names root.indices) (ShardIndex x.id n g) (in_generations root.indices x n g had is)

pub placed_last : (f : Formats) (size : ℕ) → StepLaws f size → MasterLaws f size → AllKnown f → (w : World) (log : List Moment) → IsHeard f size w log → AreTold log → IsOneEach w.root.indices
    → Placed (places_of (first_places w.root) (all_items f w log)) (world_from f w log)
placed_last f size laws masters known w log h told one_each =
    placed_from f size laws masters (first_places w.root) known w log [] [] h.tracked h.readers (untouched_kept w h.untouched) (untouched_pruned f w h.untouched) (untouched_masters w h.untouched) h.legal h.heard told
    (record {
      shards = λ o op s there. absurd (nothing w.ops o op h.untouched.ops there);
      ops = λ o op there. absurd (nothing w.ops o op h.untouched.ops there);
      tickets = λ k t index number there. absurd (nothing w.tickets k t h.untouched.tickets there);
      finals = λ k t info results made there. absurd (nothing w.tickets k t h.untouched.tickets there);
    })
    (record {
      root = root_on (first_places w.root) (places_of (first_places w.root) []) (λ p had. Has-left (first_places w.root) (map item_place []) p had) w.root (first_in_root w.root);
      one_each = one_each;
      tickets = λ k t there. absurd (nothing w.tickets k t h.untouched.tickets there);
      finals = λ k t info results made there. absurd (nothing w.tickets k t h.untouched.tickets there);
    })
