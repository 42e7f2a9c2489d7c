-- The indices of a root are those of the first root, and those that were asked.
use Rattle.std.proofs.Common.{◌≡◌, ℕ, List, [], ◌∷◌, ◌++◌, append-nil, append_assoc, map, Option, Some, None, refl, sym, ap, ◌∙◌, subst, inl, inr, ⊎_elim}
use Rattle.std.proofs.lemmas.Bool.{cases_Bool, cond-true, cond-false}
use Rattle.std.specs.FinMap as fin
use Rattle.std.proofs.lemmas.Option.{same_Some, none-some}
use Rattle.esr_model.specs.Lists.{Has-left, Has-right, Has-either, Has-map, Has-mapped}
use Rattle.esr_model.specs.Values.{Has, IndexRef, RootIndex, RootData, SnapInfo, ShardResult, Formats}
use Rattle.esr_model.specs.Shelf.{Command}
use Rattle.esr_model.specs.Delete.{PrunedShard, own_id, next_after, fresh_in, set_fresh, renewed, left_root, deleted_root}
use Rattle.esr_model.specs.Finalize.{finalized_root, finalized_indices, named_first, ref_of, with_ref, has_id, new_indices}
use Rattle.esr_core.specs.World.{World, Op, Work, Finalize, Deleting, Ticket, Swap, swap, swap_of, metadata}
use Rattle.esr_core.specs.Tracked.{Tracked}
use Rattle.esr_core.specs.ReadTracked.{ReadTracked}
use Rattle.esr_core.specs.Changes.{StepChange, Settlement, SwapFault}
use Rattle.esr_core.specs.Entry.{Step, Moment}
use Rattle.esr_core.specs.After.{answered, after}
use Rattle.esr_core.specs.Allowed.{Allowed}
use Rattle.esr_core.specs.History.{world_from, IsLegal, AllKnown, AreTold}
use Rattle.esr_core.specs.Laws.SortedLists.{Has-sorted}
use Rattle.esr_core.specs.Laws.DeleteRoots.{index_was}
use Rattle.esr_core.specs.Laws.NumberMaps.{nothing}
use Rattle.esr_bounds.specs.Keys.{AreHeard, IsHeard}
use Rattle.esr_bounds.specs.Units.{asked_indices}
use Rattle.esr_bounds.specs.Laws.{StepLaws, MasterLaws}
use Rattle.esr_bounds.proofs.Once.{Kept, step_kept, untouched_kept}
use Rattle.esr_bounds.proofs.Further.{IsPlan}
use Rattle.esr_bounds.proofs.Works.{answered_works}
use Rattle.esr_bounds.proofs.Prunes.{Pruned, step_pruned, untouched_pruned}
use Rattle.esr_bounds.proofs.Masters.{MastersOnce, ReadyOf, ready_now, masters_on, untouched_masters}
use Rattle.esr_bounds.proofs.Items.{same_final}
use Rattle.esr_bounds.proofs.RootShards.{fresh_index}

-- ---- the indices of one root

-- each index of the root has one of these ids
abbrev pub IndicesIn : List ℕ → RootData → Type 0
IndicesIn ids root = (x : RootIndex) → Has root.indices x → Has ids x.id

abbrev pub RefsIn : List ℕ → List IndexRef → Type 0
RefsIn ids refs = (r : IndexRef) → Has refs r → Has ids r.id

module _ (ids : List ℕ) (root : RootData) (info : SnapInfo) (results : List ShardResult) (h : IndicesIn ids root) (own : RefsIn ids info.indices) where
  old_index : (x : RootIndex) (o : Option IndexRef) → Has ids x.id → Has ids (with_ref info results x o).id
  old_index x None had = had
  old_index x (Some r) had = had

  new_or : (r : IndexRef) (refs : List IndexRef) (y : RootIndex) → Has (new_indices info results root.indices (r ∷ refs)) y → Has ids r.id → (Has (new_indices info results root.indices refs) y → Has ids y.id) → Has ids y.id
  new_or r refs y had here rest = elim (cases_Bool (has_id root.indices r.id)) [
    | inl e ↦ rest (subst (λ (l : List RootIndex). Has l y) (cond-true _ _ _ e) had)
    | inr e ↦ by (subst (λ (l : List RootIndex). Has l y) (cond-false _ _ _ e) had)
  ]
    where
      by : Has (fresh_index info results r ∷ new_indices info results root.indices refs) y → Has ids y.id
      by (inl same) = subst (λ (z : RootIndex). Has ids z.id) same here
      by (inr later) = rest later

  new_index : (refs : List IndexRef) → RefsIn ids refs → (y : RootIndex) → Has (new_indices info results root.indices refs) y → Has ids y.id
  new_index [] among y had = absurd had
  new_index (r ∷ refs) among y had = new_or r refs y had (among r (inl refl)) (λ later. new_index refs (λ q there. among q (inr there)) y later)

  pub final_indices : IndicesIn ids (finalized_root root info results)
  unfolding finalized_root
  final_indices y had = ⊎_elim
      (λ (old : Has (map (λ (x : RootIndex). with_ref info results x (ref_of info.indices x.id)) root.indices) y).
      let r = Has-mapped (λ (x : RootIndex). with_ref info results x (ref_of info.indices x.id)) root.indices y old in
      subst (λ (z : RootIndex). Has ids z.id) r.2 (old_index r.0 (ref_of info.indices r.0.id) (h r.0 r.1)))
      (λ (new : Has (new_indices info results root.indices info.indices) y). new_index info.indices own y new)
      (Has-either (map (λ (x : RootIndex). with_ref info results x (ref_of info.indices x.id)) root.indices) (new_indices info results root.indices info.indices) y
      (Has-sorted named_first (finalized_indices root info results) y had))

module _ (ids : List ℕ) where
  fresh_indices : (root : RootData) → IndicesIn ids root → (i k : ℕ) (to : Option ℕ) → IndicesIn ids (set_fresh i k to root)
  fresh_indices root h i k to y had = let r = Has-mapped (fresh_in i k to) root.indices y had in subst (λ (z : RootIndex). Has ids z.id) r.2 (h r.0 r.1)

  renewed_indices : (shards : List PrunedShard) (next : ℕ) (root : RootData) → IndicesIn ids root → IndicesIn ids (renewed next shards root)
  renewed_indices [] next root h = h
  renewed_indices (p ∷ shards) next root h = renewed_indices shards (next_after next p) (set_fresh p.index p.number (own_id next p) root) (fresh_indices root h p.index p.number (own_id next p))

  kept_indices : (root : RootData) (uuids : List ℕ) → IndicesIn ids root → IndicesIn ids (left_root root uuids)
  kept_indices root uuids h y had = let e = index_was uuids root.indices y had in subst (λ (z : RootIndex). Has ids z.id) (sym e.2) (h e.0 e.1)

  deleted_indices : (root : RootData) (uuids : List ℕ) (shards : List PrunedShard) (first : ℕ) → IndicesIn ids root → IndicesIn ids (deleted_root root uuids shards first)
  unfolding deleted_root
  deleted_indices root uuids shards first h = renewed_indices shards first (left_root root uuids) (kept_indices root uuids h)

-- ---- what holds of a world

-- the indices of its roots, of its ops and of its finalizations have these ids
pub record Indexed (ids : List ℕ) (w : World) : Type 0 where
  pub root : IndicesIn ids w.root
  pub tickets : (k : ℕ) (t : Ticket) → fin.get w.tickets k ≡ Some t → IndicesIn ids t.root
  pub ops : (o : ℕ) (op : Op) → fin.get w.ops o ≡ Some op → RefsIn ids op.indices
  pub finals : (k : ℕ) (t : Ticket) (info : SnapInfo) (results : List ShardResult) (made : Command) → fin.get w.tickets k ≡ Some t → t.work ≡ Finalize info results made → RefsIn ids info.indices

abbrev pub ref_id : IndexRef → ℕ
ref_id r = r.id

-- the ids of the indices for which the step asks
abbrev pub asked_ids : World → Step → List ℕ
asked_ids w step = map ref_id (asked_indices w step)

abbrev pub all_ids : Formats → World → List Moment → List ℕ
all_ids f w [] = []
all_ids f w (m ∷ log) = asked_ids w m.entry.step ++ all_ids f (after f w m) log

module _ (f : Formats) (size : ℕ) (laws : StepLaws f size) (masters : MasterLaws f size) where
  module _ (w : World) (m : Moment) (tracked : Tracked w) (reads : ReadTracked w) (a : Allowed f size w m) (pruned : Pruned f w) (once : MastersOnce w) (ids : List ℕ) (indexed : Indexed ids w) where
    abbrev now_ids : List ℕ
    now_ids = ids ++ asked_ids w m.entry.step

    on : (n : ℕ) → Has ids n → Has now_ids n
    on n had = Has-left ids (asked_ids w m.entry.step) n had

    -- the root of a swap
    swapped : (k : ℕ) (t : Ticket) (s : Swap) → fin.get w.tickets k ≡ Some t → swap f t ≡ Some s → IndicesIn ids s.root
    swapped k t s there = by t.work refl
      where
        by : (work : Work) → t.work ≡ work → swap_of f work t.root ≡ Some s → IndicesIn ids s.root
        by (Finalize info results made) is e =
            subst (λ (x : Swap). IndicesIn ids x.root) (same_Some (record { root = finalized_root t.root info results; own = metadata f info; commands = made ∷ [] }) s e)
            (final_indices ids t.root info results (indexed.tickets k t there) (indexed.finals k t info results made there is))
        by (Deleting uuids plan) is e =
            let p : IsPlan t.root uuids s = pruned.few k t (once.numbered k t there) there uuids s (is ∙ ap (Deleting uuids) e) in
            subst (IndicesIn ids) (sym p.root_is) (deleted_indices ids t.root uuids p.shards p.first (indexed.tickets k t there))
        by work is e = absurd (none-some s e)

    root_now : (who : ℕ) (step : Step) (new : World) → StepChange f w who step new → IndicesIn ids new.root
    root_now who step new (Settlement settle t s n names deletes there is raised left) = swapped who t s there is
    root_now who step new (SwapFault swaps up change) = root_now who step up change
    root_now who step new other = indexed.root

    tickets_now : (k : ℕ) (v : Ticket) → fin.get (after f w m).tickets k ≡ Some v → IndicesIn now_ids v.root
    tickets_now k v there = elim ((masters.frame w m).come k v there) [
      | inl old ↦ subst (IndicesIn now_ids) (sym old.2.root) (λ x had. on x.id (indexed.tickets k old.0 old.1 x had))
      | inr new ↦ subst (IndicesIn now_ids) (sym new.1.root) (λ x had. on x.id (indexed.root x had))
    ]

    ops_now : (o : ℕ) (op : Op) → fin.get (after f w m).ops o ≡ Some op → RefsIn now_ids op.indices
    ops_now o op there r had = elim ((answered_works f w m.entry.who m.entry.step m.entry.reply m.image).ops o op there) [
      | inl new ↦ Has-right ids (asked_ids w m.entry.step) r.id (Has-map ref_id (asked_indices w m.entry.step) r (subst (λ (l : List IndexRef). Has l r) new.indices had))
      | inr was ↦ on r.id (indexed.ops o was.op was.there r (subst (λ (l : List IndexRef). Has l r) was.indices had))
    ]

    finals_now : (k : ℕ) (v : Ticket) (info : SnapInfo) (results : List ShardResult) (made : Command) → fin.get (after f w m).tickets k ≡ Some v → v.work ≡ Finalize info results made → RefsIn now_ids info.indices
    finals_now k v info results made there is r had = elim ((masters.frame w m).come k v there) [
      | inl old ↦ on r.id (indexed.finals k old.0 info results made old.1 (same_final old.0 v info results made old.2 is) r had)
      | inr new ↦
          let ready = subst (ReadyOf w v.op) is (ready_now f size masters w m tracked reads a once v (subst (λ (n : ℕ). fin.get (after f w m).tickets n ≡ Some v) new.0 there)) in
          on r.id (indexed.ops v.op ready.0 ready.2.op_there r (subst (λ (l : List IndexRef). Has l r) ready.3 had))
    ]

    indexed_now : Indexed now_ids (after f w m)
    indexed_now =
        let root = root_now m.entry.who m.entry.step (answered f w m.entry.who m.entry.step m.entry.reply m.image) (masters.change w m.entry.who m.entry.step m.entry.reply m.image) in
        record { root = λ x had. on x.id (root x had); tickets = tickets_now; ops = ops_now; finals = finals_now }

  module _ (known : AllKnown f) where
    indexed_from : (w : World) (log : List Moment) (ids : List ℕ) → Tracked w → ReadTracked w → Kept w → Pruned f w → MastersOnce w → IsLegal f size w log → AreHeard log → AreTold log → Indexed ids w
        → Indexed (ids ++ all_ids f w log) (world_from f w log)
    indexed_from w [] ids tracked reads kept pruned once legal heard told indexed = subst (λ (l : List ℕ). Indexed l w) (sym (append-nil ids)) indexed
    indexed_from w (m ∷ log) ids tracked reads kept pruned once legal heard told indexed =
        subst (λ (l : List ℕ). Indexed l (world_from f (after f w m) log)) (append_assoc ids (asked_ids w m.entry.step) (all_ids f (after f w m) log))
        (indexed_from (after f w m) log (ids ++ asked_ids w m.entry.step) (laws.tracks w m tracked legal.0) (laws.reads w m tracked reads legal.0)
        (step_kept f size laws w m tracked reads legal.0 (heard m (inl refl)) kept) (step_pruned f size known laws masters w m tracked reads legal.0 (heard m (inl refl)) told.0 kept pruned) (masters_on f size masters w m tracked reads legal.0 once)
        legal.1 (λ n had. heard n (inr had)) told.1 (indexed_now w m tracked reads legal.0 pruned once ids indexed))

-- ---- from a world in which nothing was done

abbrev pub index_id : RootIndex → ℕ
index_id x = x.id

abbrev pub first_ids : RootData → List ℕ
first_ids root = map index_id root.indices

pub indexed_last : (f : Formats) (size : ℕ) → StepLaws f size → MasterLaws f size → AllKnown f → (w : World) (log : List Moment) → IsHeard f size w log → AreTold log → Indexed (first_ids w.root ++ all_ids f w log) (world_from f w log)
indexed_last f size laws masters known w log h told =
    indexed_from f size laws masters known w log (first_ids w.root) h.tracked h.readers (untouched_kept w h.untouched) (untouched_pruned f w h.untouched) (untouched_masters w h.untouched) h.legal h.heard told
    (record {
      root = λ x had. Has-map index_id w.root.indices x had;
      tickets = λ k t there. absurd (nothing w.tickets k t h.untouched.tickets there);
      ops = λ o op there. absurd (nothing w.ops o op h.untouched.ops there);
      finals = λ k t info results made there. absurd (nothing w.tickets k t h.untouched.tickets there);
    })
