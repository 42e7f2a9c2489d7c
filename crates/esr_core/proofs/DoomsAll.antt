-- What a tidy root reaches and the new root of a delete doesn't, that the delete dooms.
use Rattle.std.proofs.Common.{◌≡◌, ◌⊎◌, ℕ, zero, suc, ◌+◌, Bool, true, false, List, [], ◌∷◌, ◌++◌, map, Option, Some, None, refl, sym, ap, ◌∙◌, subst, inl, inr, arith}
use Rattle.std.specs.Prelude.{◌&&◌, ◌==◌, if◌then◌else◌}
use Rattle.std.specs.List.{list_any}
use Rattle.std.proofs.lemmas.Bool.Decides.{eqb_tells}
use Rattle.std.proofs.lemmas.Option.{same_Some, none-some}
use Rattle.std.proofs.lemmas.Bool.{cond-true, cond-false, cases_Bool, and_parts}
use Rattle.esr_core.proofs.Drawing.{left_stays}
use Rattle.esr_model.specs.Names.{BlobName, Root, Snap, Meta, IndexMeta, ShardSnap, ShardIndex}
use Rattle.esr_model.specs.Values.{Bytes, Has, RootSnap, RootIndex, RootData, FileEntry, SnapList, ShardFiles, IsOneEach, Formats}
use Rattle.esr_model.specs.Shelf.{Shelved, names_uuid}
use Rattle.esr_model.specs.Parts.{part_names}
use Rattle.esr_model.specs.Image.{IsOne, Reads, Generation, index_at, at_shard, at_shard_of}
use Rattle.esr_model.specs.Reach.{Reached, ReachSnap, ReachMeta, ReachIndexMeta, ReachIndex, ReachShardSnap, ReachPart}
use Rattle.esr_model.specs.Delete.{PrunedShard, own_id, fresh_from, left_snaps, left_uuids, left_index, left_indices, left_root, uuids_of, lists_file, listed_lists, surviving, files_by, files_read, left_text, pruned_blobs, deleted_root, gone_by, gone_from, gone_shards, doomed_root, doomed_snaps, doomed_metas, doomed_index_metas, doomed_lists, doomed_parts, doomed_files, doomed_shards, doomed_names}
use Rattle.esr_core.specs.World.{World, HeldIn}
use Rattle.esr_core.specs.Pruning.{is_left, is_victim, has_none, has_named, is_touched, bare_shard, pruned_shards, AreRead, AreOfRoot, AreWritable, dooms}
use Rattle.esr_core.specs.Allowed.{SettlesDeletion}
use Rattle.esr_core.specs.Ids.{Law}
use Rattle.esr_core.specs.Tidy.{IsInIndex, TidyRoot}
use Rattle.esr_model.specs.Lists.{Has-map, Has-mapped, Has-left, Has-right, filter-Has}
use Rattle.esr_core.specs.Laws.OneValue.{reads_one, held_one, generation_index}
use Rattle.esr_core.specs.Laws.DeleteRoots.{left_has, AreApart, one_found, index_was, renewed_index_was, deleted_snapshots, deleted_generations, has_names, names_has, bytes_same}
use Rattle.esr_core.proofs.DeletedRoots.{deleted_kept, deleted_stays}
use Rattle.esr_core.specs.Laws.PruneShards.{of_indices}
use Rattle.esr_core.proofs.PrunedShards.{has_of_indices}
use Rattle.esr_core.specs.Laws.Tests.{clash, any_of}
use Rattle.esr_core.proofs.DeletesHold.{of_filtered, fresh_has, fresh_is, not_none}
use Rattle.esr_core.specs.Laws.DoomNames.{dooms_is}
use Rattle.esr_core.specs.Laws.DeletePlans.{in_root, of_root_apart}
use Rattle.esr_core.proofs.Plans.{shard_reads}
use Rattle.esr_core.proofs.DoomedNames.{left_unnamed, left_listed, uuid_unnamed, passed}
use Rattle.esr_core.proofs.PruneTurns.{law, pruned, plan, root_is, once, written}

-- ---- uuids that are named

none_named : (uuids us : List ℕ) (u : ℕ) → has_named uuids us ≡ false → Has us u → names_uuid uuids u ≡ false
none_named uuids [] u e m = absurd m
none_named uuids (v ∷ us) u e m = elim (cases_Bool (names_uuid uuids v)) [
  | inl b ↦ absurd (clash _ (cond-true _ _ _ b) e)
  | inr b ↦ elim m [ inl same ↦ ap (names_uuid uuids) (sym same) ∙ b | inr later ↦ none_named uuids us u (sym (cond-false _ _ _ b) ∙ e) later ]
]

some_named : (uuids us : List ℕ) (u : ℕ) → Has us u → names_uuid uuids u ≡ true → has_named uuids us ≡ true
some_named uuids [] u m e = absurd m
some_named uuids (v ∷ us) u m e = elim (cases_Bool (names_uuid uuids v)) [
  | inl b ↦ cond-true _ _ _ b
  | inr b ↦ cond-false _ _ _ b ∙ elim m [ inl same ↦ absurd (clash (names_uuid uuids v) (ap (names_uuid uuids) same ∙ e) b) | inr later ↦ some_named uuids us u later e ]
]

-- ---- the new root has an index with a snapshot alone

one_used : (x : RootIndex) (us : List ℕ) (rest : List RootIndex) (y : RootIndex) → (Has rest y → (u : ℕ) × Has y.snapshots u) → Has (left_index x us rest) y → (u : ℕ) × Has y.snapshots u
one_used x [] rest y h m = h m
one_used x (u ∷ us) rest y h (inl e) = (u, subst (λ (z : RootIndex). Has z.snapshots u) e (inl refl))
one_used x (u ∷ us) rest y h (inr m) = h m

left_used : (uuids : List ℕ) (xs : List RootIndex) (y : RootIndex) → Has (left_indices uuids xs) y → (u : ℕ) × Has y.snapshots u
left_used uuids [] y m = absurd m
left_used uuids (x ∷ xs) y m = one_used x (left_uuids uuids x.snapshots) (left_indices uuids xs) y (left_used uuids xs y) m

-- an index of the new root: what is left of one of the old root, with a snapshot at least
pub record IsLeftOf (root : RootData) (uuids : List ℕ) (y : RootIndex) : Type 0 where
  pub x : RootIndex
  pub there : Has root.indices x
  pub id : x.id ≡ y.id
  pub snapshots : left_uuids uuids x.snapshots ≡ y.snapshots
  pub used : (u : ℕ) × Has y.snapshots u

pub deleted_used : (root : RootData) (uuids : List ℕ) (shards : List PrunedShard) (first : ℕ) (y : RootIndex) → Has (deleted_root root uuids shards first).indices y → IsLeftOf root uuids y
unfolding deleted_root
deleted_used root uuids shards first y m =
    let (z, there, a) = renewed_index_was shards first (left_root root uuids) y m in
    let (x, old, z_is) = index_was uuids root.indices z there in
    let (u, mine) = left_used uuids root.indices z there in
    record {
      x = x;
      there = old;
      id = sym (ap (λ (i : RootIndex). i.id) z_is) ∙ a.id;
      snapshots = sym (ap (λ (i : RootIndex). i.snapshots) z_is) ∙ a.snapshots;
      used = (u, subst (λ (us : List ℕ). Has us u) a.snapshots mine);
    }

-- ---- the shards whose generation the new root hasn't

-- by what the new root has for the shard
abbrev IsGoneAs : Option ℕ → ℕ → Bool → Type 0
IsGoneAs None base kept = kept ≡ false
IsGoneAs (Some now) base kept = (kept ≡ true) × (now ≡ base → ⊥)

gone_as : (o : Option ℕ) (base : ℕ) → (o ≡ Some base → ⊥) → (kept : Bool) × IsGoneAs o base kept
gone_as None base other = (false, refl)
gone_as (Some now) base other = (true, (refl, λ e. other (ap (λ (n : ℕ). Some n) e)))

kept_now : (o : Option ℕ) (base : ℕ) (kept : Bool) → IsGoneAs o base kept → kept ≡ true → (now : ℕ) × (o ≡ Some now) × (now ≡ base → ⊥)
kept_now None base kept h e = absurd (clash kept e h)
kept_now (Some now) base kept h e = (now, refl, h.1)

abbrev shard_at : ℕ → ℕ → ℕ → Bool → PrunedShard
shard_at index number base kept = record { index = index; number = number; base = base; kept = kept }

first_gone : (base index number : ℕ) (o : Option ℕ) (kept : Bool) (rest : List PrunedShard) → IsGoneAs o base kept → Has (gone_by base o index number rest) (shard_at index number base kept)
first_gone base index number None kept rest e = inl (λ j. shard_at index number base (sym e j))
first_gone base index number (Some now) kept rest h = elim (eqb_tells now base) [
  | inl t ↦ absurd (h.1 t.1)
  | inr t ↦ subst (λ (l : List PrunedShard). Has l (shard_at index number base kept)) (sym (cond-false _ _ _ t.0)) (inl (λ j. shard_at index number base (sym h.0 j)))
]

later_gone : (base index number : ℕ) (o : Option ℕ) (rest : List PrunedShard) (p : PrunedShard) → Has rest p → Has (gone_by base o index number rest) p
later_gone base index number None rest p m = inr m
later_gone base index number (Some now) rest p m = elim (cases_Bool (now == base)) [
  | inl b ↦ subst (λ (l : List PrunedShard). Has l p) (sym (cond-true _ _ _ b)) m
  | inr b ↦ subst (λ (l : List PrunedShard). Has l p) (sym (cond-false _ _ _ b)) (inr m)
]

module _ (new : RootData) where
  gone_of_index : (index number place base : ℕ) (kept : Bool) (gs : List (Option ℕ)) → at_shard gs place ≡ Some base → IsGoneAs (at_shard_of (index_at new.indices index) (number + place)) base kept
      → Has (gone_from new index number gs) (shard_at index (number + place) base kept)
  gone_of_index index number place base kept [] at h = absurd (none-some base at)
  gone_of_index index number zero base kept (None ∷ gs) at h = absurd (none-some base at)
  gone_of_index index number zero base kept (Some g ∷ gs) at h =
      let same : g ≡ base = same_Some g base at in
      let n : number ≡ number + 0 = omega arith in
      let here : IsGoneAs (at_shard_of (index_at new.indices index) number) g kept = subst (λ (x : ℕ × ℕ). IsGoneAs (at_shard_of (index_at new.indices index) x.0) x.1 kept) (λ j. (sym n j, sym same j)) h in
      subst (λ (x : ℕ × ℕ). Has (gone_from new index number (Some g ∷ gs)) (shard_at index x.0 x.1 kept)) (λ j. (n j, same j))
      (first_gone g index number (at_shard_of (index_at new.indices index) number) kept (gone_from new index (suc number) gs) here)
  gone_of_index index number (suc place) base kept (None ∷ gs) at h =
      let n : suc number + place ≡ number + suc place = omega arith in
      subst (λ (x : ℕ). Has (gone_from new index (suc number) gs) (shard_at index x base kept)) n
      (gone_of_index index (suc number) place base kept gs at (subst (λ (x : ℕ). IsGoneAs (at_shard_of (index_at new.indices index) x) base kept) (sym n) h))
  gone_of_index index number (suc place) base kept (Some g ∷ gs) at h =
      let n : suc number + place ≡ number + suc place = omega arith in
      later_gone g index number (at_shard_of (index_at new.indices index) number) (gone_from new index (suc number) gs) (shard_at index (number + suc place) base kept)
      (subst (λ (x : ℕ). Has (gone_from new index (suc number) gs) (shard_at index x base kept)) n
      (gone_of_index index (suc number) place base kept gs at (subst (λ (x : ℕ). IsGoneAs (at_shard_of (index_at new.indices index) x) base kept) (sym n) h)))

  gone_of_indices : (xs : List RootIndex) (x : RootIndex) → Has xs x → (place base : ℕ) (kept : Bool) → at_shard x.generations place ≡ Some base → IsGoneAs (at_shard_of (index_at new.indices x.id) place) base kept
      → Has (gone_shards new xs) (shard_at x.id place base kept)
  gone_of_indices [] x m place base kept at h = absurd m
  gone_of_indices (z ∷ xs) x (inl same) place base kept at h =
      let n : 0 + place ≡ place = omega arith in
      let here : IsGoneAs (at_shard_of (index_at new.indices z.id) (0 + place)) base kept = subst (λ (v : ℕ × ℕ). IsGoneAs (at_shard_of (index_at new.indices v.0) v.1) base kept) (λ j. ((sym same j).id, sym n j)) h in
      Has-left (gone_from new z.id 0 z.generations) (gone_shards new xs) (shard_at x.id place base kept)
      (subst (λ (v : ℕ × ℕ). Has (gone_from new z.id 0 z.generations) (shard_at v.0 v.1 base kept)) (λ j. ((same j).id, n j))
      (gone_of_index z.id 0 place base kept z.generations (ap (λ (y : RootIndex). at_shard y.generations place) same ∙ at) here))
  gone_of_indices (z ∷ xs) x (inr m) place base kept at h =
      Has-right (gone_from new z.id 0 z.generations) (gone_shards new xs) (shard_at x.id place base kept) (gone_of_indices xs x m place base kept at h)

-- ---- each is among the doomed names

snap_doomed : (uuids : List ℕ) (ss : List RootSnap) (s : RootSnap) → Has ss s → names_uuid uuids s.uuid ≡ true → Has (doomed_snaps uuids ss) (Snap s.uuid) × Has (doomed_snaps uuids ss) (Meta s.uuid)
snap_doomed uuids [] s m e = absurd m
snap_doomed uuids (x ∷ ss) s (inl same) e =
    let own : names_uuid uuids x.uuid ≡ true = ap (λ (y : RootSnap). names_uuid uuids y.uuid) same ∙ e in (
      subst (λ (l : List BlobName). Has l (Snap s.uuid)) (sym (cond-true _ _ _ own)) (inl (ap (λ (y : RootSnap). Snap y.uuid) same)),
      subst (λ (l : List BlobName). Has l (Meta s.uuid)) (sym (cond-true _ _ _ own)) (inr (inl (ap (λ (y : RootSnap). Meta y.uuid) same))),
    )
snap_doomed uuids (x ∷ ss) s (inr m) e =
    let rest = snap_doomed uuids ss s m e in
    elim (cases_Bool (names_uuid uuids x.uuid)) [
      | inl b ↦ (
        subst (λ (l : List BlobName). Has l (Snap s.uuid)) (sym (cond-true _ _ _ b)) (inr (inr rest.0)),
        subst (λ (l : List BlobName). Has l (Meta s.uuid)) (sym (cond-true _ _ _ b)) (inr (inr rest.1)),
      )
      | inr b ↦ (
        subst (λ (l : List BlobName). Has l (Snap s.uuid)) (sym (cond-false _ _ _ b)) rest.0,
        subst (λ (l : List BlobName). Has l (Meta s.uuid)) (sym (cond-false _ _ _ b)) rest.1,
      )
    ]

meta_doomed : (uuids : List ℕ) (id : ℕ) (us : List ℕ) (u : ℕ) → Has us u → names_uuid uuids u ≡ true → Has (doomed_metas uuids id us) (IndexMeta id u)
meta_doomed uuids id [] u m e = absurd m
meta_doomed uuids id (v ∷ us) u (inl same) e =
    let own : names_uuid uuids v ≡ true = ap (names_uuid uuids) same ∙ e in
    subst (λ (l : List BlobName). Has l (IndexMeta id u)) (sym (cond-true _ _ _ own)) (inl (ap (λ (n : ℕ). IndexMeta id n) same))
meta_doomed uuids id (v ∷ us) u (inr m) e = elim (cases_Bool (names_uuid uuids v)) [
  | inl b ↦ subst (λ (l : List BlobName). Has l (IndexMeta id u)) (sym (cond-true _ _ _ b)) (inr (meta_doomed uuids id us u m e))
  | inr b ↦ subst (λ (l : List BlobName). Has l (IndexMeta id u)) (sym (cond-false _ _ _ b)) (meta_doomed uuids id us u m e)
]

index_meta_doomed : (uuids : List ℕ) (xs : List RootIndex) (x : RootIndex) (u : ℕ) → Has xs x → Has x.snapshots u → names_uuid uuids u ≡ true → Has (doomed_index_metas uuids xs) (IndexMeta x.id u)
index_meta_doomed uuids [] x u m mine e = absurd m
index_meta_doomed uuids (z ∷ xs) x u (inl same) mine e =
    let own : Has z.snapshots u = subst (λ (y : RootIndex). Has y.snapshots u) (sym same) mine in
    subst (λ (y : RootIndex). Has (doomed_index_metas uuids (z ∷ xs)) (IndexMeta y.id u)) same
    (Has-left (doomed_metas uuids z.id z.snapshots) (doomed_index_metas uuids xs) (IndexMeta z.id u) (meta_doomed uuids z.id z.snapshots u own e))
index_meta_doomed uuids (z ∷ xs) x u (inr m) mine e =
    Has-right (doomed_metas uuids z.id z.snapshots) (doomed_index_metas uuids xs) (IndexMeta x.id u) (index_meta_doomed uuids xs x u m mine e)

list_test : (listed kept left : Bool) → listed ≡ true → (kept ≡ true → left ≡ false) → (listed && (if kept then (if left then false else true) else true)) ≡ true
list_test true true true a h = absurd (clash true refl (h refl))
list_test false kept left a h = absurd (clash false a refl)
list_test listed kept left a h = refl

list_doomed : (listed left : List ℕ) (p : PrunedShard) (lists : List SnapList) (l : SnapList) → Has lists l → names_uuid listed l.uuid ≡ true → (p.kept ≡ true → names_uuid left l.uuid ≡ false)
    → Has (doomed_lists listed left p lists) (ShardSnap p.index p.number l.uuid)
list_doomed listed left p [] l m a h = absurd m
list_doomed listed left p (x ∷ lists) l (inl same) a h =
    let own : (names_uuid listed x.uuid && (if p.kept then (if names_uuid left x.uuid then false else true) else true)) ≡ true =
    list_test (names_uuid listed x.uuid) p.kept (names_uuid left x.uuid) (ap (λ (y : SnapList). names_uuid listed y.uuid) same ∙ a) (λ k. ap (λ (y : SnapList). names_uuid left y.uuid) same ∙ h k) in
    subst (λ (ns : List BlobName). Has ns (ShardSnap p.index p.number l.uuid)) (sym (cond-true _ _ _ own)) (inl (ap (λ (y : SnapList). ShardSnap p.index p.number y.uuid) same))
list_doomed listed left p (x ∷ lists) l (inr m) a h = elim (cases_Bool (names_uuid listed x.uuid && (if p.kept then (if names_uuid left x.uuid then false else true) else true))) [
  | inl b ↦ subst (λ (ns : List BlobName). Has ns (ShardSnap p.index p.number l.uuid)) (sym (cond-true _ _ _ b)) (inr (list_doomed listed left p lists l m a h))
  | inr b ↦ subst (λ (ns : List BlobName). Has ns (ShardSnap p.index p.number l.uuid)) (sym (cond-false _ _ _ b)) (list_doomed listed left p lists l m a h)
]

part_doomed : (lists : List SnapList) (p : PrunedShard) (files : List FileEntry) (e : FileEntry) → Has files e → (p.kept && lists_file lists e) ≡ false → (name : BlobName) → Has (part_names p.index p.number e) name
    → Has (doomed_parts lists p files) name
part_doomed lists p [] e m lost name part = absurd m
part_doomed lists p (x ∷ files) e (inl same) lost name part =
    let own : (p.kept && lists_file lists x) ≡ false = ap (λ (y : FileEntry). p.kept && lists_file lists y) same ∙ lost in
    let mine : Has (part_names p.index p.number x) name = subst (λ (y : FileEntry). Has (part_names p.index p.number y) name) (sym same) part in
    subst (λ (ns : List BlobName). Has ns name) (sym (cond-false _ _ _ own)) (Has-left (part_names p.index p.number x) (doomed_parts lists p files) name mine)
part_doomed lists p (x ∷ files) e (inr m) lost name part = elim (cases_Bool (p.kept && lists_file lists x)) [
  | inl b ↦ subst (λ (ns : List BlobName). Has ns name) (sym (cond-true _ _ _ b)) (part_doomed lists p files e m lost name part)
  | inr b ↦ subst (λ (ns : List BlobName). Has ns name) (sym (cond-false _ _ _ b)) (Has-right (part_names p.index p.number x) (doomed_parts lists p files) name (part_doomed lists p files e m lost name part))
]

shard_doomed : (f : Formats) (read : List (BlobName × Bytes)) (listed left : List ℕ) (shards : List PrunedShard) (p : PrunedShard) → Has shards p → (name : BlobName)
    → (name ≡ ShardIndex p.index p.number p.base) ⊎ Has (doomed_files listed left p (files_read f read p)) name → Has (doomed_shards f read listed left shards) name
shard_doomed f read listed left [] p m name h = absurd m
shard_doomed f read listed left (q ∷ shards) p (inl same) name (inl e) = inl (ap (λ (x : PrunedShard). ShardIndex x.index x.number x.base) same ∙ sym e)
shard_doomed f read listed left (q ∷ shards) p (inl same) name (inr h) =
    inr (Has-left (doomed_files listed left q (files_read f read q)) (doomed_shards f read listed left shards) name (subst (λ (x : PrunedShard). Has (doomed_files listed left x (files_read f read x)) name) (sym same) h))
shard_doomed f read listed left (q ∷ shards) p (inr m) name h =
    inr (Has-right (doomed_files listed left q (files_read f read q)) (doomed_shards f read listed left shards) name (shard_doomed f read listed left shards p m name h))

module _ (f : Formats) (safe : ℕ) (old new : RootData) (uuids : List ℕ) (read : List (BlobName × Bytes)) where
  abbrev snaps : List BlobName
  snaps = doomed_snaps uuids old.snapshots

  abbrev metas : List BlobName
  metas = doomed_index_metas uuids old.indices

  abbrev rest : List BlobName
  rest = doomed_shards f read (uuids_of old) (uuids_of new) (gone_shards new old.indices)

  of_the_root : (name : BlobName) → Has (doomed_root safe) name → Has (doomed_names f safe old new uuids read) name
  unfolding doomed_names
  of_the_root name m = Has-left (doomed_root safe ++ snaps ++ metas) rest name (Has-left (doomed_root safe ++ snaps) metas name (Has-left (doomed_root safe) snaps name m))

  of_snaps : (name : BlobName) → Has (doomed_snaps uuids old.snapshots) name → Has (doomed_names f safe old new uuids read) name
  unfolding doomed_names
  of_snaps name m = Has-left (doomed_root safe ++ snaps ++ metas) rest name (Has-left (doomed_root safe ++ snaps) metas name (Has-right (doomed_root safe) snaps name m))

  of_metas : (name : BlobName) → Has (doomed_index_metas uuids old.indices) name → Has (doomed_names f safe old new uuids read) name
  unfolding doomed_names
  of_metas name m = Has-left (doomed_root safe ++ snaps ++ metas) rest name (Has-right (doomed_root safe ++ snaps) metas name m)

  of_shards : (name : BlobName) → Has (doomed_shards f read (uuids_of old) (uuids_of new) (gone_shards new old.indices)) name → Has (doomed_names f safe old new uuids read) name
  unfolding doomed_names
  of_shards name m = Has-right (doomed_root safe ++ snaps ++ metas) rest name m

-- ---- all of it

pub none_fresh : (to : Option ℕ) → ◌≡◌ {A = Option (Option ℕ)} None (Some to) → ⊥
none_fresh to e = cc

module _ (f : Formats) (has : BlobName → Bytes → Type 0) (func : IsOne has) (safe : ℕ) (clean : Bool) (root : RootData) (one : IsOneEach root.indices) (uuids : List ℕ) (read : List (BlobName × Bytes)) (first : ℕ)
    (held : (name : BlobName) (bytes : Bytes) → Has read (name, bytes) → has name bytes) (are_read : AreRead f clean root uuids read) (of_root : AreOfRoot root (pruned_shards f clean root uuids read))
    (writable : AreWritable f root uuids read (pruned_shards f clean root uuids read))
    (written : (name : BlobName) (bytes : Bytes) → Has (pruned_blobs f read (left_uuids uuids (uuids_of root)) first (pruned_shards f clean root uuids read)) (name, bytes) → has name bytes) (tidy : TidyRoot f has root) where
  abbrev shards : List PrunedShard
  shards = pruned_shards f clean root uuids read

  abbrev new : RootData
  new = deleted_root root uuids shards first

  abbrev left : List ℕ
  left = left_uuids uuids (uuids_of root)

  apart : AreApart shards
  apart = of_root_apart root shards of_root

  new_snapshots : new.snapshots ≡ left_snaps uuids root.snapshots
  new_snapshots = deleted_snapshots root one uuids shards first apart

  new_listed : uuids_of new ≡ left
  new_listed = ap (map (λ (s : RootSnap). s.uuid)) new_snapshots ∙ left_listed uuids root.snapshots

  snap_stays : (s : RootSnap) → Has root.snapshots s → names_uuid uuids s.uuid ≡ false → Has new.snapshots s
  snap_stays s m e = subst (λ (ss : List RootSnap). Has ss s) (sym new_snapshots) (left_stays uuids root.snapshots s m e)

  generation_in : (x : RootIndex) → Has root.indices x → (i k g : ℕ) → x.id ≡ i → Generation root i k g → at_shard x.generations k ≡ Some g
  generation_in x there i k g id gen = sym (ap (λ (z : Option RootIndex). at_shard_of z k) (one_found root.indices one x there i id)) ∙ gen

  -- what was read of a shard, and is there
  record WasRead (i k g : ℕ) : Type 0 where
    was : ShardFiles
    read_as : files_read f read (bare_shard i k g) ≡ Some was
    reads : Reads has (ShardIndex i k g) f.shard_index was

  read_of : (x : RootIndex) → Has root.indices x → (i k g : ℕ) → x.id ≡ i → Generation root i k g → is_touched clean uuids x.snapshots ≡ true → WasRead i k g
  read_of x there i k g id gen victim =
      let (was, e) = are_read i k g (record { x = x; there = there; id = id; victim = victim; at = generation_in x there i k g id gen }) in
      record { was = was; read_as = e; reads = shard_reads f has read held (bare_shard i k g) was e }

  -- a shard whose generation the new root hasn't was read
  gone_was_read : clean ≡ false → (i k g : ℕ) → Generation root i k g → (Generation new i k g → ⊥) → WasRead i k g
  gone_was_read deletes i k g gen other =
      let (x, there, id) = generation_index root i k g gen in
      elim (cases_Bool (is_touched clean uuids x.snapshots)) [
        | inl victim ↦ read_of x there i k g id gen victim
        | inr none ↦
            let (u, mine) = tidy.used x there in
            absurd (other (deleted_stays root one uuids shards first apart i k g gen x u there id mine (none_named uuids x.snapshots u (ap (λ (c : Bool). is_touched c uuids x.snapshots) (sym deletes) ∙ none) mine) (λ q m a b.
            let r = of_indices f read clean uuids (uuids_of root) root.indices q m in
            let same : r.x ≡ x = one r.x x r.there there (sym r.is.index_is ∙ sym a ∙ sym id) in
            clash (is_touched clean uuids x.snapshots) (ap (λ (z : RootIndex). is_touched clean uuids z.snapshots) (sym same) ∙ r.victim) none)).1)
      ]

  -- the index under a generation that is new
  fresh_reads : (i k g now : ℕ) → Generation root i k g → (w : WasRead i k g) → fresh_from first shards i k ≡ Some (Some now) → Reads has (ShardIndex i k now) f.shard_index (surviving left w.was)
  fresh_reads i k g now gen w fresh =
      let r = fresh_is f read left shards first i k now fresh in
      let at : Generation root i k r.p.base = subst (λ (y : ℕ × ℕ). Generation root y.0 y.1 r.p.base) (λ j. (r.index_is j, r.number_is j)) (in_root root shards r.p of_root r.there) in
      let base : r.p.base ≡ g = same_Some r.p.base g (sym at ∙ gen) in
      let its : files_read f read r.p ≡ Some w.was = ap (files_by f) (bytes_same read r.p (bare_shard i k g) r.index_is r.number_is base) ∙ w.read_as in
      let text : Has (pruned_blobs f read left first shards) (ShardIndex i k now, f.shard_index.text (surviving left w.was)) =
      subst (λ (o : Option ShardFiles). Has (pruned_blobs f read left first shards) (ShardIndex i k now, left_text f left o)) its r.own in
      record { bytes = f.shard_index.text (surviving left w.was); there = written (ShardIndex i k now) (f.shard_index.text (surviving left w.was)) text; reads = writable r.p w.was r.there its }

  -- the generation of a shard in which a victim is listed goes
  victim_goes : clean ≡ false → (i k g : ℕ) (s : RootSnap) (h : ShardFiles) (l : SnapList) → Generation root i k g → Reads has (ShardIndex i k g) f.shard_index h → Has h.snapshots l → Has root.snapshots s → l.uuid ≡ s.uuid
      → names_uuid uuids s.uuid ≡ true → Generation new i k g → ⊥
  victim_goes deletes i k g s h l gen reads listed there same named stays =
      let own : IsInIndex root i s.uuid = tidy.lists i k g gen h reads l listed s there same in
      let victim : is_touched clean uuids own.x.snapshots ≡ true = ap (λ (c : Bool). is_touched c uuids own.x.snapshots) deletes ∙ some_named uuids own.x.snapshots s.uuid own.mine named in
      let w : WasRead i k g = read_of own.x own.there i k g own.id gen victim in
      let is : h ≡ w.was = reads_one has func (ShardIndex i k g) f.shard_index h w.was reads w.reads in
      let l_there : Has w.was.snapshots l = subst (λ (z : ShardFiles). Has z.snapshots l) is listed in
      let l_named : names_uuid uuids l.uuid ≡ true = ap (names_uuid uuids) same ∙ named in
      let l_listed : names_uuid (uuids_of root) l.uuid ≡ true = ap (names_uuid (uuids_of root)) same ∙ has_names (uuids_of root) s.uuid (Has-map (λ (x : RootSnap). x.uuid) root.snapshots s there) in
      let test : is_victim clean uuids (uuids_of root) l ≡ true = ap (λ (c : Bool). is_victim c uuids (uuids_of root) l) deletes ∙ ap (λ (b : Bool). b && names_uuid (uuids_of root) l.uuid) l_named ∙ l_listed in
      let any : list_any (is_victim clean uuids (uuids_of root)) w.was.snapshots ≡ true = any_of (is_victim clean uuids (uuids_of root)) w.was.snapshots l l_there test in
      elim (cases_Bool (has_none (left_uuids uuids own.x.snapshots))) [
        | inl leaves ↦
            let (y, y_there, y_id) = generation_index new i k g stays in
            let z : IsLeftOf root uuids y = deleted_used root uuids shards first y y_there in
            let x_is : z.x ≡ own.x = one z.x own.x z.there own.there (z.id ∙ y_id ∙ sym own.id) in
            let (u, mine) = z.used in
            let u_left : Has (left_uuids uuids own.x.snapshots) u = subst (λ (x : RootIndex). Has (left_uuids uuids x.snapshots) u) x_is (subst (λ (us : List ℕ). Has us u) (sym z.snapshots) mine) in
            clash (has_none (left_uuids uuids own.x.snapshots)) leaves (not_none (left_uuids uuids own.x.snapshots) u u_left)
        | inr on ↦ elim (deleted_generations root one uuids shards first apart i k g stays) [
          | inl old ↦
              let p : PrunedShard = shard_at own.x.id k g (list_any (is_left left) w.was.snapshots) in
              let p_there : Has shards p =
              has_of_indices f read clean uuids (uuids_of root) root.indices own.x own.there victim on k g w.was (generation_in own.x own.there i k g own.id gen) (ap (λ (n : ℕ). files_read f read (bare_shard n k g)) own.id ∙ w.read_as) any in
              let (n, fresh) = fresh_has shards first p apart p_there in
              none_fresh (own_id n p) (sym old.0 ∙ ap (λ (v : ℕ). fresh_from first shards v k) (sym own.id) ∙ fresh)
          | inr fresh ↦
              let now : w.was ≡ surviving left w.was = reads_one has func (ShardIndex i k g) f.shard_index w.was (surviving left w.was) w.reads (fresh_reads i k g g gen w fresh) in
              let l_left : names_uuid left l.uuid ≡ true = passed (λ (x : SnapList). names_uuid left x.uuid) w.was.snapshots l (subst (λ (z : ShardFiles). Has z.snapshots l) now l_there) in
              clash (names_uuid uuids l.uuid) l_named (uuid_unnamed uuids (uuids_of root) l.uuid (names_has left l.uuid l_left))
        ]
      ]

  -- a shard that goes and of which something is left has a new index
  record HasNew (i k g : ℕ) (w : WasRead i k g) : Type 0 where
    now : ℕ
    gen : Generation new i k now
    reads : Reads has (ShardIndex i k now) f.shard_index (surviving left w.was)

  has_new : (i k g : ℕ) (w : WasRead i k g) (kept : Bool) → Generation root i k g → IsGoneAs (at_shard_of (index_at new.indices i) k) g kept → kept ≡ true → HasNew i k g w
  has_new i k g w kept gen as_told is_kept =
      let (now, now_gen, other) = kept_now (at_shard_of (index_at new.indices i) k) g kept as_told is_kept in
      elim (deleted_generations root one uuids shards first apart i k now now_gen) [
        | inl old ↦ absurd (other (same_Some now g (sym old.1 ∙ gen)))
        | inr fresh ↦ record { now = now; gen = now_gen; reads = fresh_reads i k g now gen w fresh }
      ]

  -- of a shard that goes its index is doomed, and what its own names are
  goes_doomed : (i k g : ℕ) (kept : Bool) → Generation root i k g → IsGoneAs (at_shard_of (index_at new.indices i) k) g kept → (name : BlobName)
      → (name ≡ ShardIndex i k g) ⊎ Has (doomed_files (uuids_of root) (uuids_of new) (shard_at i k g kept) (files_read f read (shard_at i k g kept))) name → Has (doomed_names f safe root new uuids read) name
  goes_doomed i k g kept gen as_told name h =
      let (x, there, id) = generation_index root i k g gen in
      let gone : Has (gone_shards new root.indices) (shard_at i k g kept) =
      subst (λ (n : ℕ). Has (gone_shards new root.indices) (shard_at n k g kept)) id
      (gone_of_indices new root.indices x there k g kept (generation_in x there i k g id gen) (subst (λ (n : ℕ). IsGoneAs (at_shard_of (index_at new.indices n) k) g kept) (sym id) as_told)) in
      of_shards f safe root new uuids read name (shard_doomed f read (uuids_of root) (uuids_of new) (gone_shards new root.indices) (shard_at i k g kept) gone name h)

  read_at : (i k g : ℕ) (kept : Bool) (w : WasRead i k g) → files_read f read (shard_at i k g kept) ≡ Some w.was
  read_at i k g kept w = ap (files_by f) (bytes_same read (shard_at i k g kept) (bare_shard i k g) refl refl refl) ∙ w.read_as

  files_doomed : (i k g : ℕ) (kept : Bool) (w : WasRead i k g) → Generation root i k g → IsGoneAs (at_shard_of (index_at new.indices i) k) g kept → (name : BlobName)
      → Has (doomed_lists (uuids_of root) (uuids_of new) (shard_at i k g kept) w.was.snapshots ++ doomed_parts (listed_lists (uuids_of new) w.was.snapshots) (shard_at i k g kept) w.was.files) name
      → Has (doomed_names f safe root new uuids read) name
  files_doomed i k g kept w gen as_told name m =
      goes_doomed i k g kept gen as_told name
      (inr (subst (λ (o : Option ShardFiles). Has (doomed_files (uuids_of root) (uuids_of new) (shard_at i k g kept) o) name) (sym (read_at i k g kept w)) m))

  list_goes : clean ≡ false → (i k g : ℕ) (kept : Bool) (s : RootSnap) (h : ShardFiles) (l : SnapList) → Generation root i k g → Reads has (ShardIndex i k g) f.shard_index h → Has h.snapshots l → Has root.snapshots s
      → l.uuid ≡ s.uuid
      → (Reached f has new (ShardSnap i k s.uuid) → ⊥) → (Generation new i k g → ⊥) → IsGoneAs (at_shard_of (index_at new.indices i) k) g kept → Has (doomed_names f safe root new uuids read) (ShardSnap i k s.uuid)
  list_goes deletes i k g kept s h l gen reads listed there same unreached other as_told =
      let w : WasRead i k g = gone_was_read deletes i k g gen other in
      let is : h ≡ w.was = reads_one has func (ShardIndex i k g) f.shard_index h w.was reads w.reads in
      let l_there : Has w.was.snapshots l = subst (λ (z : ShardFiles). Has z.snapshots l) is listed in
      let l_listed : names_uuid (uuids_of root) l.uuid ≡ true = ap (names_uuid (uuids_of root)) same ∙ has_names (uuids_of root) s.uuid (Has-map (λ (x : RootSnap). x.uuid) root.snapshots s there) in
      let lost : kept ≡ true → names_uuid (uuids_of new) l.uuid ≡ false = λ is_kept. elim (cases_Bool (names_uuid (uuids_of new) l.uuid)) [
        | inr b ↦ b
        | inl b ↦
            let n : HasNew i k g w = has_new i k g w kept gen as_told is_kept in
            let (z, z_there, z_is) = Has-mapped (λ (x : RootSnap). x.uuid) new.snapshots l.uuid (names_has (uuids_of new) l.uuid b) in
            let l_left : Has (surviving left w.was).snapshots l = filter-Has (λ (x : SnapList). names_uuid left x.uuid) w.was.snapshots l l_there (ap (λ (us : List ℕ). names_uuid us l.uuid) (sym new_listed) ∙ b) in
            absurd (unreached (subst (λ (u : ℕ). Reached f has new (ShardSnap i k u)) (z_is ∙ same) (ReachShardSnap i k n.now z (surviving left w.was) l n.gen n.reads l_left z_there (sym z_is))))
      ] in
      let lists : List BlobName = doomed_lists (uuids_of root) (uuids_of new) (shard_at i k g kept) w.was.snapshots in
      let parts : List BlobName = doomed_parts (listed_lists (uuids_of new) w.was.snapshots) (shard_at i k g kept) w.was.files in
      subst (λ (u : ℕ). Has (doomed_names f safe root new uuids read) (ShardSnap i k u)) same
      (files_doomed i k g kept w gen as_told (ShardSnap i k l.uuid)
      (Has-left lists parts (ShardSnap i k l.uuid) (list_doomed (uuids_of root) (uuids_of new) (shard_at i k g kept) w.was.snapshots l l_there l_listed lost)))

  part_goes : clean ≡ false → (i k g : ℕ) (kept : Bool) (h : ShardFiles) (e : FileEntry) (name : BlobName) → Generation root i k g → Reads has (ShardIndex i k g) f.shard_index h → Has h.files e → Has (part_names i k e) name
      → (Reached f has new name → ⊥) → (Generation new i k g → ⊥) → IsGoneAs (at_shard_of (index_at new.indices i) k) g kept → Has (doomed_names f safe root new uuids read) name
  part_goes deletes i k g kept h e name gen reads listed part unreached other as_told =
      let w : WasRead i k g = gone_was_read deletes i k g gen other in
      let is : h ≡ w.was = reads_one has func (ShardIndex i k g) f.shard_index h w.was reads w.reads in
      let e_there : Has w.was.files e = subst (λ (z : ShardFiles). Has z.files e) is listed in
      let lost : (kept && lists_file (listed_lists (uuids_of new) w.was.snapshots) e) ≡ false = elim (cases_Bool (kept && lists_file (listed_lists (uuids_of new) w.was.snapshots) e)) [
        | inr b ↦ b
        | inl b ↦
            let two = and_parts kept (lists_file (listed_lists (uuids_of new) w.was.snapshots) e) b in
            let n : HasNew i k g w = has_new i k g w kept gen as_told two.0 in
            let test : lists_file (listed_lists left w.was.snapshots) e ≡ true = ap (λ (us : List ℕ). lists_file (listed_lists us w.was.snapshots) e) (sym new_listed) ∙ two.1 in
            absurd (unreached (ReachPart i k n.now (surviving left w.was) e name n.gen n.reads (filter-Has (lists_file (listed_lists left w.was.snapshots)) w.was.files e e_there test) part))
      ] in
      let lists : List BlobName = doomed_lists (uuids_of root) (uuids_of new) (shard_at i k g kept) w.was.snapshots in
      let parts : List BlobName = doomed_parts (listed_lists (uuids_of new) w.was.snapshots) (shard_at i k g kept) w.was.files in
      files_doomed i k g kept w gen as_told name
      (Has-right lists parts name (part_doomed (listed_lists (uuids_of new) w.was.snapshots) (shard_at i k g kept) w.was.files e e_there lost name part))

  stays_or_goes : (i k g : ℕ) → (Generation new i k g) ⊎ (Generation new i k g → ⊥)
  stays_or_goes i k g = go (at_shard_of (index_at new.indices i) k)
    where
      go : (o : Option ℕ) → (o ≡ Some g) ⊎ (o ≡ Some g → ⊥)
      go None = inr (λ e. none-some g e)
      go (Some now) = elim (eqb_tells now g) [ inl t ↦ inl (ap (λ (n : ℕ). Some n) t.1) | inr t ↦ inr (λ e. t.1 (same_Some now g e)) ]

  pub all_doomed : clean ≡ false → (name : BlobName) → Reached f has root name → (Reached f has new name → ⊥) → Has (doomed_names f safe root new uuids read) name
  all_doomed deletes name (ReachSnap s there) unreached = elim (cases_Bool (names_uuid uuids s.uuid)) [
    | inl named ↦ of_snaps f safe root new uuids read (Snap s.uuid) (snap_doomed uuids root.snapshots s there named).0
    | inr unnamed ↦ absurd (unreached (ReachSnap s (snap_stays s there unnamed)))
  ]
  all_doomed deletes name (ReachMeta s there) unreached = elim (cases_Bool (names_uuid uuids s.uuid)) [
    | inl named ↦ of_snaps f safe root new uuids read (Meta s.uuid) (snap_doomed uuids root.snapshots s there named).1
    | inr unnamed ↦ absurd (unreached (ReachMeta s (snap_stays s there unnamed)))
  ]
  all_doomed deletes name (ReachIndexMeta x u there mine) unreached = elim (cases_Bool (names_uuid uuids u)) [
    | inl named ↦ of_metas f safe root new uuids read (IndexMeta x.id u) (index_meta_doomed uuids root.indices x u there mine named)
    | inr unnamed ↦
        let (y, y_there, y_name, y_id, y_mine) = deleted_kept root one uuids shards first apart x u there mine unnamed in
        absurd (unreached (subst (λ (i : ℕ). Reached f has new (IndexMeta i u)) y_id (ReachIndexMeta y u y_there y_mine)))
  ]
  all_doomed deletes name (ReachIndex i k g gen) unreached =
      let (kept, as_told) = gone_as (at_shard_of (index_at new.indices i) k) g (λ e. unreached (ReachIndex i k g e)) in
      goes_doomed i k g kept gen as_told (ShardIndex i k g) (inl refl)
  all_doomed deletes name (ReachShardSnap i k g s h l gen reads listed there same) unreached = elim (stays_or_goes i k g) [
    | inr other ↦
        let (kept, as_told) = gone_as (at_shard_of (index_at new.indices i) k) g other in
        list_goes deletes i k g kept s h l gen reads listed there same unreached other as_told
    | inl stays ↦ elim (cases_Bool (names_uuid uuids s.uuid)) [
      | inl named ↦ absurd (victim_goes deletes i k g s h l gen reads listed there same named stays)
      | inr unnamed ↦ absurd (unreached (ReachShardSnap i k g s h l stays reads listed (snap_stays s there unnamed) same))
    ]
  ]
  all_doomed deletes name (ReachPart i k g h e part gen reads listed m) unreached = elim (stays_or_goes i k g) [
    | inr other ↦
        let (kept, as_told) = gone_as (at_shard_of (index_at new.indices i) k) g other in
        part_goes deletes i k g kept h e part gen reads listed m unreached other as_told
    | inl stays ↦ absurd (unreached (ReachPart i k g h e part stays reads listed m))
  ]

  -- the new root is tidy, too
  pub left_tidy : TidyRoot f has new
  left_tidy = record {
    used = λ y m. (deleted_used root uuids shards first y m).used;
    lists = λ i k g gen h reads l m z z_there e.
        let z_left : Has (left_snaps uuids root.snapshots) z = subst (λ (ss : List RootSnap). Has ss z) new_snapshots z_there in
        let z_was : Has root.snapshots z = left_has uuids root.snapshots z z_left in
        let own : IsInIndex root i z.uuid = elim (deleted_generations root one uuids shards first apart i k g gen) [
          | inl old ↦ tidy.lists i k g old.1 h reads l m z z_was e
          | inr fresh ↦
              let r = fresh_is f read left shards first i k g fresh in
              let q = of_indices f read clean uuids (uuids_of root) root.indices r.p r.there in
              let at : Generation root i k r.p.base = subst (λ (y : ℕ × ℕ). Generation root y.0 y.1 r.p.base) (λ j. (r.index_is j, r.number_is j)) (in_root root shards r.p of_root r.there) in
              let w : WasRead i k r.p.base = read_of q.x q.there i k r.p.base (sym q.is.index_is ∙ r.index_is) at q.victim in
              let same : h ≡ surviving left w.was = reads_one has func (ShardIndex i k g) f.shard_index h (surviving left w.was) reads (fresh_reads i k r.p.base g at w fresh) in
              let l_was : Has w.was.snapshots l = of_filtered (λ (x : SnapList). names_uuid left x.uuid) w.was.snapshots l (subst (λ (v : ShardFiles). Has v.snapshots l) same m) in
              tidy.lists i k r.p.base at w.was w.reads l l_was z z_was e
        ] in
        let (y, y_there, name, id, mine) = deleted_kept root one uuids shards first apart own.x z.uuid own.there own.mine (left_unnamed uuids root.snapshots z z_left) in
        record { x = y; there = y_there; id = id ∙ own.id; mine = mine };
  }

-- ---- of a delete's settle

root_name : (safe m : ℕ) → safe ≡ suc m → Has (doomed_root safe) (Root m)
root_name zero m e = absurd (never e)
  where
    never : ◌≡◌ {A = ℕ} 0 (suc m) → ⊥
    never e = omega (arith, e)
root_name (suc n) m e = inl (ap Root (same e))
  where
    same : suc n ≡ suc m → n ≡ m
    same e = omega (arith, e)

module _ (f : Formats) (w : World) (shelf : List Shelved) (l : Law f w shelf) (k : ℕ) (s : SettlesDeletion f w k) (present : s.t.term ≡ w.term) (deletes : s.t.clean ≡ false) where
  dooms_are : dooms f s.t ≡ doomed_names f s.t.safe s.t.root (deleted_root s.t.root s.uuids (pruned_shards f s.t.clean s.t.root s.uuids s.t.read) s.t.first) s.uuids s.t.read
  dooms_are = dooms_is f s.t s.uuids s.s s.deleting.work deletes ∙ ap (λ (r : RootData). doomed_names f s.t.safe s.t.root r s.uuids s.t.read) (root_is f w shelf l k s present)

  root_same : s.t.root ≡ w.root
  root_same = (law f w shelf l k s present).root_is

  pub dooms_all : TidyRoot f (HeldIn f w) w.root → (name : BlobName) → Reached f (HeldIn f w) w.root name → (Reached f (HeldIn f w) s.s.root name → ⊥) → Has (dooms f s.t) name
  dooms_all tidy name reached unreached =
      let p = plan f w shelf l k s present in
      subst (λ (ns : List BlobName). Has ns name) (sym dooms_are)
      (all_doomed f (HeldIn f w) (held_one f w) s.t.safe s.t.clean s.t.root (once f w shelf l k s present) s.uuids s.t.read s.t.first (pruned f w shelf l k s present).held p.are_read p.of_root p.writable (written f w shelf l k s present)
      (subst (λ (r : RootData). TidyRoot f (HeldIn f w) r) (sym root_same) tidy) deletes name
      (subst (λ (r : RootData). Reached f (HeldIn f w) r name) (sym root_same) reached)
      (λ h. unreached (subst (λ (r : RootData). Reached f (HeldIn f w) r name) (sym (root_is f w shelf l k s present)) h)))

  pub dooms_root : (m : ℕ) → w.safe ≡ suc m → Has (dooms f s.t) (Root m)
  dooms_root m e =
      let new : RootData = deleted_root s.t.root s.uuids (pruned_shards f s.t.clean s.t.root s.uuids s.t.read) s.t.first in
      subst (λ (ns : List BlobName). Has ns (Root m)) (sym dooms_are)
      (of_the_root f s.t.safe s.t.root new s.uuids s.t.read (Root m) (root_name s.t.safe m ((pruned f w shelf l k s present).safe_is ∙ e)))
