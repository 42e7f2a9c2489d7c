-- A plan that follows from what was read makes of the root what a delete is to make of it.
use Rattle.std.proofs.Common.{◌≡◌, ◌⊎◌, ℕ, suc, ◌+◌, ◌<◌, ◌≤◌, Bool, true, false, List, [], ◌∷◌, ◌++◌, map, Option, Some, None, refl, sym, ap, ◌∙◌, subst, inl, inr, arith}
use Rattle.std.specs.Prelude.{filter, ◌==◌, ◌&&◌, if◌then◌else◌}
use Rattle.std.specs.List.{list_any}
use Rattle.std.proofs.lemmas.Bool.Decides.{eqb_tells}
use Rattle.std.proofs.lemmas.Option.{same_Some, none-some}
use Rattle.std.proofs.lemmas.Bool.{cond-true, cond-false, cases_Bool}
use Rattle.esr_core.specs.Laws.DeleteRoots.{has_names, names_has, bytes_same, one_found, uuid_left, AreApart, deleted_snapshots, deleted_generations}
use Rattle.esr_core.specs.Laws.Tests.{clash, any_of, pair_tells}
use Rattle.esr_model.specs.Names.{BlobName, ShardIndex}
use Rattle.esr_model.specs.Values.{Bytes, Has, RootSnap, RootIndex, RootData, FileEntry, SnapList, ShardFiles, ReadsBack, IsOneEach, Formats}
use Rattle.esr_model.specs.Shelf.{names_uuid}
use Rattle.esr_model.specs.Image.{IsOne, AllPairs, Reads, Lists, Generation, at_shard, at_shard_of}
use Rattle.esr_model.specs.Delete.{left_snaps, Prunes, Deletes, PrunedShard, next_after, own_id, fresh_from, left_uuids, uuids_of, lists_file, listed_lists, surviving, is_index, files_by, files_read, left_text, pruned_blobs, deleted_root}
use Rattle.esr_model.specs.Lists.{filter-Has}
use Rattle.esr_core.specs.Pruning.{is_left, is_victim, has_none, is_touched, bare_shard, pruned_shards, IsToRead}
use Rattle.esr_core.specs.Laws.OneValue.{reads_one}
use Rattle.esr_core.proofs.DeletedRoots.{deleted_from, deleted_kept, deleted_stays, deleted_now}
use Rattle.esr_core.specs.Laws.PruneShards.{IsOfRoot, of_indices}
use Rattle.esr_core.proofs.PrunedShards.{has_of_indices}

-- ---- uuids

-- those of one list or of another
names_first : (us vs : List ℕ) (u : ℕ) → names_uuid (us ++ vs) u ≡ false → (names_uuid us u ≡ false) × (names_uuid vs u ≡ false)
names_first [] vs u e = (refl, e)
names_first (x ∷ us) vs u e = elim (eqb_tells x u) [
  | inl t ↦ absurd (clash _ (cond-true _ _ _ t.0) e)
  | inr t ↦ let rest = names_first us vs u (sym (cond-false _ _ _ t.0) ∙ e) in (cond-false _ _ _ t.0 ∙ rest.0, rest.1)
]

pub names_same : (us vs : List ℕ) (u : ℕ) → names_uuid vs u ≡ false → names_uuid (us ++ vs) u ≡ names_uuid us u
names_same [] vs u e = e
names_same (x ∷ us) vs u e = elim (eqb_tells x u) [
  | inl t ↦ cond-true _ _ _ t.0 ∙ sym (cond-true _ _ _ t.0)
  | inr t ↦ cond-false _ _ _ t.0 ∙ names_same us vs u e ∙ sym (cond-false _ _ _ t.0)
]

-- ---- the snapshots that were read and aren't listed

abbrev unlisted_of : List ℕ → List SnapList → List ℕ
unlisted_of listed [] = []
unlisted_of listed (l ∷ lists) = if names_uuid listed l.uuid then unlisted_of listed lists else l.uuid ∷ unlisted_of listed lists

abbrev unlisted_by : List ℕ → Option ShardFiles → List ℕ
unlisted_by listed None = []
unlisted_by listed (Some was) = unlisted_of listed was.snapshots

abbrev pub unlisted_read : Formats → List ℕ → List (BlobName × Bytes) → List ℕ
unlisted_read f listed [] = []
unlisted_read f listed (blob ∷ read) = unlisted_by listed (f.shard_index.read blob.1) ++ unlisted_read f listed read

none_of : (listed : List ℕ) (lists : List SnapList) (u : ℕ) → names_uuid listed u ≡ true → names_uuid (unlisted_of listed lists) u ≡ false
none_of listed [] u e = refl
none_of listed (l ∷ lists) u e = elim (cases_Bool (names_uuid listed l.uuid)) [
  | inl b ↦ ap (λ (us : List ℕ). names_uuid us u) (cond-true _ _ _ b) ∙ none_of listed lists u e
  | inr b ↦ ap (λ (us : List ℕ). names_uuid us u) (cond-false _ _ _ b) ∙ elim (eqb_tells l.uuid u) [
    | inl t ↦ absurd (clash (names_uuid listed u) e (ap (names_uuid listed) (sym t.1) ∙ b))
    | inr t ↦ cond-false _ _ _ t.0 ∙ none_of listed lists u e
  ]
]

none_by : (listed : List ℕ) (o : Option ShardFiles) (u : ℕ) → names_uuid listed u ≡ true → names_uuid (unlisted_by listed o) u ≡ false
none_by listed None u e = refl
none_by listed (Some was) u e = none_of listed was.snapshots u e

pub none_both : (us vs : List ℕ) (u : ℕ) → names_uuid us u ≡ false → names_uuid vs u ≡ false → names_uuid (us ++ vs) u ≡ false
none_both us vs u a b = names_same us vs u b ∙ a

pub none_listed : (f : Formats) (listed : List ℕ) (read : List (BlobName × Bytes)) (u : ℕ) → names_uuid listed u ≡ true → names_uuid (unlisted_read f listed read) u ≡ false
none_listed f listed [] u e = refl
none_listed f listed (blob ∷ read) u e = none_both (unlisted_by listed (f.shard_index.read blob.1)) (unlisted_read f listed read) u (none_by listed (f.shard_index.read blob.1) u e) (none_listed f listed read u e)

some_of : (listed : List ℕ) (lists : List SnapList) (l : SnapList) → Has lists l → names_uuid (unlisted_of listed lists) l.uuid ≡ false → names_uuid listed l.uuid ≡ true
some_of listed [] l m e = absurd m
some_of listed (x ∷ lists) l m e = elim (cases_Bool (names_uuid listed x.uuid)) [
  | inl b ↦ elim m [
    | inl same ↦ ap (λ (y : SnapList). names_uuid listed y.uuid) (sym same) ∙ b
    | inr rest ↦ some_of listed lists l rest (ap (λ (us : List ℕ). names_uuid us l.uuid) (sym (cond-true _ _ _ b)) ∙ e)
  ]
  | inr b ↦
      let here : names_uuid (x.uuid ∷ unlisted_of listed lists) l.uuid ≡ false = ap (λ (us : List ℕ). names_uuid us l.uuid) (sym (cond-false _ _ _ b)) ∙ e in
      elim m [
        | inl same ↦ absurd (clash (names_uuid (x.uuid ∷ unlisted_of listed lists) l.uuid) (has_names (x.uuid ∷ unlisted_of listed lists) l.uuid (inl (ap (λ (y : SnapList). y.uuid) same))) here)
        | inr rest ↦ some_of listed lists l rest (names_first (x.uuid ∷ []) (unlisted_of listed lists) l.uuid here).1
      ]
]

-- a list that was read is of a listed snapshot, or its uuid is among these
list_read : (f : Formats) (listed : List ℕ) (read : List (BlobName × Bytes)) (p : PrunedShard) (was : ShardFiles) (l : SnapList) → files_read f read p ≡ Some was → Has was.snapshots l
    → names_uuid (unlisted_read f listed read) l.uuid ≡ false → names_uuid listed l.uuid ≡ true
list_read f listed [] p was l e m none = absurd (none-some was e)
list_read f listed (blob ∷ read) p was l e m none =
    let split = names_first (unlisted_by listed (f.shard_index.read blob.1)) (unlisted_read f listed read) l.uuid none in
    elim (cases_Bool (is_index p.index p.number p.base blob.0)) [
      | inl b ↦
          let here : f.shard_index.read blob.1 ≡ Some was = sym (ap (files_by f) (cond-true _ _ _ b)) ∙ e in
          some_of listed was.snapshots l m (ap (λ (o : Option ShardFiles). names_uuid (unlisted_by listed o) l.uuid) (sym here) ∙ split.0)
      | inr b ↦ list_read f listed read p was l (sym (ap (files_by f) (cond-false _ _ _ b)) ∙ e) m split.1
    ]

-- ---- members

was_filtered : {A : Type 0} (b : Bool) (y x : A) (ys rest : List A) → (Has rest x → Has ys x) → Has (if b then y ∷ rest else rest) x → Has (y ∷ ys) x
was_filtered true y x ys rest h (inl e) = inl e
was_filtered true y x ys rest h (inr m) = inr (h m)
was_filtered false y x ys rest h m = inr (h m)

pub of_filtered : {A : Type 0} (test : A → Bool) (xs : List A) (x : A) → Has (filter test xs) x → Has xs x
of_filtered test [] x m = absurd m
of_filtered test (y ∷ ys) x m = was_filtered (test y) y x ys (filter test ys) (of_filtered test ys x) m

-- ---- what is left of a shard

module _ (listed uuids unlisted : List ℕ) (was : ShardFiles) (known : (l : SnapList) → Has was.snapshots l → names_uuid unlisted l.uuid ≡ false → names_uuid listed l.uuid ≡ true) where
  abbrev left : List ℕ
  left = left_uuids uuids listed

  -- a list of a snapshot that isn't named is left
  pub list_left : (l : SnapList) → Has was.snapshots l → names_uuid (uuids ++ unlisted) l.uuid ≡ false → names_uuid left l.uuid ≡ true
  list_left l m e =
      let both = names_first uuids unlisted l.uuid e in
      has_names left l.uuid (uuid_left uuids listed l.uuid (names_has listed l.uuid (known l m both.1)) both.0)

  entries_left : (l : SnapList) → Has was.snapshots l → names_uuid left l.uuid ≡ true → (ids : List ℕ) (fs : List FileEntry) → ((id : ℕ) → Has ids id → Has l.files id)
      → AllPairs (λ id e. (e.name ≡ id) × Has was.files e) ids fs → AllPairs (λ id e. (e.name ≡ id) × Has (surviving left was).files e) ids fs
  entries_left l m mine [] [] within h = tt
  entries_left l m mine (id ∷ ids) (e ∷ fs) within h =
      let there : Has (listed_lists left was.snapshots) l = filter-Has (λ (x : SnapList). names_uuid left x.uuid) was.snapshots l m mine in
      let file : Has l.files e.name = subst (Has l.files) (sym h.0.0) (within id (inl refl)) in
      let test : lists_file (listed_lists left was.snapshots) e ≡ true = any_of (λ (x : SnapList). names_uuid x.files e.name) (listed_lists left was.snapshots) l there (has_names l.files e.name file) in
      ((h.0.0, filter-Has (lists_file (listed_lists left was.snapshots)) was.files e h.0.1 test), entries_left l m mine ids fs (λ x n. within x (inr n)) h.1)
  entries_left l m mine ids fs within h = h

  pub prunes_left : Prunes was (surviving left was) (uuids ++ unlisted)
  prunes_left = record {
    keeps = λ u fs lists stays.
        let same : names_uuid (uuids ++ unlisted) lists.list.uuid ≡ false = ap (names_uuid (uuids ++ unlisted)) lists.uuid_is ∙ stays in
        let mine = list_left lists.list lists.there same in
        record {
          list = lists.list;
          there = filter-Has (λ (x : SnapList). names_uuid left x.uuid) was.snapshots lists.list lists.there mine;
          uuid_is = lists.uuid_is;
          entries = entries_left lists.list lists.there mine lists.list.files fs (λ id n. n) lists.entries;
        };
    files_from = λ e m. of_filtered (lists_file (listed_lists left was.snapshots)) was.files e m;
    lists_from = λ l m. of_filtered (λ (x : SnapList). names_uuid left x.uuid) was.snapshots l m;
  }

-- ---- the ids of the plan

-- a shard of the plan has its own
pub fresh_has : (shards : List PrunedShard) (next : ℕ) (p : PrunedShard) → AreApart shards → Has shards p → (n : ℕ) × (fresh_from next shards p.index p.number ≡ Some (own_id n p))
fresh_has [] next p apart m = absurd m
fresh_has (q ∷ shards) next p apart (inl same) =
    let mine = pair_is q p same in
    (next, cond-true _ _ _ mine ∙ ap (λ (x : PrunedShard). Some (own_id next x)) same)
  where
    pair_is : (a b : PrunedShard) → a ≡ b → ((a.index == b.index) && (a.number == b.number)) ≡ true
    pair_is a b e = elim (pair_tells a.index b.index a.number b.number) [ inl t ↦ t.0 | inr t ↦ absurd (t.1 (ap (λ (x : PrunedShard). x.index) e) (ap (λ (x : PrunedShard). x.number) e)) ]
fresh_has (q ∷ shards) next p apart (inr m) =
    let rest = fresh_has shards (next_after next q) p apart.1 m in
    elim (pair_tells q.index p.index q.number p.number) [
      | inl t ↦ absurd (apart.0 p m t.1.0 t.1.1)
      | inr t ↦ (rest.0, cond-false _ _ _ t.0 ∙ rest.1)
    ]

-- a fresh generation is that of a shard of which something is left, and its blob is among the unit's
pub record IsFresh (f : Formats) (read : List (BlobName × Bytes)) (left : List ℕ) (next : ℕ) (shards : List PrunedShard) (i k now : ℕ) : Type 0 where
  pub p : PrunedShard
  pub there : Has shards p
  pub index_is : p.index ≡ i
  pub number_is : p.number ≡ k
  pub kept : p.kept ≡ true
  pub above : next ≤ now
  pub own : Has (pruned_blobs f read left next shards) (ShardIndex i k now, left_text f left (files_read f read p))

-- what is fresh of the later shards is fresh with one before them
fresh_later : (f : Formats) (read : List (BlobName × Bytes)) (left : List ℕ) (p : PrunedShard) (shards : List PrunedShard) (after next i k now : ℕ) (rest : IsFresh f read left after shards i k now) → next ≤ now
    → Has (pruned_blobs f read left next (p ∷ shards)) (ShardIndex i k now, left_text f left (files_read f read rest.p)) → IsFresh f read left next (p ∷ shards) i k now
fresh_later f read left p shards after next i k now rest above own = record { p = rest.p; there = inr rest.there; index_is = rest.index_is; number_is = rest.number_is; kept = rest.kept; above = above; own = own }

pub fresh_is : (f : Formats) (read : List (BlobName × Bytes)) (left : List ℕ) (shards : List PrunedShard) (next i k now : ℕ) → fresh_from next shards i k ≡ Some (Some now) → IsFresh f read left next shards i k now
fresh_is f read left [] next i k now e = absurd (never e)
  where
    never : ◌≡◌ {A = Option (Option ℕ)} None (Some (Some now)) → ⊥
    never e = cc
fresh_is f read left (p ∷ shards) next i k now e = elim (pair_tells p.index i p.number k) [
  | inl t ↦
      let mine : own_id next p ≡ Some now = same_Some (own_id next p) (Some now) (sym (cond-true _ _ _ t.0) ∙ e) in
      elim (cases_Bool p.kept) [
        | inl b ↦
            let is : next ≡ now = same_Some next now (sym (cond-true _ _ _ b) ∙ mine) in
            record {
              p = p;
              there = inl refl;
              index_is = t.1.0;
              number_is = t.1.1;
              kept = b;
              above = omega (arith, is);
              own = subst (λ (l : List (BlobName × Bytes)). Has l (ShardIndex i k now, left_text f left (files_read f read p))) (sym (cond-true _ _ _ b))
                  (inl (λ j. (ShardIndex (t.1.0 j) (t.1.1 j) (is j), left_text f left (files_read f read p))));
            }
        | inr b ↦ absurd (none-some now (sym (cond-false _ _ _ b) ∙ mine))
      ]
  | inr t ↦
      let rest = fresh_is f read left shards (next_after next p) i k now (sym (cond-false _ _ _ t.0) ∙ e) in
      elim (cases_Bool p.kept) [
        | inl b ↦
            let step : next_after next p ≡ suc next = cond-true _ _ _ b in
            fresh_later f read left p shards (next_after next p) next i k now rest (let le = rest.above in omega (arith, le, step))
            (subst (λ (l : List (BlobName × Bytes)). Has l (ShardIndex i k now, left_text f left (files_read f read rest.p))) (sym (cond-true _ _ _ b))
            (inr (subst (λ (n : ℕ). Has (pruned_blobs f read left n shards) (ShardIndex i k now, left_text f left (files_read f read rest.p))) step rest.own)))
        | inr b ↦
            let step : next_after next p ≡ next = cond-false _ _ _ b in
            fresh_later f read left p shards (next_after next p) next i k now rest (let le = rest.above in omega (arith, le, step))
            (subst (λ (l : List (BlobName × Bytes)). Has l (ShardIndex i k now, left_text f left (files_read f read rest.p))) (sym (cond-false _ _ _ b))
            (subst (λ (n : ℕ). Has (pruned_blobs f read left n shards) (ShardIndex i k now, left_text f left (files_read f read rest.p))) step rest.own))
      ]
]

-- ---- all of it

pub not_none : (us : List ℕ) (u : ℕ) → Has us u → has_none us ≡ false
not_none [] u m = absurd m
not_none (x ∷ us) u m = refl

pub uuid_listed : (ss : List RootSnap) (s : RootSnap) → Has ss s → Has (map (λ (x : RootSnap). x.uuid) ss) s.uuid
uuid_listed [] s m = absurd m
uuid_listed (x ∷ ss) s (inl e) = inl (ap (λ (y : RootSnap). y.uuid) e)
uuid_listed (x ∷ ss) s (inr m) = inr (uuid_listed ss s m)

-- uuids of none of the snapshots leave the same
pub snaps_same : (us vs : List ℕ) (ss : List RootSnap) → ((s : RootSnap) → Has ss s → names_uuid vs s.uuid ≡ false) → left_snaps (us ++ vs) ss ≡ left_snaps us ss
snaps_same us vs [] h = refl
snaps_same us vs (s ∷ ss) h =
    let one : names_uuid (us ++ vs) s.uuid ≡ names_uuid us s.uuid = names_same us vs s.uuid (h s (inl refl)) in
    let rest : left_snaps (us ++ vs) ss ≡ left_snaps us ss = snaps_same us vs ss (λ z m. h z (inr m)) in
    λ j. if one j then rest j else s ∷ rest j

-- no listed snapshot is among those that were read and aren't listed
pub none_of_listed : (f : Formats) (root : RootData) (read : List (BlobName × Bytes)) (s : RootSnap) → Has root.snapshots s → names_uuid (unlisted_read f (uuids_of root) read) s.uuid ≡ false
none_of_listed f root read s m = none_listed f (uuids_of root) read s.uuid (has_names (uuids_of root) s.uuid (uuid_listed root.snapshots s m))

-- what the two name of the listed snapshots is what the delete names
pub same_named : (f : Formats) (root : RootData) (uuids : List ℕ) (read : List (BlobName × Bytes)) (s : RootSnap) → Has root.snapshots s → names_uuid (uuids ++ unlisted_read f (uuids_of root) read) s.uuid ≡ names_uuid uuids s.uuid
same_named f root uuids read s m = names_same uuids (unlisted_read f (uuids_of root) read) s.uuid (none_of_listed f root read s m)

module _ (f : Formats) (has : BlobName → Bytes → Type 0) (func : IsOne has) (clean : Bool) (root : RootData) (one : IsOneEach root.indices) (uuids : List ℕ) (read : List (BlobName × Bytes)) (first : ℕ)
    (held : (i k g : ℕ) → IsToRead clean root uuids i k g → (was : ShardFiles) × (files_read f read (bare_shard i k g) ≡ Some was) × Reads has (ShardIndex i k g) f.shard_index was)
    (backs : (p : PrunedShard) (was : ShardFiles) → Has (pruned_shards f clean root uuids read) p → files_read f read p ≡ Some was → ReadsBack f.shard_index (surviving (left_uuids uuids (uuids_of root)) was))
    (below : (i k g : ℕ) → Generation root i k g → g < first) (apart : AreApart (pruned_shards f clean root uuids read)) where
  abbrev shards : List PrunedShard
  shards = pruned_shards f clean root uuids read

  abbrev pub unlisted : List ℕ
  unlisted = unlisted_read f (uuids_of root) read

  abbrev kept_ones : List ℕ
  kept_ones = left_uuids uuids (uuids_of root)

  of_root : (q : PrunedShard) → Has shards q → IsOfRoot f read clean uuids (uuids_of root) root.indices q
  of_root q m = of_indices f read clean uuids (uuids_of root) root.indices q m

  none_of_root : (s : RootSnap) → Has root.snapshots s → names_uuid unlisted s.uuid ≡ false
  none_of_root s m = none_of_listed f root read s m

  generation_in : (x : RootIndex) → Has root.indices x → (i k g : ℕ) → x.id ≡ i → Generation root i k g → at_shard x.generations k ≡ Some g
  generation_in x there i k g id gen = sym (ap (λ (z : Option RootIndex). at_shard_of z k) (one_found root.indices one x there i id)) ∙ gen

  same_index : (x y : RootIndex) → Has root.indices x → Has root.indices y → (i j : ℕ) → j ≡ x.id → i ≡ j → y.id ≡ i → x ≡ y
  same_index x y a b i j own at id = one x y a b (sym own ∙ sym at ∙ sym id)

  known_of : (i k g : ℕ) (was : ShardFiles) → files_read f read (bare_shard i k g) ≡ Some was → (l : SnapList) → Has was.snapshots l → names_uuid unlisted l.uuid ≡ false → names_uuid (uuids_of root) l.uuid ≡ true
  known_of i k g was e l m none = list_read f (uuids_of root) read (bare_shard i k g) was l e m none

  -- no shard of the plan is this one, in which no victim is listed
  no_other : (i k g : ℕ) (x : RootIndex) → Has root.indices x → x.id ≡ i → Generation root i k g → has_none (left_uuids uuids x.snapshots) ≡ false → (was : ShardFiles) → files_read f read (bare_shard i k g) ≡ Some was
      → list_any (is_victim clean uuids (uuids_of root)) was.snapshots ≡ false → (q : PrunedShard) → Has shards q → i ≡ q.index → k ≡ q.number → ⊥
  no_other i k g x there id gen stays was was_read none q m a b =
      let r = of_root q m in
      let h = r.is in
      let same : r.x ≡ x = same_index r.x x r.there there i q.index h.index_is a id in
      let first_place : 0 + h.place ≡ h.place = omega arith in
      let place : h.place ≡ k = sym first_place ∙ sym h.number_is ∙ sym b in
      let base : q.base ≡ g = same_Some q.base g (sym h.at ∙ (λ j. at_shard (same j).generations (place j)) ∙ generation_in x there i k g id gen) in
      let mine : h.was ≡ was = same_Some h.was was (sym h.reads ∙ (λ j. files_read f read (bare_shard ((ap (λ (z : RootIndex). z.id) same ∙ id) j) ((first_place ∙ place) j) (base j))) ∙ was_read) in
      elim h.pruned [
        | inl leaves ↦ clash (has_none (left_uuids uuids x.snapshots)) (ap (λ (z : RootIndex). has_none (left_uuids uuids z.snapshots)) (sym same) ∙ leaves.0) stays
        | inr victim ↦ clash (list_any (is_victim clean uuids (uuids_of root)) was.snapshots) (ap (λ (z : ShardFiles). list_any (is_victim clean uuids (uuids_of root)) z.snapshots) (sym mine) ∙ victim.1) none
      ]

  left_stands : (i k g u : ℕ) → Generation root i k g → (x : RootIndex) → Has root.indices x → x.id ≡ i → Has x.snapshots u
      → (h : ShardFiles) → Reads has (ShardIndex i k g) f.shard_index h → (fs : List FileEntry) → Lists h u fs → names_uuid (uuids ++ unlisted) u ≡ false
      → ((fresh_from first shards i k ≡ None) × Generation (deleted_root root uuids shards first) i k g) ⊎ ((now : ℕ) × (fresh_from first shards i k ≡ Some (Some now)) × Generation (deleted_root root uuids shards first) i k now)
  left_stands i k g u gen x there id mine h h_reads fs lists e =
      let named = (names_first uuids unlisted u e).0 in
      elim (cases_Bool (is_touched clean uuids x.snapshots)) [
        | inr none ↦
            inl (deleted_stays root one uuids shards first apart i k g gen x u there id mine named (λ q m a b.
            let r = of_root q m in
            let same : r.x ≡ x = same_index r.x x r.there there i q.index r.is.index_is a id in
            clash (is_touched clean uuids x.snapshots) (ap (λ (z : RootIndex). is_touched clean uuids z.snapshots) (sym same) ∙ r.victim) none))
        | inl some ↦
            let stays : has_none (left_uuids uuids x.snapshots) ≡ false = not_none (left_uuids uuids x.snapshots) u (uuid_left uuids x.snapshots u mine named) in
            let (was, was_read, was_has) = held i k g (record { x = x; there = there; id = id; victim = some; at = generation_in x there i k g id gen }) in
            let same : h ≡ was = reads_one has func (ShardIndex i k g) f.shard_index h was h_reads was_has in
            let listed_there : Has was.snapshots lists.list = subst (λ (z : ShardFiles). Has z.snapshots lists.list) same lists.there in
            elim (cases_Bool (list_any (is_victim clean uuids (uuids_of root)) was.snapshots)) [
              | inr none ↦ inl (deleted_stays root one uuids shards first apart i k g gen x u there id mine named (no_other i k g x there id gen stays was was_read none))
              | inl victim ↦
                  let p : PrunedShard = record { index = x.id; number = k; base = g; kept = list_any (is_left kept_ones) was.snapshots } in
                  let p_there : Has shards p =
                  has_of_indices f read clean uuids (uuids_of root) root.indices x there some stays k g was (generation_in x there i k g id gen) (ap (λ (n : ℕ). files_read f read (bare_shard n k g)) id ∙ was_read) victim in
                  let unnamed : names_uuid (uuids ++ unlisted) lists.list.uuid ≡ false = ap (names_uuid (uuids ++ unlisted)) lists.uuid_is ∙ e in
                  let stays_listed : list_any (is_left kept_ones) was.snapshots ≡ true =
                  any_of (is_left kept_ones) was.snapshots lists.list listed_there (list_left (uuids_of root) uuids unlisted was (known_of i k g was was_read) lists.list listed_there unnamed) in
                  let (now, fresh) = fresh_has shards first p apart p_there in
                  let own : fresh_from first shards i k ≡ Some (Some now) = ap (λ (n : ℕ). fresh_from first shards n k) (sym id) ∙ fresh ∙ ap (λ (o : Option ℕ). Some o) (cond-true _ _ _ stays_listed) in
                  inr (now, own, deleted_now root one uuids shards first apart i k g now gen x u there id mine named own)
            ]
      ]

  pruned_stands : (i k now : ℕ) → fresh_from first shards i k ≡ Some (Some now)
      → (g : ℕ) × (was : ShardFiles) × (new : ShardFiles) × Generation root i k g × Reads has (ShardIndex i k g) f.shard_index was × Has (pruned_blobs f read kept_ones first shards) (ShardIndex i k now, f.shard_index.text new)
      × ReadsBack f.shard_index new × Prunes was new (uuids ++ unlisted) × (g < now)
  pruned_stands i k now e =
      let r = fresh_is f read kept_ones shards first i k now e in
      let q = of_root r.p r.there in
      let h = q.is in
      let id : q.x.id ≡ i = sym h.index_is ∙ r.index_is in
      let first_place : 0 + h.place ≡ h.place = omega arith in
      let place : k ≡ h.place = sym r.number_is ∙ h.number_is ∙ first_place in
      let at : at_shard q.x.generations k ≡ Some r.p.base = ap (at_shard q.x.generations) place ∙ h.at in
      let gen : Generation root i k r.p.base = ap (λ (z : Option RootIndex). at_shard_of z k) (one_found root.indices one q.x q.there i id) ∙ at in
      let (was, was_read, was_has) = held i k r.p.base (record { x = q.x; there = q.there; id = id; victim = q.victim; at = at }) in
      let here : files_read f read r.p ≡ Some was = ap (files_by f) (bytes_same read r.p (bare_shard i k r.p.base) r.index_is r.number_is refl) ∙ was_read in
      let own : Has (pruned_blobs f read kept_ones first shards) (ShardIndex i k now, f.shard_index.text (surviving kept_ones was)) =
      subst (λ (o : Option ShardFiles). Has (pruned_blobs f read kept_ones first shards) (ShardIndex i k now, left_text f kept_ones o)) here r.own in
      let under : r.p.base < first = below i k r.p.base gen in
      let above : first ≤ now = r.above in
      (r.p.base, was, surviving kept_ones was, gen, was_has, own, backs r.p was r.there here, prunes_left (uuids_of root) uuids unlisted was (known_of i k r.p.base was was_read), omega (arith, under, above))

  pub deletes_hold : Deletes f has root (uuids ++ unlisted) (fresh_from first shards) (pruned_blobs f read kept_ones first shards) (deleted_root root uuids shards first)
  deletes_hold = record {
    snapshots = deleted_snapshots root one uuids shards first apart ∙ sym (snaps_same uuids unlisted root.snapshots none_of_root);
    from = deleted_from root one uuids shards first apart;
    kept = λ x u there mine e. deleted_kept root one uuids shards first apart x u there mine (names_first uuids unlisted u e).0;
    generations = deleted_generations root one uuids shards first apart;
    left = left_stands;
    pruned = pruned_stands;
  }
