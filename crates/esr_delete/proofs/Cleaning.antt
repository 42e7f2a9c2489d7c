-- What a cleanup dooms: the names that it listed and its root doesn't reach, by what is held of the shards after it.
use Rattle.std.proofs.Common.{◌≡◌, ◌↔◌, inl, inr, ℕ, suc, Bool, true, false, List, [], ◌∷◌, ◌++◌, map, flat_map, Option, Some, None, refl, sym, ap, ◌∙◌, subst}
use Rattle.std.specs.Prelude.{◌==◌, ◌&&◌, if◌then◌else◌, IsSome}
use Rattle.std.proofs.lemmas.Option.{same_Some, none-some}
use Rattle.std.proofs.lemmas.Bool.{cond-true, cond-false, cases_Bool}
use Rattle.esr_model.specs.Lists.{Has-mapped}
use Rattle.esr_names.specs.declared.blob.BlobName.{BlobName as CodeName}
use Rattle.esr_depot.specs.declared.listing.Listed.{Listed}
use Rattle.esr_model.specs.Names.{BlobName, Root, Latest, Snap, Meta, IndexMeta, ShardSnap, ShardIndex, File, Part, TestMaster, TestNode}
use Rattle.esr_model.specs.Values.{Bytes, Has, RootIndex, RootData, ShardFiles, IsOneEach, Formats}
use Rattle.esr_model.specs.Image.{IsOne, Reads, Generation, at_shard_of}
use Rattle.esr_model.specs.Reach.{Reached}
use Rattle.esr_model.specs.Delete.{PrunedShard, next_after, own_id, fresh_from, fresh_in, set_fresh, renewed, left_root, left_uuids, uuids_of, surviving, index_bytes, files_by, files_read, left_text, pruned_blobs, deleted_root}
use Rattle.esr_model.specs.Cleanup.{and_name, names_listed, reaches, unreached, cleaned_names}
use Rattle.esr_core.specs.World.{Ticket}
use Rattle.esr_core.specs.Pruning.{is_touched, bare_shard, AreOfRoot}
use Rattle.esr_core.specs.Laws.OneValue.{generation_index}
use Rattle.esr_core.specs.Laws.Tests.{pair_tells, clash, same_number}
use Rattle.esr_core.specs.Laws.DeleteRoots.{AreApart, one_found, left_one_each, deleted_generations}
use Rattle.esr_core.specs.Laws.DeletePlans.{in_root, of_root_apart}
use Rattle.esr_core.specs.Laws.CleanupReach.{IsHeldNow, IsReachedBy, reached_by, reaches_has}
use Rattle.esr_formats.specs.Formats.{formats}
use Rattle.esr_formats.specs.Names.{name_of, code_name, name_kind}
use Rattle.esr_reach.specs.Held.{HeldShard, held_at}
use Rattle.esr_reach.specs.Listing.{root_names}
use Rattle.esr_reach.specs.Names.{AreOnce}
use Rattle.esr_reach.specs.Reading.{HasEach, ReadsAsHeld}
use Rattle.esr_reach.specs.Reached.{names_reached, reached_names}
use Rattle.esr_dooming.specs.Unreached.{is_spared, name_piece, blob_piece, is_root, rest_piece, place_of, Renewed}
use Rattle.esr_desk.specs.Listing.{page_of}
use Rattle.esr_desk.specs.Start.{Start, formats_of}
use Rattle.esr_delete.specs.Planned.{IsDraft}
use Rattle.esr_delete.proofs.Indexing.{read_bare, left_of_draft}

-- ---- lists of names

bool_same : (a b : Bool) → (a ≡ true → b ≡ true) → (b ≡ true → a ≡ true) → a ≡ b
bool_same true b to from = sym (to refl)
bool_same false true to from = from refl
bool_same false false to from = refl

-- a name goes, or comes first
pick : {A : Type 0} (b : Bool) (x : A) (xs ys : List A) → xs ≡ ys → (if b then [] else x ∷ []) ++ xs ≡ (if b then ys else x ∷ ys)
pick true x xs ys same = same
pick {A} false x xs ys same = ap (λ (l : List A). x ∷ l) same

-- the set spares just the names that are reached
abbrev SparesReached : Formats → RootData → List (BlobName × Bytes) → (CodeName → Bool) → Type 0
SparesReached f root read has = (name : BlobName) → is_spared has name ≡ reaches f None root read name

name_named : (f : Formats) (root : RootData) (read : List (BlobName × Bytes)) (has : CodeName → Bool) → SparesReached f root read has → (o : Option BlobName) (pieces names : List BlobName) → pieces ≡ unreached f None root read names
    → name_piece has o ++ pieces ≡ unreached f None root read (and_name o names)
name_named f root read has spares None pieces names same = same
name_named f root read has spares (Some name) pieces names same =
    ap (λ (b : Bool). (if b then [] else name ∷ []) ++ pieces) (spares name) ∙ pick (reaches f None root read name) name pieces (unreached f None root read names) same

-- what is appended of the pages is what of them isn't reached
pages_named : (f : Formats) (root : RootData) (read : List (BlobName × Bytes)) (has : CodeName → Bool) (pages : List Listed) → f.names.read ≡ name_kind.read → SparesReached f root read has
    → flat_map (blob_piece has) pages ≡ unreached f None root read (names_listed f (page_of pages))
pages_named f root read has [] same spares = refl
pages_named f root read has (b ∷ pages) same spares =
    name_named f root read has spares (name_kind.read b.name) (flat_map (blob_piece has) pages) (names_listed f (page_of pages)) (pages_named f root read has pages same spares)
    ∙ ap (λ (r : Bytes → Option BlobName). unreached f None root read (and_name (r b.name) (names_listed f (page_of pages)))) (sym same)

kind_same : (s : Start) → (formats_of s).names.read ≡ name_kind.read
unfolding formats
kind_same s = refl

-- ---- its own root aside

still_reached : (f : Formats) (root : RootData) (read : List (BlobName × Bytes)) (n : ℕ) (name : BlobName) → reaches f None root read name ≡ true → reaches f (Some n) root read name ≡ true
still_reached f root read n (Root m) e = absurd (clash false e refl)
still_reached f root read n name e = e

root_apart : (f : Formats) (root : RootData) (read : List (BlobName × Bytes)) (n : ℕ) (name : BlobName) → reaches f None root read name ≡ false → reaches f (Some n) root read name ≡ is_root n name
root_apart f root read n (Root m) e = refl
root_apart f root read n Latest e = absurd (clash true refl e)
root_apart f root read n name e = e

rest_named : (f : Formats) (root : RootData) (read : List (BlobName × Bytes)) (n : ℕ) (names : List BlobName) → flat_map (rest_piece n) (unreached f None root read names) ≡ unreached f (Some n) root read names
rest_named f root read n [] = refl
rest_named f root read n (x ∷ names) =
    let most = unreached f None root read names in
    let rest = unreached f (Some n) root read names in
    elim (cases_Bool (reaches f None root read x)) [
      | inl b ↦
          ap (flat_map (rest_piece n)) (cond-true (reaches f None root read x) most (x ∷ most) b) ∙ rest_named f root read n names
          ∙ sym (cond-true (reaches f (Some n) root read x) rest (x ∷ rest) (still_reached f root read n x b))
      | inr b ↦
          ap (flat_map (rest_piece n)) (cond-false (reaches f None root read x) most (x ∷ most) b) ∙ pick (is_root n x) x (flat_map (rest_piece n) most) rest (rest_named f root read n names)
          ∙ ap (λ (own : Bool). if own then rest else x ∷ rest) (sym (root_apart f root read n x b))
    ]

-- ---- what a root reaches

-- a shard index is found among what was read and written
abbrev Found : List (BlobName × Bytes) → BlobName → Bytes → Type 0
Found read (ShardIndex i k g) bytes = index_bytes read (bare_shard i k g) ≡ Some bytes
Found read name bytes = ⊥

found_one : (read : List (BlobName × Bytes)) → IsOne (Found read)
found_one read (ShardIndex i k g) a b p q = same_Some a b (sym p ∙ q)
found_one read name a b p q = absurd p

reads_found : (f : Formats) (read : List (BlobName × Bytes)) (i k g : ℕ) (v : ShardFiles) → files_read f read (bare_shard i k g) ≡ Some v → Reads (Found read) (ShardIndex i k g) f.shard_index v
reads_found f read i k g v e = go (index_bytes read (bare_shard i k g)) refl e
  where
    go : (o : Option Bytes) → index_bytes read (bare_shard i k g) ≡ o → files_by f o ≡ Some v → Reads (Found read) (ShardIndex i k g) f.shard_index v
    go None is reads = absurd (none-some v reads)
    go (Some b) is reads = record { bytes = b; there = is; reads = reads }

-- of each shard of the root what is held was read or written under its generation
abbrev IsNow : Formats → RootData → List (BlobName × Bytes) → List HeldShard → Type 0
IsNow f root read now = (i k g : ℕ) → Generation root i k g → (v : ShardFiles) × (held_at now i k ≡ Some v) × (files_read f read (bare_shard i k g) ≡ Some v)

is_some : {A : Type 0} (o : Option A) (x : A) → o ≡ Some x → IsSome o
is_some {A} o x e = subst (λ (p : Option A). IsSome p) (sym e) refl

named : (z : BlobName) → name_of (code_name z) ≡ z
named (ShardSnap i k u) = refl
named z = refl

module _ (f : Formats) (root : RootData) (read : List (BlobName × Bytes)) (now : List HeldShard) (once : IsOneEach root.indices) (is : IsNow f root read now) where
  now_each : HasEach root now
  now_each i k g gen = let (v, at, e) = is i k g gen in is_some (held_at now i k) v at

  reads_now : ReadsAsHeld f (Found read) root now
  reads_now i k g files gen at = let (v, own, e) = is i k g gen in reads_found f read i k g files (e ∙ sym own ∙ at)

  held_now : IsHeldNow f (Found read) root read
  held_now i k g gen = let (v, own, e) = is i k g gen in (v, e, reads_found f read i k g v e)

  module _ (has : CodeName → Bool) (set : (name : CodeName) → (has name ≡ true) ↔ Has (root_names root now) (name_of name)) where
    by_set : (name : BlobName) → (name ≡ Latest → ⊥) → has (code_name name) ≡ reaches f None root read name
    by_set name other = bool_same (has (code_name name)) (reaches f None root read name)
        (λ h. reaches_has f (Found read) root None read held_now (found_one read) name
        (names_reached f (Found read) root now once now_each reads_now name (subst (Has (root_names root now)) (named name) ((set (code_name name)).0 h))))
        (λ h. (set (code_name name)).1
        (subst (Has (root_names root now)) (sym (named name)) (reached_names f (Found read) root now once now_each reads_now (found_one read) name (of_reached (reached_by f (Found read) root None read held_now name h)))))
      where
        of_reached : IsReachedBy f (Found read) root None name → Reached f (Found read) root name
        of_reached (inl latest) = absurd (other latest)
        of_reached (inr (inl own)) = absurd (none-some own.0 own.1)
        of_reached (inr (inr reached)) = reached

    spares : SparesReached f root read has
    spares Latest = refl
    spares (Root n) = by_set (Root n) (λ e. cc)
    spares (Snap u) = by_set (Snap u) (λ e. cc)
    spares (Meta u) = by_set (Meta u) (λ e. cc)
    spares (IndexMeta i u) = by_set (IndexMeta i u) (λ e. cc)
    spares (ShardSnap i k u) = by_set (ShardSnap i k u) (λ e. cc)
    spares (ShardIndex i k g) = by_set (ShardIndex i k g) (λ e. cc)
    spares (File i k x) = by_set (File i k x) (λ e. cc)
    spares (Part i k x p) = by_set (Part i k x p) (λ e. cc)
    spares (TestMaster v) = by_set (TestMaster v) (λ e. cc)
    spares (TestNode v w) = by_set (TestNode v w) (λ e. cc)

-- ---- the indices of the new root

fresh_one_each : (i k : ℕ) (to : Option ℕ) (xs : List RootIndex) → IsOneEach xs → IsOneEach (map (fresh_in i k to) xs)
fresh_one_each i k to xs one a b p q same =
    let (x, x_there, a_is) = Has-mapped (fresh_in i k to) xs a p in
    let (y, y_there, b_is) = Has-mapped (fresh_in i k to) xs b q in
    let ids : x.id ≡ y.id = ap (λ (z : RootIndex). z.id) a_is ∙ same ∙ sym (ap (λ (z : RootIndex). z.id) b_is) in
    sym a_is ∙ ap (fresh_in i k to) (one x y x_there y_there ids) ∙ b_is

renewed_one_each : (shards : List PrunedShard) (next : ℕ) (root : RootData) → IsOneEach root.indices → IsOneEach (renewed next shards root).indices
renewed_one_each [] next root one = one
renewed_one_each (p ∷ shards) next root one = renewed_one_each shards (next_after next p) (set_fresh p.index p.number (own_id next p) root) (fresh_one_each p.index p.number (own_id next p) root.indices one)

deleted_one_each : (root : RootData) → IsOneEach root.indices → (uuids : List ℕ) (shards : List PrunedShard) (first : ℕ) → IsOneEach (deleted_root root uuids shards first).indices
unfolding deleted_root
deleted_one_each root one uuids shards first = renewed_one_each shards first (left_root root uuids) (left_one_each uuids root.indices one)

-- ---- what is read and written of its shards

some_none : (x : Option ℕ) → ◌≡◌ {A = Option (Option ℕ)} (Some x) None → ⊥
some_none x e = cc

none_fresh : (x : ℕ) → ◌≡◌ {A = Option (Option ℕ)} None (Some (Some x)) → ⊥
none_fresh x e = cc

-- a shard that gets no new generation is none of those
fresh_apart : (shards : List PrunedShard) (next i k : ℕ) → fresh_from next shards i k ≡ None → (p : PrunedShard) → Has shards p → p.index ≡ i → p.number ≡ k → ⊥
fresh_apart [] next i k e p none same place = absurd none
fresh_apart (x ∷ shards) next i k e p m same place = elim (pair_tells x.index i x.number k) [
  | inl t ↦ some_none (own_id next x) (sym (cond-true _ _ _ t.0) ∙ e)
  | inr t ↦ elim m [
    | inl here ↦ t.1 (ap (λ (y : PrunedShard). y.index) here ∙ same) (ap (λ (y : PrunedShard). y.number) here ∙ place)
    | inr later ↦ fresh_apart shards (next_after next x) i k (sym (cond-false _ _ _ t.0) ∙ e) p later same place
  ]
]

module _ (f : Formats) (read : List (BlobName × Bytes)) (left : List ℕ) (rest : List (BlobName × Bytes)) where
  -- what was written of another shard is passed by
  written_past : (x : PrunedShard) (shards : List PrunedShard) (next i k g : ℕ) → ((x.index == i) && (x.number == k)) ≡ false
      → index_bytes (pruned_blobs f read left next (x ∷ shards) ++ rest) (bare_shard i k g) ≡ index_bytes (pruned_blobs f read left (next_after next x) shards ++ rest) (bare_shard i k g)
  written_past x shards next i k g other =
      let bare : PrunedShard = bare_shard i k g in
      let text : Bytes = left_text f left (files_read f read x) in
      let more : List (BlobName × Bytes) = pruned_blobs f read left (suc next) shards in
      let same : List (BlobName × Bytes) = pruned_blobs f read left next shards in
      let blobs : List (BlobName × Bytes) = (ShardIndex x.index x.number next, text) ∷ more in
      elim (cases_Bool x.kept) [
        | inl kept ↦
            ap (λ (l : List (BlobName × Bytes)). index_bytes (l ++ rest) bare) (cond-true x.kept blobs same kept)
            ∙ cond-false (((x.index == i) && (x.number == k)) && (next == g)) (Some text) (index_bytes (more ++ rest) bare) (ap (λ (b : Bool). b && (next == g)) other)
            ∙ ap (λ (n : ℕ). index_bytes (pruned_blobs f read left n shards ++ rest) bare) (sym (cond-true x.kept (suc next) next kept))
        | inr gone ↦
            ap (λ (l : List (BlobName × Bytes)). index_bytes (l ++ rest) bare) (cond-false x.kept blobs same gone)
            ∙ ap (λ (n : ℕ). index_bytes (pruned_blobs f read left n shards ++ rest) bare) (sym (cond-false x.kept (suc next) next gone))
      ]

  none_written : (shards : List PrunedShard) (next i k g : ℕ) → fresh_from next shards i k ≡ None → index_bytes (pruned_blobs f read left next shards ++ rest) (bare_shard i k g) ≡ index_bytes rest (bare_shard i k g)
  none_written [] next i k g e = refl
  none_written (x ∷ shards) next i k g e = elim (pair_tells x.index i x.number k) [
    | inl t ↦ absurd (some_none (own_id next x) (sym (cond-true _ _ _ t.0) ∙ e))
    | inr t ↦ written_past x shards next i k g t.0 ∙ none_written shards (next_after next x) i k g (sym (cond-false _ _ _ t.0) ∙ e)
  ]

  -- under a new generation what is left of its shard was written
  record IsWritten (shards : List PrunedShard) (next i k now : ℕ) : Type 0 where
    p : PrunedShard
    there : Has shards p
    index_is : p.index ≡ i
    number_is : p.number ≡ k
    kept : p.kept ≡ true
    bytes : index_bytes (pruned_blobs f read left next shards ++ rest) (bare_shard i k now) ≡ Some (left_text f left (files_read f read p))

  is_written : (shards : List PrunedShard) (next i k now : ℕ) → fresh_from next shards i k ≡ Some (Some now) → IsWritten shards next i k now
  is_written [] next i k now e = absurd (none_fresh now e)
  is_written (x ∷ shards) next i k now e = elim (pair_tells x.index i x.number k) [
    | inl t ↦
        let mine : own_id next x ≡ Some now = same_Some (own_id next x) (Some now) (sym (cond-true _ _ _ t.0) ∙ e) in
        elim (cases_Bool x.kept) [
          | inl kept ↦
              let same : next ≡ now = same_Some next now (sym (cond-true _ _ _ kept) ∙ mine) in
              let number : (next == now) ≡ true = ap (λ (m : ℕ). next == m) (sym same) ∙ same_number next in
              let text : Bytes = left_text f left (files_read f read x) in
              let more : List (BlobName × Bytes) = pruned_blobs f read left (suc next) shards in
              record {
                p = x;
                there = inl refl;
                index_is = t.1.0;
                number_is = t.1.1;
                kept = kept;
                bytes =
                    ap (λ (l : List (BlobName × Bytes)). index_bytes (l ++ rest) (bare_shard i k now)) (cond-true x.kept ((ShardIndex x.index x.number next, text) ∷ more) (pruned_blobs f read left next shards) kept)
                    ∙ cond-true (((x.index == i) && (x.number == k)) && (next == now)) (Some text) (index_bytes (more ++ rest) (bare_shard i k now)) (λ j. t.0 j && number j);
              }
          | inr gone ↦ absurd (none-some now (sym (cond-false _ _ _ gone) ∙ mine))
        ]
    | inr t ↦
        let r = is_written shards (next_after next x) i k now (sym (cond-false _ _ _ t.0) ∙ e) in
        record { p = r.p; there = inr r.there; index_is = r.index_is; number_is = r.number_is; kept = r.kept; bytes = written_past x shards next i k now t.0 ∙ r.bytes }
  ]

-- ---- the shards of a plan

apart_once : (shards : List PrunedShard) → AreApart shards → AreOnce (map place_of shards)
apart_once [] apart = tt
apart_once (p ∷ shards) apart = (
  λ has.
      let (q, there, same) = Has-mapped place_of shards (place_of p) has in
      apart.0 q there (sym (ap (λ (x : ℕ × ℕ). x.0) same)) (sym (ap (λ (x : ℕ × ℕ). x.1) same)),
  apart_once shards apart.1,
)

pub places_once : (root : RootData) (shards : List PrunedShard) → AreOfRoot root shards → AreOnce (map place_of shards)
places_once root shards are = apart_once shards (of_root_apart root shards are)

-- ---- after a cleanup

module _ (s : Start) (t : Ticket) (uuids : List ℕ) (held now : List HeldShard) (shards : List PrunedShard) (first : ℕ) (root : RootData)
    (d : IsDraft s t uuids held shards first root) (cleans : t.clean ≡ true) (after : Renewed held now shards (uuids_of root)) where
  abbrev f : Formats
  f = formats_of s

  abbrev left : List ℕ
  left = left_uuids uuids (uuids_of t.root)

  -- what it wrote of shards, and then what it read of them
  abbrev known : List (BlobName × Bytes) → List (BlobName × Bytes)
  known blobs = pruned_blobs f blobs left first shards ++ blobs

  -- it has read each shard of its root
  was_read : (i k g : ℕ) → Generation t.root i k g → (was : ShardFiles) × (files_read f d.blobs (bare_shard i k g) ≡ Some was)
  was_read i k g gen =
      let (x, there, id) = generation_index t.root i k g gen in
      d.are_read i k g (record {
        x = x;
        there = there;
        id = id;
        victim = ap (λ (c : Bool). is_touched c uuids x.snapshots) cleans;
        at = sym (ap (λ (z : Option RootIndex). at_shard_of z k) (one_found t.root.indices d.one_each x there i id)) ∙ gen;
      })

  new_is : IsNow f (deleted_root t.root uuids shards first) (known d.blobs) now
  new_is i k g gen = elim (deleted_generations t.root d.one_each uuids shards first (of_root_apart t.root shards d.of_root) i k g gen) [
    | inl old ↦
        let (was, e) = was_read i k g old.1 in (
          was,
          after.others i k (λ p there kept same place. fresh_apart shards first i k old.0 p there same place) ∙ d.are_held i k g old.1 ∙ e,
          ap (files_by f) (none_written f d.blobs left d.blobs shards first i k g old.0) ∙ e,
        )
    | inr fresh ↦
        let r = is_written f d.blobs left d.blobs shards first i k g fresh in
        let (was, at) = d.some_held r.p r.there in
        let its : files_read f d.blobs r.p ≡ Some was = read_bare f d.blobs r.p ∙ sym (d.are_held r.p.index r.p.number r.p.base (in_root t.root shards r.p d.of_root r.there)) ∙ at in
        let here : held_at now i k ≡ Some (surviving (uuids_of root) was) =
        subst (λ (x : ℕ × ℕ). held_at now x.0 x.1 ≡ Some (surviving (uuids_of root) was)) (λ j. (r.index_is j, r.number_is j)) (after.kept r.p was r.there r.kept at) in (
          surviving left was,
          here ∙ ap (λ (us : List ℕ). Some (surviving us was)) (left_of_draft s t uuids held shards first root d),
          ap (files_by f) r.bytes ∙ ap (λ (o : Option ShardFiles). f.shard_index.read (left_text f left o)) its ∙ d.writable r.p was r.there its,
        )
  ]

  own_is : IsNow f root (known d.blobs) now
  own_is = subst (λ (r : RootData). IsNow f r (known d.blobs) now) (sym d.root_is) new_is

  once : IsOneEach root.indices
  once = subst (λ (r : RootData). IsOneEach r.indices) (sym d.root_is) (deleted_one_each t.root d.one_each uuids shards first)

  pub each_now : HasEach root now
  each_now = now_each f root (known d.blobs) now once own_is

  -- what of the listed names isn't reached, its own root aside, is what it dooms
  pub names_doomed : (has : CodeName → Bool) → ((name : CodeName) → (has name ≡ true) ↔ Has (root_names root now) (name_of name)) → (pages : List Listed) (n : ℕ) (names rest : List CodeName)
      → map name_of names ≡ flat_map (blob_piece has) pages
      → map name_of rest ≡ flat_map (rest_piece n) (map name_of names) → s.tells ≡ true → map name_of rest ≡ cleaned_names f (Some n) root (pruned_blobs f t.read left first shards ++ t.read) (page_of pages)
  unfolding cleaned_names
  names_doomed has set pages n names rest found are tells =
      let listed = names_listed f (page_of pages) in
      are ∙ ap (flat_map (rest_piece n)) (found ∙ pages_named f root (known d.blobs) has pages (kind_same s) (spares f root (known d.blobs) now once own_is has set))
      ∙ rest_named f root (known d.blobs) n listed ∙ ap (λ (blobs : List (BlobName × Bytes)). unreached f (Some n) root (known blobs) listed) (sym (d.told tells))
