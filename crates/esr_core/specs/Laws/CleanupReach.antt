-- What a cleanup dooms: what it listed and its new root doesn't reach.
use Rattle.std.proofs.Common.{◌≡◌, ◌⊎◌, ℕ, Bool, true, false, List, [], ◌∷◌, Option, Some, None, refl, sym, ap, ◌∙◌, subst, inl, inr}
use Rattle.std.specs.Prelude.{◌==◌, ◌&&◌, ◌||◌}
use Rattle.std.specs.List.{list_any}
use Rattle.std.proofs.lemmas.Bool.{eqb-true as number_is, and_from, cond-true, cond-false, cases_Bool, and_parts}
use Rattle.std.proofs.lemmas.Option.{same_Some}
use Rattle.esr_model.specs.Names.{BlobName, Root, Latest, Snap, Meta, IndexMeta, ShardSnap, ShardIndex, File, Part}
use Rattle.esr_model.specs.Values.{Bytes, Has, RootSnap, RootIndex, RootData, FileEntry, SnapList, ShardFiles, Formats}
use Rattle.esr_model.specs.Shelf.{names_uuid}
use Rattle.esr_model.specs.Parts.{part_names}
use Rattle.esr_model.specs.Image.{IsOne, Reads, Generation, index_at, at_shard_of}
use Rattle.esr_model.specs.Reach.{Reached, ReachSnap, ReachMeta, ReachIndexMeta, ReachIndex, ReachShardSnap, ReachPart}
use Rattle.esr_model.specs.Delete.{uuids_of, files_read}
use Rattle.esr_model.specs.Cleanup.{BlobSize, names_listed, held_by, held_of, lists_uuid, is_file, is_part, has_piece, is_generation, reaches, unreached, cleaned_names, and_name}
use Rattle.esr_core.specs.Pruning.{bare_shard}
use Rattle.esr_core.specs.Laws.DeleteRoots.{has_names, names_has}
use Rattle.esr_core.specs.Laws.DoomNames.{uuid_of}
use Rattle.esr_core.specs.Laws.OneValue.{reads_one}
use Rattle.esr_core.specs.Laws.PartNames.{in_parts}
use Rattle.esr_core.specs.Laws.Tests.{clash, any_of, same_number}
use Rattle.esr_model.specs.Lists.{Has-map}

-- ---- tests

-- some member passes
pub any_was : {A : Type 0} (test : A → Bool) (xs : List A) → list_any test xs ≡ true → (x : A) × Has xs x × (test x ≡ true)
any_was test [] e = absurd (clash false e refl)
any_was test (y ∷ ys) e = elim (cases_Bool (test y)) [
  | inl b ↦ (y, inl refl, b)
  | inr b ↦ let (x, there, h) = any_was test ys (sym (ap (λ (c : Bool). c || list_any test ys) b) ∙ e) in (x, inr there, h)
]

-- ---- what was read of an index

-- each index of the root reads, and was read so
abbrev pub IsHeldNow : Formats → (BlobName → Bytes → Type 0) → RootData → List (BlobName × Bytes) → Type 0
IsHeldNow f has root read = (i k g : ℕ) → Generation root i k g → (was : ShardFiles) × (files_read f read (bare_shard i k g) ≡ Some was) × Reads has (ShardIndex i k g) f.shard_index was

-- ---- what the root reaches

-- the root of this number reaches the name, or the name is its own, or `index.latest`
abbrev pub IsReachedBy : Formats → (BlobName → Bytes → Type 0) → RootData → Option ℕ → BlobName → Type 0
IsReachedBy f has root number name = (name ≡ Latest) ⊎ (((n : ℕ) × (number ≡ Some n) × (name ≡ Root n)) ⊎ Reached f has root name)

generation_told : (o : Option ℕ) (g : ℕ) → is_generation o g ≡ true → o ≡ Some g
generation_told None g e = absurd (clash false e refl)
generation_told (Some h) g e = ap (λ (n : ℕ). Some n) (number_is h g e)

file_told : (i k x : ℕ) (name : BlobName) → is_file i k x name ≡ true → name ≡ File i k x
file_told i k x (File a b c) e =
    let outer = and_parts ((a == i) && (b == k)) (c == x) e in
    let inner = and_parts (a == i) (b == k) outer.0 in
    λ j. File (number_is a i inner.0 j) (number_is b k inner.1 j) (number_is c x outer.1 j)
file_told i k x name e = absurd (clash false e refl)

part_told : (i k x p : ℕ) (name : BlobName) → is_part i k x p name ≡ true → name ≡ Part i k x p
part_told i k x p (Part a b c d) e =
    let outer = and_parts ((a == i) && (b == k)) ((c == x) && (d == p)) e in
    let inner = and_parts (a == i) (b == k) outer.0 in
    let last = and_parts (c == x) (d == p) outer.1 in
    λ j. Part (number_is a i inner.0 j) (number_is b k inner.1 j) (number_is c x last.0 j) (number_is d p last.1 j)
part_told i k x p name e = absurd (clash false e refl)

file_test : (i k x : ℕ) → is_file i k x (File i k x) ≡ true
file_test i k x = and_from ((i == i) && (k == k)) (x == x) (and_from (i == i) (k == k) (same_number i) (same_number k)) (same_number x)

part_test : (i k x p : ℕ) → is_part i k x p (Part i k x p) ≡ true
part_test i k x p =
    and_from ((i == i) && (k == k)) ((x == x) && (p == p)) (and_from (i == i) (k == k) (same_number i) (same_number k)) (and_from (x == x) (p == p) (same_number x) (same_number p))

module _ (f : Formats) (has : BlobName → Bytes → Type 0) (root : RootData) (number : Option ℕ) (read : List (BlobName × Bytes)) (held : IsHeldNow f has root read) where
  -- the index of a shard that is read, where one is
  record IsHeld (i k : ℕ) : Type 0 where
    g : ℕ
    gen : Generation root i k g
    was : ShardFiles
    is : held_of f root read i k ≡ Some was
    reads : Reads has (ShardIndex i k g) f.shard_index was

  held_or : (i k : ℕ) → (held_of f root read i k ≡ None) ⊎ IsHeld i k
  held_or i k = go (at_shard_of (index_at root.indices i) k) refl
    where
      go : (o : Option ℕ) → at_shard_of (index_at root.indices i) k ≡ o → (held_of f root read i k ≡ None) ⊎ IsHeld i k
      go None is = inl (ap (held_by f read i k) is)
      go (Some g) is = let (was, e, reads) = held i k g is in inr (record { g = g; gen = is; was = was; is = ap (held_by f read i k) is ∙ e; reads = reads })

  piece_of : (test : BlobName → Bool) (i k : ℕ) → has_piece test i k (held_of f root read i k) ≡ true → (name : BlobName) × (test name ≡ true) × Reached f has root name
  piece_of test i k e = elim (held_or i k) [
    | inl none ↦ absurd (clash false (sym (ap (has_piece test i k) none) ∙ e) refl)
    | inr h ↦
        let (x, x_there, passes) = any_was (λ (y : FileEntry). list_any test (part_names i k y)) h.was.files (sym (ap (has_piece test i k) h.is) ∙ e) in
        let (name, there, own) = any_was test (part_names i k x) passes in
        (name, own, ReachPart i k h.g h.was x name h.gen h.reads x_there there)
  ]

  pub reached_by : (name : BlobName) → reaches f number root read name ≡ true → IsReachedBy f has root number name
  reached_by (Root n) e = inr (inl (n, generation_told number n e, refl))
  reached_by Latest e = inl refl
  reached_by (Snap u) e = let (s, there, same) = uuid_of root.snapshots u (names_has (uuids_of root) u e) in inr (inr (subst (λ (v : ℕ). Reached f has root (Snap v)) same (ReachSnap s there)))
  reached_by (Meta u) e = let (s, there, same) = uuid_of root.snapshots u (names_has (uuids_of root) u e) in inr (inr (subst (λ (v : ℕ). Reached f has root (Meta v)) same (ReachMeta s there)))
  reached_by (IndexMeta i u) e =
      let (x, there, passes) = any_was (λ (y : RootIndex). (y.id == i) && names_uuid y.snapshots u) root.indices e in
      let two = and_parts (x.id == i) (names_uuid x.snapshots u) passes in
      inr (inr (subst (λ (v : ℕ). Reached f has root (IndexMeta v u)) (number_is x.id i two.0) (ReachIndexMeta x u there (names_has x.snapshots u two.1))))
  reached_by (ShardIndex i k g) e = inr (inr (ReachIndex i k g (generation_told (at_shard_of (index_at root.indices i) k) g e)))
  reached_by (ShardSnap i k u) e =
      let two = and_parts (names_uuid (uuids_of root) u) (lists_uuid (held_of f root read i k) u) e in
      let (s, there, same) = uuid_of root.snapshots u (names_has (uuids_of root) u two.0) in
      elim (held_or i k) [
        | inl none ↦ absurd (clash false (sym (ap (λ (o : Option ShardFiles). lists_uuid o u) none) ∙ two.1) refl)
        | inr h ↦
            let (l, l_there, passes) = any_was (λ (y : SnapList). y.uuid == u) h.was.snapshots (sym (ap (λ (o : Option ShardFiles). lists_uuid o u) h.is) ∙ two.1) in
            inr (inr (subst (λ (v : ℕ). Reached f has root (ShardSnap i k v)) same (ReachShardSnap i k h.g s h.was l h.gen h.reads l_there there (number_is l.uuid u passes ∙ sym same))))
      ]
  reached_by (File i k x) e = let (name, own, r) = piece_of (is_file i k x) i k e in inr (inr (subst (Reached f has root) (file_told i k x name own) r))
  reached_by (Part i k x p) e = let (name, own, r) = piece_of (is_part i k x p) i k e in inr (inr (subst (Reached f has root) (part_told i k x p name own) r))
  reached_by name e = absurd (clash false e refl)

  module _ (func : IsOne has) where
    -- an index that is there is the one that was read
    held_is : (i k g : ℕ) (h : ShardFiles) → Generation root i k g → Reads has (ShardIndex i k g) f.shard_index h → held_of f root read i k ≡ Some h
    held_is i k g h gen reads =
        let (was, e, its) = held i k g gen in
        ap (held_by f read i k) gen ∙ e ∙ ap (λ (x : ShardFiles). Some x) (reads_one has func (ShardIndex i k g) f.shard_index was h its reads)

    has_piece_of : (test : BlobName → Bool) (i k g : ℕ) (h : ShardFiles) (e : FileEntry) (name : BlobName) → Generation root i k g → Reads has (ShardIndex i k g) f.shard_index h → Has h.files e → Has (part_names i k e) name
        → test name ≡ true
        → has_piece test i k (held_of f root read i k) ≡ true
    has_piece_of test i k g h e name gen reads listed part own =
        ap (has_piece test i k) (held_is i k g h gen reads) ∙ any_of (λ (y : FileEntry). list_any test (part_names i k y)) h.files e listed (any_of test (part_names i k e) name part own)

    uuid_known : (s : RootSnap) → Has root.snapshots s → names_uuid (uuids_of root) s.uuid ≡ true
    uuid_known s there = has_names (uuids_of root) s.uuid (Has-map (λ (x : RootSnap). x.uuid) root.snapshots s there)

    pub reaches_has : (name : BlobName) → Reached f has root name → reaches f number root read name ≡ true
    reaches_has name (ReachSnap s there) = uuid_known s there
    reaches_has name (ReachMeta s there) = uuid_known s there
    reaches_has name (ReachIndexMeta x u there mine) = any_of (λ (y : RootIndex). (y.id == x.id) && names_uuid y.snapshots u) root.indices x there (and_from (x.id == x.id) (names_uuid x.snapshots u) (same_number x.id) (has_names x.snapshots u mine))
    reaches_has name (ReachIndex i k g gen) = ap (λ (o : Option ℕ). is_generation o g) gen ∙ same_number g
    reaches_has name (ReachShardSnap i k g s h l gen reads listed there same) =
        and_from (names_uuid (uuids_of root) s.uuid) (lists_uuid (held_of f root read i k) s.uuid) (uuid_known s there)
        (ap (λ (o : Option ShardFiles). lists_uuid o s.uuid) (held_is i k g h gen reads) ∙ any_of (λ (y : SnapList). y.uuid == s.uuid) h.snapshots l listed (ap (λ (n : ℕ). n == s.uuid) same ∙ same_number s.uuid))
    reaches_has name (ReachPart i k g h e part gen reads listed m) = elim (in_parts i k e part m) [
      | inl is ↦ ap (reaches f number root read) is ∙ has_piece_of (is_file i k e.name) i k g h e part gen reads listed m (ap (is_file i k e.name) is ∙ file_test i k e.name)
      | inr is ↦ ap (reaches f number root read) is.1 ∙ has_piece_of (is_part i k e.name is.0) i k g h e part gen reads listed m (ap (is_part i k e.name is.0) is.1 ∙ part_test i k e.name is.0)
    ]

-- ---- what is doomed

pub unreached_was : (f : Formats) (number : Option ℕ) (root : RootData) (read : List (BlobName × Bytes)) (names : List BlobName) (name : BlobName) → Has (unreached f number root read names) name
    → Has names name × (reaches f number root read name ≡ false)
unreached_was f number root read [] name m = absurd m
unreached_was f number root read (x ∷ names) name m = elim (cases_Bool (reaches f number root read x)) [
  | inl b ↦ let h = unreached_was f number root read names name (subst (λ (ns : List BlobName). Has ns name) (cond-true _ _ _ b) m) in (inr h.0, h.1)
  | inr b ↦ elim (subst (λ (ns : List BlobName). Has ns name) (cond-false _ _ _ b) m) [
    | inl same ↦ (inl same, ap (reaches f number root read) (sym same) ∙ b)
    | inr later ↦ let h = unreached_was f number root read names name later in (inr h.0, h.1)
  ]
]

pub cleaned_was : (f : Formats) (number : Option ℕ) (root : RootData) (read : List (BlobName × Bytes)) (listed : List BlobSize) (name : BlobName) → Has (cleaned_names f number root read listed) name
    → Has (names_listed f listed) name × (reaches f number root read name ≡ false)
unfolding cleaned_names
cleaned_was f number root read listed name m = unreached_was f number root read (names_listed f listed) name m

pub was_and : (o : Option BlobName) (names : List BlobName) (name : BlobName) → Has (and_name o names) name → (o ≡ Some name) ⊎ Has names name
was_and None names name m = inr m
was_and (Some x) names name (inl e) = inl (ap (λ (y : BlobName). Some y) e)
was_and (Some x) names name (inr m) = inr m

pub and_first : (o : Option BlobName) (names : List BlobName) (name : BlobName) → o ≡ Some name → Has (and_name o names) name
and_first None names name e = absurd (never e)
  where
    never : ◌≡◌ {A = Option BlobName} None (Some name) → ⊥
    never e = cc
and_first (Some x) names name e = inl (same_Some x name e)

pub and_later : (o : Option BlobName) (names : List BlobName) (name : BlobName) → Has names name → Has (and_name o names) name
and_later None names name m = m
and_later (Some x) names name m = inr m

-- each is that of a blob
pub listed_was : (f : Formats) (xs : List BlobSize) (name : BlobName) → Has (names_listed f xs) name → (b : BlobSize) × Has xs b × (f.names.read b.text ≡ Some name)
listed_was f [] name m = absurd m
listed_was f (b ∷ xs) name m = elim (was_and (f.names.read b.text) (names_listed f xs) name m) [
  | inl e ↦ (b, inl refl, e)
  | inr later ↦ let (c, there, e) = listed_was f xs name later in (c, inr there, e)
]
