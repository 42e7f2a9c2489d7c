-- When the indices of shards stand.
use Rattle.std.proofs.Common.{◌≡◌, ◌<◌, ◌≤◌, ◌+◌, ◌-◌, ℕ, zero, suc, Bool, false, List, [], ◌∷◌, map, length, drop, get_or, arith, option_map, Option, Some, None, if◌then◌else◌, refl, sym, ap, ◌∙◌, subst, inl, inr, eq-eqb}
use Rattle.std.specs.List.{AllByRecursion, IsDistinct}
use Rattle.std.proofs.lemmas.Bool.{cases_lt, true≢false}
use Rattle.std.proofs.lemmas.List.{drop_more}
use Rattle.esr_names.specs.declared.ids.Id.{Id}
use Rattle.esr_root.specs.Generations.{generation_in}
use Rattle.esr_formats.specs.Ids.{number_of}
use Rattle.esr_model.specs.Parts.{part_names}
use Rattle.esr_model.specs.Places.{shelf_places}
use Rattle.std.proofs.lemmas.Bool.Decides.{eqb_tells}
use Rattle.esr_root.specs.Indices.{AreIndices, same_index}
use Rattle.esr_root.specs.declared.indices.RootIndex.{RootIndex as CodeIndex}
use Rattle.esr_formats.specs.Roots.{root_index_of}
use Rattle.esr_model.specs.Names.{BlobName, Root, Snap, ShardSnap, ShardIndex}
use Rattle.esr_model.specs.Values.{Bytes, Has, IndexRef, RootSnap, RootIndex, RootData, SnapInfo, FileEntry, ShardSnapshot, SnapList, ShardFiles, Formats, IsOneEach}
use Rattle.esr_model.specs.Shelf.{Shelved, ShelfShard}
use Rattle.esr_model.specs.Image.{AllPairs, IsOne, Reads, Generation, IndexStands, ShardStands, SnapStands, RootStands, Stands, Picked, FileStands, concat, index_at, at_shard, at_shard_of}
use Rattle.esr_model.specs.Lists.{Has-mapped, pairs_one}
use Rattle.esr_plain.specs.Exactly.{IsExactly}
use Rattle.esr_plain.specs.Joined.{IsStored}
use Rattle.esr_plain.specs.Listed.{HaveSnaps}
use Rattle.esr_plain.proofs.Blobs.{reads_one}
use Rattle.esr_plain.proofs.Loops.{pairs_has, pairs_each}

-- ---- the index of one shard

module _ (f : Formats) (has : BlobName → Bytes → Type 0) (root : RootData) (index shard generation : ℕ) where
  pub index_unread : ((v : ShardFiles) → Reads has (ShardIndex index shard generation) f.shard_index v → ⊥) → IndexStands f has root index shard generation → ⊥
  index_unread none s = none s.held s.held_reads

  pub index_above : IsOne has → (held : ShardFiles) → Reads has (ShardIndex index shard generation) f.shard_index held → (((l : SnapList) → Has held.snapshots l → l.uuid < generation) → ⊥)
      → IndexStands f has root index shard generation → ⊥
  index_above one held reads none s =
      none (subst (λ (v : ShardFiles). (l : SnapList) → Has v.snapshots l → l.uuid < generation) (reads_one has one (ShardIndex index shard generation) f.shard_index s.held held s.held_reads reads) s.below)

  pub index_with : (held : ShardFiles) (files : List (Bytes × Bytes)) → Reads has (ShardIndex index shard generation) f.shard_index held → ((l : SnapList) → Has held.snapshots l → l.uuid < generation)
      → HaveSnaps f has root index shard held.snapshots → AllPairs (IsStored f has index shard) held.files files → IndexStands f has root index shard generation
  index_with held files reads below snaps stored = record {
    held = held;
    held_reads = reads;
    files = λ e there. let one = pairs_has (IsStored f has index shard) held.files files stored e there in (one.0.1, one.1.1);
    snaps = λ l s there listed same. snaps l there s listed same;
    below = below;
  }

  pub index_lacks : IsOne has → (held : ShardFiles) → Reads has (ShardIndex index shard generation) f.shard_index held → (HaveSnaps f has root index shard held.snapshots → ⊥) → IndexStands f has root index shard generation → ⊥
  index_lacks one held reads none s =
      none
      (subst (λ (v : ShardFiles). HaveSnaps f has root index shard v.snapshots) (reads_one has one (ShardIndex index shard generation) f.shard_index s.held held s.held_reads reads) (λ l there snap listed same. s.snaps l snap there listed same))

  pub index_without : IsOne has → (held : ShardFiles) → Reads has (ShardIndex index shard generation) f.shard_index held → ((files : List (Bytes × Bytes)) → AllPairs (IsStored f has index shard) held.files files → ⊥)
      → IndexStands f has root index shard generation → ⊥
  index_without one held reads none s =
      let each : (e : FileEntry) → Has s.held.files e → (file : Bytes × Bytes) × IsStored f has index shard e file = (λ e there. let stands = s.files e there in ((e.physical, stands.0), (refl, stands.1))) in
      let files = pairs_each (IsStored f has index shard) s.held.files each in
      none files.0 (subst (λ (v : ShardFiles). AllPairs (IsStored f has index shard) v.files files.0) (reads_one has one (ShardIndex index shard generation) f.shard_index s.held held s.held_reads reads) files.1)

-- ---- the shards of an index, and of a root

abbrev pub ShardsStand : (f : Formats) → (BlobName → Bytes → Type 0) → RootData → RootIndex → Type 0
ShardsStand f has root x = (k g : ℕ) → at_shard x.generations k ≡ Some g → IndexStands f has root x.id k g

-- an index that is found is in the list
pub index_found : (xs : List RootIndex) (id : ℕ) (k g : ℕ) → at_shard_of (index_at xs id) k ≡ Some g → (x : RootIndex) × Has xs x × (x.id ≡ id) × (at_shard x.generations k ≡ Some g)
index_found [] id k g e = absurd (cc)
index_found (x ∷ xs) id k g e = elim (eqb_tells x.id id) [
  | inl same ↦ (x, inl refl, same.1, subst (λ (o : Option RootIndex). at_shard_of o k ≡ Some g) (ap (λ (b : Bool). if b then Some x else index_at xs id) same.0) e)
  | inr other ↦
      let later = index_found xs id k g (subst (λ (o : Option RootIndex). at_shard_of o k ≡ Some g) (ap (λ (b : Bool). if b then Some x else index_at xs id) other.0) e) in
      (later.0, inr later.1, later.2, later.3)
]

-- an index of a list that has each once is found
pub index_there : (xs : List RootIndex) → IsOneEach xs → (x : RootIndex) → Has xs x → index_at xs x.id ≡ Some x
index_there [] once x none = absurd none
index_there (y ∷ ys) once x has = elim (eqb_tells y.id x.id) [
  | inl same ↦ ap (λ (b : Bool). if b then Some y else index_at ys x.id) same.0 ∙ ap Some (once y x (inl refl) has same.1)
  | inr other ↦ ap (λ (b : Bool). if b then Some y else index_at ys x.id) other.0 ∙ elim has [
    | inl here ↦ absurd (other.1 (ap (λ (z : RootIndex). z.id) here))
    | inr later ↦ index_there ys (λ a b ha hb. once a b (inr ha) (inr hb)) x later
  ]
]

differ_later : (i : CodeIndex) (is : List CodeIndex) → AllByRecursion (λ j. same_index i j ≡ false) is → (j : CodeIndex) → Has is j → i.id.number ≡ j.id.number → ⊥
differ_later i [] apart j none same = none
differ_later i (k ∷ is) apart j (inl here) same = true≢false (sym (eq-eqb i.id.number j.id.number same) ∙ subst (λ (z : CodeIndex). same_index i z ≡ false) here apart.0)
differ_later i (k ∷ is) apart j (inr later) same = differ_later i is apart.1 j later same

once_codes : (is : List CodeIndex) → IsDistinct same_index is → (i j : CodeIndex) → Has is i → Has is j → i.id.number ≡ j.id.number → i ≡ j
unfolding IsDistinct
once_codes [] apart i j none hj same = absurd none
once_codes (k ∷ is) apart i j (inl hi) (inl hj) same = sym hi ∙ hj
once_codes (k ∷ is) apart i j (inl hi) (inr hj) same = absurd (differ_later k is apart.0 j hj (ap (λ (z : CodeIndex). z.id.number) hi ∙ same))
once_codes (k ∷ is) apart i j (inr hi) (inl hj) same = absurd (differ_later k is apart.0 i hi (ap (λ (z : CodeIndex). z.id.number) hj ∙ sym same))
once_codes (k ∷ is) apart i j (inr hi) (inr hj) same = once_codes is apart.1 i j hi hj same

-- the indices of a root have each id once
pub one_each : (is : List CodeIndex) → AreIndices is → IsOneEach (map root_index_of is)
one_each is rule x y has_x has_y same =
    let i = Has-mapped root_index_of is x has_x in
    let j = Has-mapped root_index_of is y has_y in
    let number : i.0.id.number ≡ j.0.id.number = ap (λ (z : RootIndex). z.id) i.2 ∙ same ∙ sym (ap (λ (z : RootIndex). z.id) j.2) in
    sym i.2 ∙ ap root_index_of (once_codes is rule.distinct i.0 j.0 i.1 j.1 number) ∙ j.2

pub by_index : (f : Formats) (has : BlobName → Bytes → Type 0) (root : RootData) → ((x : RootIndex) → Has root.indices x → ShardsStand f has root x) → (i k g : ℕ) → Generation root i k g → IndexStands f has root i k g
by_index f has root each i k g is =
    let found = index_found root.indices i k g is in
    subst (λ (n : ℕ). IndexStands f has root n k g) found.2 (each found.0 found.1 k g found.3)

pub to_index : (f : Formats) (has : BlobName → Bytes → Type 0) (root : RootData) → IsOneEach root.indices → ((i k g : ℕ) → Generation root i k g → IndexStands f has root i k g) → (x : RootIndex) → Has root.indices x
    → ShardsStand f has root x
to_index f has root once all x there k g is =
    all x.id k g (ap (λ (o : Option RootIndex). at_shard_of o k) (index_there root.indices once x there) ∙ is)

-- ---- a root

pub root_stands : (f : Formats) (has : BlobName → Bytes → Type 0) (root : RootData) → ((i k g : ℕ) → Generation root i k g → IndexStands f has root i k g)
    → (o : Option (List Shelved)) → IsExactly (AllPairs (SnapStands f has root) root.snapshots) o → IsExactly (RootStands f has root) o
root_stands f has root indices (Some shelf) snapshots = record { snapshots = snapshots; indices = indices }
root_stands f has root indices None none = λ shelf s. none shelf s.snapshots

pub whole_by : (f : Formats) (has : BlobName → Bytes → Type 0) → IsOne has → (n : ℕ) (root : RootData) → Reads has (Root n) f.root root → (o : Option (List Shelved)) → IsExactly (RootStands f has root) o
    → IsExactly (Stands f has n) o
whole_by f has one n root reads (Some shelf) stands = record { root = root; root_reads = reads; stands = stands }
whole_by f has one n root reads None none = λ shelf s. none shelf (subst (λ (r : RootData). RootStands f has r shelf) (reads_one has one (Root n) f.root s.root root s.root_reads reads) s.stands)

-- a root stands for one shelf
pub file_one : (f : Formats) (has : BlobName → Bytes → Type 0) → IsOne has → (index shard : ℕ) (e : FileEntry) (a b : Bytes) → FileStands f has index shard e a → FileStands f has index shard e b → a ≡ b
file_one f has one index shard e a b p q = sym p.joined ∙ ap concat (pairs_one has has one (part_names index shard e) p.parts q.parts p.there q.there) ∙ q.joined

shard_one : (f : Formats) (has : BlobName → Bytes → Type 0) → IsOne has → (root : RootData) (uuid : ℕ) (place : IndexRef × ℕ) (a b : ShelfShard) → ShardStands f has root uuid place a → ShardStands f has root uuid place b → a ≡ b
shard_one f has one root uuid place a b p q =
    let same : p.snap ≡ q.snap = reads_one has one (ShardSnap place.0.id place.1 uuid) f.shard_snap p.snap q.snap p.snap_reads q.snap_reads in
    let files : a.files ≡ b.files = pairs_one _ _ (λ e (x : Bytes × Bytes) (y : Bytes × Bytes) h k. λ i. ((sym h.0 ∙ k.0) i, file_one f has one place.0.id place.1 e x.1 y.1 h.1 k.1 i)) q.snap.files a.files b.files
    (subst (λ (s : ShardSnapshot). AllPairs (λ e file. (e.physical ≡ file.0) × FileStands f has place.0.id place.1 e file.1) s.files a.files) same p.files) q.files in
    λ i. record { index = (p.name_is ∙ sym q.name_is) i; number = (p.number_is ∙ sym q.number_is) i; files = files i }

snap_one : (f : Formats) (has : BlobName → Bytes → Type 0) → IsOne has → (root : RootData) (snap : RootSnap) (a b : Shelved) → SnapStands f has root snap a → SnapStands f has root snap b → a ≡ b
snap_one f has one root snap a b p q =
    let same : p.info ≡ q.info = reads_one has one (Snap snap.uuid) f.info p.info q.info p.info_reads q.info_reads in
    let shards : a.shards ≡ b.shards = pairs_one (ShardStands f has root snap.uuid) (ShardStands f has root snap.uuid) (shard_one f has one root snap.uuid) (shelf_places q.info.indices) a.shards b.shards
    (subst (λ (s : SnapInfo). AllPairs (ShardStands f has root snap.uuid) (shelf_places s.indices) a.shards) same p.shards) q.shards in
    λ i. record { name = (p.name_is ∙ sym q.name_is) i; uuid = (p.uuid_is ∙ sym q.uuid_is) i; shards = shards i }

pub stands_one : (f : Formats) (has : BlobName → Bytes → Type 0) → IsOne has → (n : ℕ) (a b : List Shelved) → Stands f has n a → Stands f has n b → a ≡ b
stands_one f has one n a b p q =
    let same : p.root ≡ q.root = reads_one has one (Root n) f.root p.root q.root p.root_reads q.root_reads in
    pairs_one (SnapStands f has q.root) (SnapStands f has q.root) (snap_one f has one q.root) q.root.snapshots a b
    (subst (λ (r : RootData). AllPairs (SnapStands f has r) r.snapshots a) same p.stands.snapshots) q.stands.snapshots

-- the last of so many roots
pub picked_by : (f : Formats) (has : BlobName → Bytes → Type 0) (count : ℕ) → (count ≡ 0 → ⊥) → (o : Option (List Shelved)) → IsExactly (Stands f has (count - 1)) o → IsExactly (Picked f has count) o
picked_by f has zero some o exact = absurd (some refl)
picked_by f has (suc n) some o exact = let same : suc n - 1 ≡ n = omega arith in subst (λ (m : ℕ). IsExactly (Stands f has m) o) same exact

-- ---- by the places of generations

generation_number : (gs : List (Option Id)) (k : ℕ) → option_map number_of (generation_in gs k) ≡ at_shard (map (option_map number_of) gs) k
generation_number (g ∷ gs) (suc k) = generation_number gs k
generation_number gs k = refl

-- the generation is found at the first index of this id
pub generation_here : (is : List CodeIndex) (i : ℕ) (x : CodeIndex) (id k : ℕ) (g : Option Id) (all : Option ℕ) → i < length is → x ≡ get_or is i x → x.id.number ≡ id → g ≡ generation_in x.generations k
    → at_shard_of (index_at (map root_index_of (drop i is)) id) k ≡ all → option_map number_of g ≡ all
generation_here is i x id k g all less x_is same g_is so_far =
    let rest = drop (i + 1) is in
    let from : drop i is ≡ x ∷ rest = drop_more is i x less ∙ ap (λ (z : CodeIndex). z ∷ rest) (sym x_is) in
    ap (option_map number_of) g_is ∙ generation_number x.generations k
    ∙ sym (ap (λ (b : Bool). at_shard_of (if b then Some (root_index_of x) else index_at (map root_index_of rest) id) k) (eq-eqb x.id.number id same))
    ∙ sym (ap (λ (l : List CodeIndex). at_shard_of (index_at (map root_index_of l) id) k) from) ∙ so_far

at_read : {A : Type 0} (h : A → Option ℕ) (xs : List A) (k : ℕ) (d : A) → k < length xs → at_shard (map h xs) k ≡ h (get_or xs k d)
at_read h [] k d less = absurd (omega arith)
at_read h (x ∷ xs) zero d less = refl
at_read h (x ∷ xs) (suc k) d less = at_read h xs k d (omega arith)

at_within : {A : Type 0} (h : A → Option ℕ) (xs : List A) (k g : ℕ) → at_shard (map h xs) k ≡ Some g → k < length xs
at_within h [] k g is = absurd (cc)
at_within h (x ∷ xs) zero g is = omega arith
at_within h (x ∷ xs) (suc k) g is = let rest = at_within h xs k g is in omega arith

-- the index of a shard that has this generation, or none
abbrev pub PlaceStands : (f : Formats) → (BlobName → Bytes → Type 0) → RootData → ℕ → ℕ → Option ℕ → Type 0
PlaceStands f has root index shard o = (g : ℕ) → o ≡ Some g → IndexStands f has root index shard g

pub place_stands : (f : Formats) (has : BlobName → Bytes → Type 0) (root : RootData) (index shard g : ℕ) (o : Option ℕ) → o ≡ Some g → IndexStands f has root index shard g → PlaceStands f has root index shard o
place_stands f has root index shard g o is stands h some = let same : g ≡ h = cc in subst (λ (n : ℕ). IndexStands f has root index shard n) same stands

module _ {A : Type 0} (f : Formats) (has : BlobName → Bytes → Type 0) (root : RootData) (index : ℕ) (h : A → Option ℕ) (xs : List A) where
  pub place_of_all : (k : ℕ) (d : A) → k < length xs → ((j g : ℕ) → at_shard (map h xs) j ≡ Some g → IndexStands f has root index j g) → PlaceStands f has root index k (h (get_or xs k d))
  place_of_all k d less all g is = all k g (at_read h xs k d less ∙ is)

  pub places_more : (k : ℕ) (d : A) → k < length xs → ((j g : ℕ) → j < k → at_shard (map h xs) j ≡ Some g → IndexStands f has root index j g) → PlaceStands f has root index k (h (get_or xs k d))
      → (j g : ℕ) → j < k + 1 → at_shard (map h xs) j ≡ Some g → IndexStands f has root index j g
  places_more k d less each one j g below is = elim (cases_lt j k) [
    | inl before ↦ each j g before is
    | inr past ↦
        let same : k ≡ j = omega arith in
        subst (λ (n : ℕ). IndexStands f has root index n g) same (one g (sym (at_read h xs k d less) ∙ ap (at_shard (map h xs)) same ∙ is))
  ]

  pub places_all : (k : ℕ) → length xs ≤ k → ((j g : ℕ) → j < k → at_shard (map h xs) j ≡ Some g → IndexStands f has root index j g) → (j g : ℕ) → at_shard (map h xs) j ≡ Some g → IndexStands f has root index j g
  places_all k past each j g is = let within = at_within h xs j g is in each j g (omega arith) is
