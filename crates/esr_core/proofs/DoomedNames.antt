-- What a delete dooms: names that the old root reaches, and none that the new one does.
use Rattle.std.proofs.Common.{◌≡◌, ◌⊎◌, ℕ, suc, ◌+◌, Bool, true, false, List, [], ◌∷◌, map, Option, Some, refl, sym, ap, ◌∙◌, subst, inl, inr, arith}
use Rattle.std.specs.Prelude.{filter}
use Rattle.std.specs.List.{list_any}
use Rattle.std.proofs.lemmas.Bool.{cond-true, cond-false, cases_Bool}
use Rattle.std.proofs.lemmas.Option.{same_Some, none-some}
use Rattle.esr_model.specs.Names.{BlobName, Root, Snap, Meta, IndexMeta, ShardSnap, ShardIndex, File, Part}
use Rattle.esr_model.specs.Values.{Bytes, Has, RootSnap, RootIndex, RootData, FileEntry, SnapList, ShardFiles, ReadsBack, IsOneEach, Formats}
use Rattle.esr_model.specs.Shelf.{names_uuid}
use Rattle.esr_model.specs.Parts.{part_names}
use Rattle.esr_model.specs.Image.{IsOne, Reads, Generation, at_shard, at_shard_of}
use Rattle.esr_model.specs.Reach.{Reached, ReachSnap, ReachMeta, ReachIndexMeta, ReachIndex, ReachShardSnap, ReachPart}
use Rattle.esr_model.specs.Delete.{PrunedShard, left_snaps, left_uuids, left_root, uuids_of, lists_file, listed_lists, surviving, files_by, files_read, left_text, pruned_blobs, deleted_root, gone_shards, doomed_names}
use Rattle.esr_core.specs.Pruning.{AreOfRoot}
use Rattle.esr_model.specs.Lists.{Has-map}
use Rattle.esr_core.specs.Laws.OneValue.{reads_one}
use Rattle.esr_core.specs.Laws.PartNames.{in_parts}
use Rattle.esr_core.specs.Laws.DeleteRoots.{AreApart, one_found, index_was, renewed_index_was, deleted_snapshots, deleted_generations, has_names, names_has, bytes_same}
use Rattle.esr_core.specs.Laws.Tests.{clash}
use Rattle.esr_core.specs.Laws.DoomNames.{of_indices, IsDoomed, AList, AMeta, APart, ASnap, AnIndex, AnIndexMeta, TheRoot, doomed_is, uuid_of}
use Rattle.esr_core.proofs.DeletesHold.{fresh_is}
use Rattle.esr_core.specs.Laws.DeletePlans.{in_root, of_root_apart}
use Rattle.esr_core.proofs.Plans.{shard_reads}

-- ---- what isn't named is left, alone

pub left_unnamed : (uuids : List ℕ) (ss : List RootSnap) (s : RootSnap) → Has (left_snaps uuids ss) s → names_uuid uuids s.uuid ≡ false
left_unnamed uuids [] s m = absurd m
left_unnamed uuids (x ∷ ss) s m = elim (cases_Bool (names_uuid uuids x.uuid)) [
  | inl b ↦ left_unnamed uuids ss s (subst (λ (l : List RootSnap). Has l s) (cond-true _ _ _ b) m)
  | inr b ↦ elim (subst (λ (l : List RootSnap). Has l s) (cond-false _ _ _ b) m) [ inl e ↦ ap (λ (y : RootSnap). names_uuid uuids y.uuid) (sym e) ∙ b | inr later ↦ left_unnamed uuids ss s later ]
]

pub uuid_unnamed : (uuids us : List ℕ) (u : ℕ) → Has (left_uuids uuids us) u → names_uuid uuids u ≡ false
uuid_unnamed uuids [] u m = absurd m
uuid_unnamed uuids (v ∷ us) u m = elim (cases_Bool (names_uuid uuids v)) [
  | inl b ↦ uuid_unnamed uuids us u (subst (λ (l : List ℕ). Has l u) (cond-true _ _ _ b) m)
  | inr b ↦ elim (subst (λ (l : List ℕ). Has l u) (cond-false _ _ _ b) m) [ inl e ↦ ap (names_uuid uuids) (sym e) ∙ b | inr later ↦ uuid_unnamed uuids us u later ]
]

-- the uuids of the snapshots that are left are the uuids that are left
pub left_listed : (uuids : List ℕ) (ss : List RootSnap) → map (λ (s : RootSnap). s.uuid) (left_snaps uuids ss) ≡ left_uuids uuids (map (λ (s : RootSnap). s.uuid) ss)
left_listed uuids [] = refl
left_listed uuids (x ∷ ss) = elim (cases_Bool (names_uuid uuids x.uuid)) [
  | inl b ↦ ap (map (λ (s : RootSnap). s.uuid)) (cond-true _ _ _ b) ∙ left_listed uuids ss ∙ sym (cond-true _ _ _ b)
  | inr b ↦ ap (map (λ (s : RootSnap). s.uuid)) (cond-false _ _ _ b) ∙ ap (λ (us : List ℕ). x.uuid ∷ us) (left_listed uuids ss) ∙ sym (cond-false _ _ _ b)
]

-- ---- names of parts

file_or_part : {A : Type 0} (i k : ℕ) (e : FileEntry) (name : BlobName) → Has (part_names i k e) name → ((name ≡ File i k e.name) → A) → ((p : ℕ) → (name ≡ Part i k e.name p) → A) → A
file_or_part i k e name m one many = elim (in_parts i k e name m) [ inl h ↦ one h | inr h ↦ many h.0 h.1 ]

snap_file : {u i k x : ℕ} → Snap u ≡ File i k x → ⊥
snap_file e = cc

snap_part : {u i k x p : ℕ} → Snap u ≡ Part i k x p → ⊥
snap_part e = cc

meta_file : {u i k x : ℕ} → Meta u ≡ File i k x → ⊥
meta_file e = cc

meta_part : {u i k x p : ℕ} → Meta u ≡ Part i k x p → ⊥
meta_part e = cc

index_meta_file : {a u i k x : ℕ} → IndexMeta a u ≡ File i k x → ⊥
index_meta_file e = cc

index_meta_part : {a u i k x p : ℕ} → IndexMeta a u ≡ Part i k x p → ⊥
index_meta_part e = cc

index_file : {a b c i k x : ℕ} → ShardIndex a b c ≡ File i k x → ⊥
index_file e = cc

index_part : {a b c i k x p : ℕ} → ShardIndex a b c ≡ Part i k x p → ⊥
index_part e = cc

list_file : {a b c i k x : ℕ} → ShardSnap a b c ≡ File i k x → ⊥
list_file e = cc

list_part : {a b c i k x p : ℕ} → ShardSnap a b c ≡ Part i k x p → ⊥
list_part e = cc

root_file : {n i k x : ℕ} → Root n ≡ File i k x → ⊥
root_file e = cc

root_part : {n i k x p : ℕ} → Root n ≡ Part i k x p → ⊥
root_part e = cc

-- ---- what a root reaches, by the kind of the name

module _ (f : Formats) (has : BlobName → Bytes → Type 0) (root : RootData) where
  no_root : (n : ℕ) (name : BlobName) → Reached f has root name → name ≡ Root n → ⊥
  no_root n name (ReachPart i k g held x part gen reads listed m) e = file_or_part i k x part m (λ h. root_file (sym e ∙ h)) (λ p h. root_part (sym e ∙ h))
  no_root n name other e = cc

  snap_is : {a b : ℕ} → Snap a ≡ Snap b → a ≡ b
  snap_is e = cc

  reached_snap : (u : ℕ) (name : BlobName) → Reached f has root name → name ≡ Snap u → (s : RootSnap) × Has root.snapshots s × (s.uuid ≡ u)
  reached_snap u name (ReachSnap s there) e = (s, there, snap_is e)
  reached_snap u name (ReachPart i k g held x part gen reads listed m) e = absurd (file_or_part i k x part m (λ h. snap_file (sym e ∙ h)) (λ p h. snap_part (sym e ∙ h)))
  reached_snap u name other e = absurd (cc)

  meta_is : {a b : ℕ} → Meta a ≡ Meta b → a ≡ b
  meta_is e = cc

  reached_meta : (u : ℕ) (name : BlobName) → Reached f has root name → name ≡ Meta u → (s : RootSnap) × Has root.snapshots s × (s.uuid ≡ u)
  reached_meta u name (ReachMeta s there) e = (s, there, meta_is e)
  reached_meta u name (ReachPart i k g held x part gen reads listed m) e = absurd (file_or_part i k x part m (λ h. meta_file (sym e ∙ h)) (λ p h. meta_part (sym e ∙ h)))
  reached_meta u name other e = absurd (cc)

  index_meta_is : {a b c d : ℕ} → IndexMeta a b ≡ IndexMeta c d → (a ≡ c) × (b ≡ d)
  index_meta_is e = (cc, cc)

  reached_index_meta : (i u : ℕ) (name : BlobName) → Reached f has root name → name ≡ IndexMeta i u → (x : RootIndex) × Has root.indices x × Has x.snapshots u
  reached_index_meta i u name (ReachIndexMeta x v there mine) e = (x, there, subst (Has x.snapshots) (index_meta_is e).1 mine)
  reached_index_meta i u name (ReachPart a k g held x part gen reads listed m) e = absurd (file_or_part a k x part m (λ h. index_meta_file (sym e ∙ h)) (λ p h. index_meta_part (sym e ∙ h)))
  reached_index_meta i u name other e = absurd (cc)

  index_is : {a b c i k g : ℕ} → ShardIndex a b c ≡ ShardIndex i k g → (a ≡ i) × (b ≡ k) × (c ≡ g)
  index_is e = (cc, cc, cc)

  reached_index : (i k g : ℕ) (name : BlobName) → Reached f has root name → name ≡ ShardIndex i k g → Generation root i k g
  reached_index i k g name (ReachIndex a b c gen) e = let same = index_is e in subst (λ (x : ℕ × ℕ × ℕ). Generation root x.0 x.1 x.2) (λ j. (same.0 j, same.1 j, same.2 j)) gen
  reached_index i k g name (ReachPart a b c held x part gen reads listed m) e = absurd (file_or_part a b x part m (λ h. index_file (sym e ∙ h)) (λ p h. index_part (sym e ∙ h)))
  reached_index i k g name other e = absurd (cc)

  list_is : {a b c i k u : ℕ} → ShardSnap a b c ≡ ShardSnap i k u → (a ≡ i) × (b ≡ k) × (c ≡ u)
  list_is e = (cc, cc, cc)

  -- the snapshot of a shard: the root lists the snapshot, and gives the shard a generation
  reached_list : (i k u : ℕ) (name : BlobName) → Reached f has root name → name ≡ ShardSnap i k u → (s : RootSnap) × Has root.snapshots s × (s.uuid ≡ u) × (g : ℕ) × Generation root i k g
  reached_list i k u name (ReachShardSnap a b c s held l gen reads listed there same) e =
      let is = list_is e in
      (s, there, is.2, c, subst (λ (x : ℕ × ℕ). Generation root x.0 x.1 c) (λ j. (is.0 j, is.1 j)) gen)
  reached_list i k u name (ReachPart a b c held x part gen reads listed m) e = absurd (file_or_part a b x part m (λ h. list_file (sym e ∙ h)) (λ p h. list_part (sym e ∙ h)))
  reached_list i k u name other e = absurd (cc)

  -- a part of a file of this id in this shard: the index of the shard reads, and has such a file
  pub record ReachesFile (i k x : ℕ) : Type 0 where
    pub g : ℕ
    pub gen : Generation root i k g
    pub held : ShardFiles
    pub reads : Reads has (ShardIndex i k g) f.shard_index held
    pub e : FileEntry
    pub listed : Has held.files e
    pub id_is : e.name ≡ x

  file_is : {a b c i k x : ℕ} → File a b c ≡ File i k x → (a ≡ i) × (b ≡ k) × (c ≡ x)
  file_is e = (cc, cc, cc)

  part_is : {a b c p i k x q : ℕ} → Part a b c p ≡ Part i k x q → (a ≡ i) × (b ≡ k) × (c ≡ x)
  part_is e = (cc, cc, cc)

  file_no_part : {a b c p i k x : ℕ} → File i k x ≡ Part a b c p → ⊥
  file_no_part e = cc

  by_file : (i k x : ℕ) (a b g : ℕ) (held : ShardFiles) (e : FileEntry) → Generation root a b g → Reads has (ShardIndex a b g) f.shard_index held → Has held.files e → a ≡ i → b ≡ k → e.name ≡ x → ReachesFile i k x
  by_file i k x a b g held e gen reads listed ai bk ex =
      record {
        g = g;
        gen = subst (λ (y : ℕ × ℕ). Generation root y.0 y.1 g) (λ j. (ai j, bk j)) gen;
        held = held;
        reads = subst (λ (y : ℕ × ℕ). Reads has (ShardIndex y.0 y.1 g) f.shard_index held) (λ j. (ai j, bk j)) reads;
        e = e;
        listed = listed;
        id_is = ex;
      }

  reached_file : (i k x : ℕ) (name : BlobName) → Reached f has root name → name ≡ File i k x → ReachesFile i k x
  reached_file i k x name (ReachSnap s there) e = absurd (snap_file e)
  reached_file i k x name (ReachMeta s there) e = absurd (meta_file e)
  reached_file i k x name (ReachIndexMeta y v there mine) e = absurd (index_meta_file e)
  reached_file i k x name (ReachIndex a b c gen) e = absurd (index_file e)
  reached_file i k x name (ReachShardSnap a b c s held l gen reads listed there same) e = absurd (list_file e)
  reached_file i k x name (ReachPart a b c held y part gen reads listed m) e =
      file_or_part a b y part m (λ h. let is = file_is (sym h ∙ e) in by_file i k x a b c held y gen reads listed is.0 is.1 is.2) (λ p h. absurd (file_no_part (sym e ∙ h)))

  reached_part : (i k x p : ℕ) (name : BlobName) → Reached f has root name → name ≡ Part i k x p → ReachesFile i k x
  reached_part i k x p name (ReachSnap s there) e = absurd (snap_part e)
  reached_part i k x p name (ReachMeta s there) e = absurd (meta_part e)
  reached_part i k x p name (ReachIndexMeta y v there mine) e = absurd (index_meta_part e)
  reached_part i k x p name (ReachIndex a b c gen) e = absurd (index_part e)
  reached_part i k x p name (ReachShardSnap a b c s held l gen reads listed there same) e = absurd (list_part e)
  reached_part i k x p name (ReachPart a b c held y part gen reads listed m) e =
      file_or_part a b y part m (λ h. absurd (file_no_part (sym h ∙ e))) (λ q h. let is = part_is (sym h ∙ e) in by_file i k x a b c held y gen reads listed is.0 is.1 is.2)

  -- any name of a part
  reached_parts : (i k : ℕ) (y : FileEntry) (name : BlobName) → Has (part_names i k y) name → Reached f has root name → ReachesFile i k y.name
  reached_parts i k y name m r = file_or_part i k y name m (λ h. reached_file i k y.name name r h) (λ p h. reached_part i k y.name p name r h)

-- ---- what is doomed

-- a filter keeps what passes alone
pub passed : {A : Type 0} (test : A → Bool) (xs : List A) (x : A) → Has (filter test xs) x → test x ≡ true
passed {A} test [] x m = absurd m
passed {A} test (y ∷ ys) x m = elim (cases_Bool (test y)) [
  | inl b ↦ elim (subst (λ (l : List A). Has l x) (cond-true _ _ _ b) m) [ inl same ↦ ap test (sym same) ∙ b | inr later ↦ passed test ys x later ]
  | inr b ↦ passed test ys x (subst (λ (l : List A). Has l x) (cond-false _ _ _ b) m)
]

-- two files of one id are listed alike
listed_alike : (lists : List SnapList) (a b : FileEntry) → a.name ≡ b.name → lists_file lists a ≡ lists_file lists b
listed_alike lists a b e = ap (λ (n : ℕ). list_any (λ (l : SnapList). names_uuid l.files n) lists) e

module _ (f : Formats) (has : BlobName → Bytes → Type 0) (func : IsOne has) (safe : ℕ) (root : RootData) (one : IsOneEach root.indices) (uuids : List ℕ) (read : List (BlobName × Bytes)) (first : ℕ) (shards : List PrunedShard)
    (held : (name : BlobName) (bytes : Bytes) → Has read (name, bytes) → has name bytes) (of_root : AreOfRoot root shards)
    (writable : (p : PrunedShard) (was : ShardFiles) → Has shards p → files_read f read p ≡ Some was → ReadsBack f.shard_index (surviving (left_uuids uuids (uuids_of root)) was))
    (written : (name : BlobName) (bytes : Bytes) → Has (pruned_blobs f read (left_uuids uuids (uuids_of root)) first shards) (name, bytes) → has name bytes) where
  apart : AreApart shards
  apart = of_root_apart root shards of_root

  new_snapshots : (deleted_root root uuids shards first).snapshots ≡ left_snaps uuids root.snapshots
  new_snapshots = deleted_snapshots root one uuids shards first apart

  new_listed : uuids_of (deleted_root root uuids shards first) ≡ left_uuids uuids (uuids_of root)
  new_listed = ap (map (λ (s : RootSnap). s.uuid)) new_snapshots ∙ left_listed uuids root.snapshots

  snap_unnamed : (s : RootSnap) → Has (deleted_root root uuids shards first).snapshots s → names_uuid uuids s.uuid ≡ false
  snap_unnamed s m = left_unnamed uuids root.snapshots s (subst (λ (ss : List RootSnap). Has ss s) new_snapshots m)

  index_unnamed : (y : RootIndex) (u : ℕ) → Has (deleted_root root uuids shards first).indices y → Has y.snapshots u → names_uuid uuids u ≡ false
  unfolding deleted_root
  index_unnamed y u m mine =
      let (z, there, alike) = renewed_index_was shards first (left_root root uuids) y m in
      let (x, old, z_is) = index_was uuids root.indices z there in
      let snaps : y.snapshots ≡ left_uuids uuids x.snapshots = sym alike.snapshots ∙ ap (λ (i : RootIndex). i.snapshots) z_is in
      uuid_unnamed uuids x.snapshots u (subst (λ (us : List ℕ). Has us u) snaps mine)

  -- of a shard that is gone
  was_of : (p : PrunedShard) → Has (gone_shards (deleted_root root uuids shards first) root.indices) p → Generation root p.index p.number p.base
  was_of p gone =
      let (x, there, h) = of_indices (deleted_root root uuids shards first) root.indices p gone in
      let first_place : 0 + h.place ≡ h.place = omega arith in
      let number : p.number ≡ h.place = h.number_is ∙ first_place in
      ap (λ (z : Option RootIndex). at_shard_of z p.number) (one_found root.indices one x there p.index (sym h.index_is)) ∙ ap (at_shard x.generations) number ∙ h.at

  gone_none : (p : PrunedShard) (g : ℕ) → Has (gone_shards (deleted_root root uuids shards first) root.indices) p → p.kept ≡ false → Generation (deleted_root root uuids shards first) p.index p.number g → ⊥
  gone_none p g gone kept gen = let (x, there, h) = of_indices (deleted_root root uuids shards first) root.indices p gone in none-some g (sym (h.none kept) ∙ gen)

  gone_other : (p : PrunedShard) → Has (gone_shards (deleted_root root uuids shards first) root.indices) p → p.kept ≡ true → Generation (deleted_root root uuids shards first) p.index p.number p.base → ⊥
  gone_other p gone kept gen = let (x, there, h) = of_indices (deleted_root root uuids shards first) root.indices p gone in h.other kept gen

  -- the new index of a shard that is gone, and what it has
  new_index : (p : PrunedShard) (was : ShardFiles) (g : ℕ) → Has (gone_shards (deleted_root root uuids shards first) root.indices) p → p.kept ≡ true → files_read f read p ≡ Some was
      → Generation (deleted_root root uuids shards first) p.index p.number g → Reads has (ShardIndex p.index p.number g) f.shard_index (surviving (left_uuids uuids (uuids_of root)) was)
  new_index p was g gone kept reads gen = elim (deleted_generations root one uuids shards first apart p.index p.number g gen) [
    | inl old ↦
        let same : g ≡ p.base = same_Some g p.base (sym old.1 ∙ was_of p gone) in
        absurd (gone_other p gone kept (subst (λ (n : ℕ). Generation (deleted_root root uuids shards first) p.index p.number n) same gen))
    | inr fresh ↦
        let r = fresh_is f read (left_uuids uuids (uuids_of root)) shards first p.index p.number g fresh in
        let at : Generation root p.index p.number r.p.base = subst (λ (y : ℕ × ℕ). Generation root y.0 y.1 r.p.base) (λ j. (r.index_is j, r.number_is j)) (in_root root shards r.p of_root r.there) in
        let base : r.p.base ≡ p.base = same_Some r.p.base p.base (sym at ∙ was_of p gone) in
        let its : files_read f read r.p ≡ Some was = ap (files_by f) (bytes_same read r.p p r.index_is r.number_is base) ∙ reads in
        let text : Has (pruned_blobs f read (left_uuids uuids (uuids_of root)) first shards) (ShardIndex p.index p.number g, f.shard_index.text (surviving (left_uuids uuids (uuids_of root)) was)) =
        subst (λ (o : Option ShardFiles). Has (pruned_blobs f read (left_uuids uuids (uuids_of root)) first shards) (ShardIndex p.index p.number g, left_text f (left_uuids uuids (uuids_of root)) o)) its r.own in
        record {
          bytes = f.shard_index.text (surviving (left_uuids uuids (uuids_of root)) was);
          there = written (ShardIndex p.index p.number g) (f.shard_index.text (surviving (left_uuids uuids (uuids_of root)) was)) text;
          reads = writable r.p was r.there its;
        }
  ]

  -- the old root reaches it, or it is the old root
  reached_by : (name : BlobName) → IsDoomed f safe root (deleted_root root uuids shards first) uuids read name → Reached f has root name ⊎ ((n : ℕ) × (name ≡ Root n) × (safe ≡ suc n))
  reached_by name (TheRoot n e) = inr (n, refl, e)
  reached_by name (ASnap s there named) = inl (ReachSnap s there)
  reached_by name (AMeta s there named) = inl (ReachMeta s there)
  reached_by name (AnIndexMeta x u there mine named) = inl (ReachIndexMeta x u there mine)
  reached_by name (AnIndex p gone) = inl (ReachIndex p.index p.number p.base (was_of p gone))
  reached_by name (AList p was l gone reads there listed left) =
      let (s, s_there, same) = uuid_of root.snapshots l.uuid (names_has (uuids_of root) l.uuid listed) in
      inl (subst (λ (u : ℕ). Reached f has root (ShardSnap p.index p.number u)) same
      (ReachShardSnap p.index p.number p.base s was l (was_of p gone) (shard_reads f has read held p was reads) there s_there (sym same)))
  reached_by name (APart p was e part gone reads there left m) = inl (ReachPart p.index p.number p.base was e part (was_of p gone) (shard_reads f has read held p was reads) there m)

  -- a part of a file that a shard lost is of no file that it has
  lost_part : (p : PrunedShard) (was : ShardFiles) (e : FileEntry) → Has (gone_shards (deleted_root root uuids shards first) root.indices) p → files_read f read p ≡ Some was
      → (p.kept ≡ true → lists_file (listed_lists (uuids_of (deleted_root root uuids shards first)) was.snapshots) e ≡ false) → ReachesFile f has (deleted_root root uuids shards first) p.index p.number e.name → ⊥
  lost_part p was e gone reads lost r = elim (cases_Bool p.kept) [
    | inr b ↦ gone_none p r.g gone b r.gen
    | inl b ↦
        let left : List ℕ = left_uuids uuids (uuids_of root) in
        let same : r.held ≡ surviving (left_uuids uuids (uuids_of root)) was =
        reads_one has func (ShardIndex p.index p.number r.g) f.shard_index r.held (surviving (left_uuids uuids (uuids_of root)) was) r.reads (new_index p was r.g gone b reads r.gen) in
        let there : Has (surviving (left_uuids uuids (uuids_of root)) was).files r.e = subst (λ (h : ShardFiles). Has h.files r.e) same r.listed in
        let listed : lists_file (listed_lists left was.snapshots) r.e ≡ true = passed (lists_file (listed_lists left was.snapshots)) was.files r.e there in
        let mine : lists_file (listed_lists left was.snapshots) e ≡ true = sym (listed_alike (listed_lists left was.snapshots) r.e e r.id_is) ∙ listed in
        let none : lists_file (listed_lists left was.snapshots) e ≡ false = ap (λ (us : List ℕ). lists_file (listed_lists us was.snapshots) e) (sym new_listed) ∙ lost b in
        clash (lists_file (listed_lists left was.snapshots) e) mine none
  ]

  -- the new root doesn't reach it
  aside_of : (name : BlobName) → IsDoomed f safe root (deleted_root root uuids shards first) uuids read name → Reached f has (deleted_root root uuids shards first) name → ⊥
  aside_of name (TheRoot n e) r = no_root f has (deleted_root root uuids shards first) n (Root n) r refl
  aside_of name (ASnap s there named) r =
      let (z, z_there, same) = reached_snap f has (deleted_root root uuids shards first) s.uuid (Snap s.uuid) r refl in
      clash (names_uuid uuids s.uuid) named (ap (names_uuid uuids) (sym same) ∙ snap_unnamed z z_there)
  aside_of name (AMeta s there named) r =
      let (z, z_there, same) = reached_meta f has (deleted_root root uuids shards first) s.uuid (Meta s.uuid) r refl in
      clash (names_uuid uuids s.uuid) named (ap (names_uuid uuids) (sym same) ∙ snap_unnamed z z_there)
  aside_of name (AnIndexMeta x u there mine named) r =
      let (y, y_there, has_it) = reached_index_meta f has (deleted_root root uuids shards first) x.id u (IndexMeta x.id u) r refl in
      clash (names_uuid uuids u) named (index_unnamed y u y_there has_it)
  aside_of name (AnIndex p gone) r =
      let gen = reached_index f has (deleted_root root uuids shards first) p.index p.number p.base (ShardIndex p.index p.number p.base) r refl in
      elim (cases_Bool p.kept) [ inl b ↦ gone_other p gone b gen | inr b ↦ gone_none p p.base gone b gen ]
  aside_of name (AList p was l gone reads there listed left) r =
      let (s, s_there, same, g, gen) = reached_list f has (deleted_root root uuids shards first) p.index p.number l.uuid (ShardSnap p.index p.number l.uuid) r refl in
      elim (cases_Bool p.kept) [
        | inr b ↦ gone_none p g gone b gen
        | inl b ↦
            let still : names_uuid (uuids_of (deleted_root root uuids shards first)) l.uuid ≡ true =
            has_names (uuids_of (deleted_root root uuids shards first)) l.uuid (subst (Has (uuids_of (deleted_root root uuids shards first))) same (Has-map (λ (x : RootSnap). x.uuid) (deleted_root root uuids shards first).snapshots s s_there)) in
            clash (names_uuid (uuids_of (deleted_root root uuids shards first)) l.uuid) still (left b)
      ]
  aside_of name (APart p was e part gone reads there left m) r = lost_part p was e gone reads left (reached_parts f has (deleted_root root uuids shards first) p.index p.number e part m r)

  pub doomed_reached : (name : BlobName) → Has (doomed_names f safe root (deleted_root root uuids shards first) uuids read) name → Reached f has root name ⊎ ((n : ℕ) × (name ≡ Root n) × (safe ≡ suc n))
  doomed_reached name m = reached_by name (doomed_is f safe root (deleted_root root uuids shards first) uuids read name m)

  pub doomed_aside : (name : BlobName) → Has (doomed_names f safe root (deleted_root root uuids shards first) uuids read) name → Reached f has (deleted_root root uuids shards first) name → ⊥
  doomed_aside name m r = aside_of name (doomed_is f safe root (deleted_root root uuids shards first) uuids read name m) r

  -- the one root among them is the old one
  pub doomed_root_is : (n : ℕ) → Has (doomed_names f safe root (deleted_root root uuids shards first) uuids read) (Root n) → safe ≡ suc n
  doomed_root_is n m = elim (doomed_reached (Root n) m) [
    | inl r ↦ absurd (no_root f has root n (Root n) r refl)
    | inr h ↦ h.2 ∙ ap suc (root_is (sym h.1))
  ]
    where
      root_is : {a b : ℕ} → Root a ≡ Root b → a ≡ b
      root_is e = cc
