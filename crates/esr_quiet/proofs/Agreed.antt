-- Of a root that agrees each blob that it reaches is there and reads, and no two disagree.
use Rattle.std.proofs.Common.{◌≡◌, ◌⊎◌, ℕ, ◌<◌, List, None, refl, sym, ap, ◌∙◌, subst, inl, inr}
use Rattle.std.specs.Prelude.{length}
use Rattle.std.specs.List.{concat}
use Rattle.esr_model.specs.Names.{BlobName, Root, Snap, Meta, IndexMeta, ShardSnap, ShardIndex}
use Rattle.esr_model.specs.Values.{Bytes, Has, IndexRef, RootSnap, RootData, SnapInfo, GlobalMeta, IndexMetadata, FileEntry, ShardSnapshot, ShardFiles, Kind, Formats}
use Rattle.esr_model.specs.Parts.{part_names}
use Rattle.esr_model.specs.Image.{IsOne, Reads, Lists, ListsAs, Generation, global_of}
use Rattle.esr_model.specs.Agreement.{Agrees, RootAgrees, IsListOf}
use Rattle.esr_model.specs.Reach.{Reached, ReachSnap, ReachMeta, ReachIndexMeta, ReachIndex, ReachShardSnap, ReachPart}
use Rattle.esr_core.specs.Laws.OneValue.{reads_one}
use Rattle.esr_core.specs.Laws.PartNames.{in_parts}
use Rattle.esr_model.specs.Lists.{pairs_has}
use Rattle.esr_formats.specs.Reasons.{IsUnreadable}
use Rattle.esr_desk.specs.Restore.Parts.{AreFronts, AreExact}
use Rattle.esr_core.specs.Laws.NumberMaps.{some_none}
use Rattle.esr_quiet.proofs.Fronts.{file_whole}
use Rattle.esr_quiet.proofs.Rooted.{AreListed}

one_root : {n m : ℕ} → Root n ≡ Root m → n ≡ m
one_root e = cc

snap_no_root : {u n : ℕ} → Snap u ≡ Root n → ⊥
snap_no_root e = cc

index_no_root : {i k g n : ℕ} → ShardIndex i k g ≡ Root n → ⊥
index_no_root e = cc

module _ (f : Formats) (has : BlobName → Bytes → Type 0) (one : IsOne has) (n : ℕ) (a : RootAgrees f has n) where
  -- the root's own name, or one that it reaches
  abbrev pub IsIn : BlobName → Type 0
  IsIn name = (name ≡ Root n) ⊎ Reached f has a.root name

  -- ---- each is there

  pub is_there : AreListed a.root → (name : BlobName) → Reached f has a.root name → (bytes : Bytes) × has name bytes
  is_there listed name (ReachSnap s m) = let x = a.snapshots s m in (x.info_reads.bytes, x.info_reads.there)
  is_there listed name (ReachMeta s m) = let x = a.snapshots s m in (x.global_reads.bytes, x.global_reads.there)
  is_there listed name (ReachIndexMeta x u m of) =
      let (snap, there, e) = listed x u m of in
      let s = a.snapshots snap there in
      let (r, rm, same, id) = s.agrees.exact x m (subst (Has x.snapshots) (sym e) of) in
      let md = s.metas r rm in
      (md.bytes, subst (λ (b : BlobName). has b md.bytes) (λ j. IndexMeta (id j) (e j)) md.there)
  is_there listed name (ReachIndex i k g gen) = let x = a.indices i k g gen in (x.held_reads.bytes, x.held_reads.there)
  is_there listed name (ReachShardSnap i k g s held l gen reads lm sm e) =
      let x = a.indices i k g gen in
      let same : held ≡ x.held = reads_one has one (ShardIndex i k g) f.shard_index held x.held reads x.held_reads in
      let v = x.snaps l s (subst (λ (h : ShardFiles). Has h.snapshots l) same lm) sm e in
      (v.1.bytes, v.1.there)
  is_there listed name (ReachPart i k g held e piece gen reads em part) =
      let x = a.indices i k g gen in
      let same : held ≡ x.held = reads_one has one (ShardIndex i k g) f.shard_index held x.held reads x.held_reads in
      let it = x.files e (subst (λ (h : ShardFiles). Has h.files e) same em) in
      pairs_has has (part_names i k e) it.1.parts piece it.1.there part

  -- ---- and reads

  reads_not : {V : Type 0} (name : BlobName) (kind : Kind V) (v : V) → Reads has name kind v → (bytes : Bytes) → has name bytes → kind.read bytes ≡ None → ⊥
  reads_not name kind v r bytes there none = some_none v (sym r.reads ∙ ap kind.read (one name r.bytes bytes r.there there) ∙ none)

  reached_reads : AreListed a.root → (name : BlobName) (bytes : Bytes) → Reached f has a.root name → has name bytes → IsUnreadable f name bytes → ⊥
  reached_reads listed name bytes (ReachSnap s m) there bad = let x = a.snapshots s m in reads_not (Snap s.uuid) f.info x.info x.info_reads bytes there bad
  reached_reads listed name bytes (ReachMeta s m) there bad = let x = a.snapshots s m in reads_not (Meta s.uuid) f.global (global_of x.info) x.global_reads bytes there bad
  reached_reads listed name bytes (ReachIndexMeta x u m of) there bad =
      let (snap, sm, e) = listed x u m of in
      let s = a.snapshots snap sm in
      let (r, rm, same, id) = s.agrees.exact x m (subst (Has x.snapshots) (sym e) of) in
      reads_not (IndexMeta r.id snap.uuid) f.index_meta (record { index = r; uuid = snap.uuid }) (s.metas r rm) bytes (subst (λ (b : BlobName). has b bytes) (λ j. IndexMeta (sym id j) (sym e j)) there) bad
  reached_reads listed name bytes (ReachIndex i k g gen) there bad = let x = a.indices i k g gen in reads_not (ShardIndex i k g) f.shard_index x.held x.held_reads bytes there bad
  reached_reads listed name bytes (ReachShardSnap i k g s held l gen reads lm sm e) there bad =
      let x = a.indices i k g gen in
      let same : held ≡ x.held = reads_one has one (ShardIndex i k g) f.shard_index held x.held reads x.held_reads in
      let v = x.snaps l s (subst (λ (h : ShardFiles). Has h.snapshots l) same lm) sm e in
      reads_not (ShardSnap i k s.uuid) f.shard_snap v.0 v.1 bytes there bad
  reached_reads listed name bytes (ReachPart i k g held e piece gen reads em part) there bad =
      elim (in_parts i k e piece part) [ inl is ↦ subst (λ (b : BlobName). IsUnreadable f b bytes) is bad | inr is ↦ subst (λ (b : BlobName). IsUnreadable f b bytes) is.1 bad ]

  pub does_read : AreListed a.root → (name : BlobName) (bytes : Bytes) → IsIn name → has name bytes → IsUnreadable f name bytes → ⊥
  does_read listed name bytes (inl is) there bad = reads_not (Root n) f.root a.root a.root_reads bytes (subst (λ (b : BlobName). has b bytes) is there) (subst (λ (b : BlobName). IsUnreadable f b bytes) is bad)
  does_read listed name bytes (inr reached) there bad = reached_reads listed name bytes reached there bad

  -- ---- which ones are reached

  abbrev In : BlobName → Type 0
  In (Root m) = ⊥
  In (Snap u) = (s : RootSnap) × Has a.root.snapshots s × (s.uuid ≡ u)
  In (ShardIndex i k g) = Generation a.root i k g
  In name = Unit {0}

  what_is : (name : BlobName) → Reached f has a.root name → In name
  what_is name (ReachSnap s m) = (s, m, refl)
  what_is name (ReachIndex i k g gen) = gen
  what_is name (ReachPart i k g held e piece gen reads em part) = elim (in_parts i k e piece part) [ inl is ↦ subst In (sym is) tt | inr is ↦ subst In (sym is.1) tt ]
  what_is name other = tt

  root_in : (m : ℕ) → IsIn (Root m) → m ≡ n
  root_in m (inl is) = one_root is
  root_in m (inr r) = absurd (what_is (Root m) r)

  snap_in : (u : ℕ) → IsIn (Snap u) → (s : RootSnap) × Has a.root.snapshots s × (s.uuid ≡ u)
  snap_in u (inl is) = absurd (snap_no_root is)
  snap_in u (inr r) = what_is (Snap u) r

  index_in : (i k g : ℕ) → IsIn (ShardIndex i k g) → Generation a.root i k g
  index_in i k g (inl is) = absurd (index_no_root is)
  index_in i k g (inr r) = what_is (ShardIndex i k g) r

  -- ---- no two disagree

  pub info_beside : (m : ℕ) (root : RootData) (snap : RootSnap) (info : SnapInfo) → IsIn (Root m) → Reads has (Root m) f.root root → Has root.snapshots snap → Reads has (Snap snap.uuid) f.info info → Agrees root snap info
  info_beside m root snap info h root_reads there info_reads =
      let same : a.root ≡ root = reads_one has one (Root n) f.root a.root root a.root_reads (subst (λ k. Reads has (Root k) f.root root) (root_in m h) root_reads) in
      let s = a.snapshots snap (subst (λ (r : RootData). Has r.snapshots snap) (sym same) there) in
      let info_is : s.info ≡ info = reads_one has one (Snap snap.uuid) f.info s.info info s.info_reads info_reads in
      subst (λ (r : RootData). Agrees r snap info) same (subst (λ (i : SnapInfo). Agrees a.root snap i) info_is s.agrees)

  -- the snapshot that the info is of
  listed_snap : (uuid : ℕ) (info : SnapInfo) → IsIn (Snap uuid) → Reads has (Snap uuid) f.info info → (s : RootSnap) × (m : Has a.root.snapshots s) × (s.uuid ≡ uuid) × ((a.snapshots s m).info ≡ info)
  listed_snap uuid info h reads =
      let (s, m, e) = snap_in uuid h in
      let x = a.snapshots s m in
      (s, m, e, reads_one has one (Snap uuid) f.info x.info info (subst (λ u. Reads has (Snap u) f.info x.info) e x.info_reads) reads)

  pub global_beside : (uuid : ℕ) (info : SnapInfo) (meta : GlobalMeta) → IsIn (Snap uuid) → Reads has (Snap uuid) f.info info → Reads has (Meta uuid) f.global meta → meta ≡ global_of info
  global_beside uuid info meta h info_reads reads =
      let w = listed_snap uuid info h info_reads in
      let x = a.snapshots w.0 w.1 in
      reads_one has one (Meta uuid) f.global meta (global_of x.info) reads (subst (λ u. Reads has (Meta u) f.global (global_of x.info)) w.2 x.global_reads) ∙ ap global_of w.3

  pub index_meta_beside : (uuid : ℕ) (info : SnapInfo) (r : IndexRef) (meta : IndexMetadata) → IsIn (Snap uuid) → Reads has (Snap uuid) f.info info → Has info.indices r → Reads has (IndexMeta r.id uuid) f.index_meta meta
      → meta ≡ record { index = r; uuid = uuid }
  index_meta_beside uuid info r meta h info_reads rm reads =
      let w = listed_snap uuid info h info_reads in
      let md = (a.snapshots w.0 w.1).metas r (subst (λ (i : SnapInfo). Has i.indices r) (sym w.3) rm) in
      reads_one has one (IndexMeta r.id uuid) f.index_meta meta (record { index = r; uuid = uuid }) reads (subst (λ u. Reads has (IndexMeta r.id u) f.index_meta (record { index = r; uuid = u })) w.2 md)

  listed_as : (uuid : ℕ) (info : SnapInfo) (r : IndexRef) (index shard g : ℕ) → IsIn (Snap uuid) → Reads has (Snap uuid) f.info info → Has info.indices r → r.id ≡ index → shard < r.shards → IsIn (ShardIndex index shard g)
      → ListsAs f has index shard g uuid
  listed_as uuid info r index shard g h info_reads rm id below hi =
      let w = listed_snap uuid info h info_reads in
      let gen : Generation a.root r.id shard g = subst (λ i. Generation a.root i shard g) (sym id) (index_in index shard g hi) in
      let l = (a.snapshots w.0 w.1).shards r shard g (subst (λ (i : SnapInfo). Has i.indices r) (sym w.3) rm) below gen in
      subst (λ u. ListsAs f has index shard g u) w.2 (subst (λ i. ListsAs f has i shard g w.0.uuid) id l)

  pub index_beside : (uuid : ℕ) (info : SnapInfo) (r : IndexRef) (index shard g : ℕ) (held : ShardFiles) → IsIn (Snap uuid) → Reads has (Snap uuid) f.info info → Has info.indices r → r.id ≡ index → shard < r.shards
      → IsIn (ShardIndex index shard g) → Reads has (ShardIndex index shard g) f.shard_index held → IsListOf held uuid
  index_beside uuid info r index shard g held h info_reads rm id below hi reads =
      let l = listed_as uuid info r index shard g h info_reads rm id below hi in
      let same : l.held ≡ held = reads_one has one (ShardIndex index shard g) f.shard_index l.held held l.held_reads reads in
      subst (λ (x : ShardFiles). IsListOf x uuid) same (l.lists.list, l.lists.there, l.lists.uuid_is)

  pub snap_beside : (uuid : ℕ) (info : SnapInfo) (r : IndexRef) (index shard g : ℕ) (held : ShardFiles) (snap : ShardSnapshot) → IsIn (Snap uuid) → Reads has (Snap uuid) f.info info → Has info.indices r → r.id ≡ index
      → shard < r.shards
      → IsIn (ShardIndex index shard g) → Reads has (ShardIndex index shard g) f.shard_index held → Reads has (ShardSnap index shard uuid) f.shard_snap snap → Lists held uuid snap.files
  snap_beside uuid info r index shard g held snap h info_reads rm id below hi reads snap_reads =
      let l = listed_as uuid info r index shard g h info_reads rm id below hi in
      let same : l.held ≡ held = reads_one has one (ShardIndex index shard g) f.shard_index l.held held l.held_reads reads in
      let snap_is : l.snap ≡ snap = reads_one has one (ShardSnap index shard uuid) f.shard_snap l.snap snap l.snap_reads snap_reads in
      subst (λ (x : ShardFiles). Lists x uuid snap.files) same (subst (λ (v : ShardSnapshot). Lists l.held uuid v.files) snap_is l.lists)

  -- what was read of a file is the file, cut as stated
  pub file_of : (index shard g : ℕ) (held : ShardFiles) (e : FileEntry) (fronts : List Bytes) → IsIn (ShardIndex index shard g) → Reads has (ShardIndex index shard g) f.shard_index held → Has held.files e
      → AreFronts has index shard e fronts
      → (length (concat fronts) ≡ e.len) × (f.digest (concat fronts) ≡ e.digest) × AreExact index shard e fronts
  file_of index shard g held e fronts hi reads em read =
      let x = a.indices index shard g (index_in index shard g hi) in
      let same : held ≡ x.held = reads_one has one (ShardIndex index shard g) f.shard_index held x.held reads x.held_reads in
      let it = x.files e (subst (λ (h : ShardFiles). Has h.files e) same em) in
      let h = file_whole has one f index shard e it.0 fronts it.1 read in
      (ap (λ (l : Bytes). length l) h.0 ∙ it.1.len, ap f.digest h.0 ∙ it.1.digest, h.1)
