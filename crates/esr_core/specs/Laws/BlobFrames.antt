-- What stands goes on standing where all that is known of blobs is kept.
use Rattle.std.proofs.Common.{◌≡◌, ℕ, List, [], ◌∷◌, subst, inl, inr, ◌⊎◌, None, sym, ap, ◌∙◌}
use Rattle.std.specs.Cmp.Lexicographic.{nat_list_cmp_total}
use Rattle.std.proofs.lemmas.Option.{same_Some}
use Rattle.std.specs.FinMap as fin
use Rattle.esr_model.specs.Places.{shelf_places}
use Rattle.esr_model.specs.Parts.{part_names}
use Rattle.esr_model.specs.Names.{BlobName, Latest}
use Rattle.esr_model.specs.Values.{Bytes, IndexRef, RootSnap, RootIndex, RootData, FileEntry, Kind, Formats, ReadsBack}
use Rattle.esr_model.specs.Shelf.{ShelfShard, Shelved}
use Rattle.esr_model.specs.Image.{Has, AllPairs, Reads, FileStands, ShardStands, SnapStands, IndexStands, RootStands, Stands, IsStored, Blobs, At}
use Rattle.esr_core.specs.Steps.{PutsLatest}
use Rattle.esr_core.specs.Laws.Maps.{get_was, get_same, get_kept, texts_same, get_other}
use Rattle.esr_model.specs.Lists.{AllPairs-map}

module _ (f : Formats) (has now : BlobName → Bytes → Type 0) (keeps : (name : BlobName) (bytes : Bytes) → has name bytes → now name bytes) where
  pub reads_kept : {V : Type 0} (name : BlobName) (kind : Kind V) (v : V) → Reads has name kind v → Reads now name kind v
  reads_kept name kind v r = record { bytes = r.bytes; there = keeps name r.bytes r.there; reads = r.reads }

  pub file_kept : (index shard : ℕ) (e : FileEntry) (bytes : Bytes) → FileStands f has index shard e bytes → FileStands f now index shard e bytes
  file_kept index shard e bytes s = record { parts = s.parts; there = AllPairs-map keeps (part_names index shard e) s.parts s.there; full = s.full; joined = s.joined; len = s.len; digest = s.digest }

  pub shard_kept : (root : RootData) (uuid : ℕ) (place : IndexRef × ℕ) (shard : ShelfShard) → ShardStands f has root uuid place shard → ShardStands f now root uuid place shard
  shard_kept root uuid place shard s =
      record {
        name_is = s.name_is;
        number_is = s.number_is;
        generation = s.generation;
        in_root = s.in_root;
        snap = s.snap;
        snap_reads = reads_kept _ _ _ s.snap_reads;
        index = s.index;
        index_reads = reads_kept _ _ _ s.index_reads;
        lists = s.lists;
        files = AllPairs-map (λ e file h. (h.0, file_kept place.0.id place.1 e file.1 h.1)) s.snap.files shard.files s.files;
      }

  -- in a root that has the indices of the snapshot
  pub snap_in : (root new : RootData) (snap : RootSnap) (shelved : Shelved) (s : SnapStands f has root snap shelved)
      → ((r : IndexRef) → Has s.info.indices r → (x : RootIndex) × Has new.indices x × (x.name ≡ r.name) × (x.id ≡ r.id) × Has x.snapshots snap.uuid)
      → ((x : RootIndex) → Has new.indices x → Has x.snapshots snap.uuid → (r : IndexRef) × Has s.info.indices r × (r.name ≡ x.name) × (r.id ≡ x.id))
      → AllPairs (ShardStands f now new snap.uuid) (shelf_places s.info.indices) shelved.shards → SnapStands f now new snap shelved
  snap_in root new snap shelved s listed exact shards =
      record {
        name_is = s.name_is;
        uuid_is = s.uuid_is;
        info = s.info;
        info_reads = reads_kept _ _ _ s.info_reads;
        info_name = s.info_name;
        info_uuid = s.info_uuid;
        info_state = s.info_state;
        global_reads = reads_kept _ _ _ s.global_reads;
        metas = λ r h. reads_kept _ _ _ (s.metas r h);
        listed = listed;
        exact = exact;
        shards = shards;
      }

  pub snap_kept : (root : RootData) (snap : RootSnap) (shelved : Shelved) → SnapStands f has root snap shelved → SnapStands f now root snap shelved
  snap_kept root snap shelved s = snap_in root root snap shelved s s.listed s.exact (AllPairs-map (shard_kept root snap.uuid) (shelf_places s.info.indices) shelved.shards s.shards)

  pub index_kept : (root : RootData) (index shard generation : ℕ) → IndexStands f has root index shard generation → IndexStands f now root index shard generation
  index_kept root index shard generation s =
      record {
        held = s.held;
        held_reads = reads_kept _ _ _ s.held_reads;
        files = λ e h. let was = s.files e h in (was.0, file_kept index shard e was.0 was.1);
        snaps = λ l snap m n e. let was = s.snaps l snap m n e in (was.0, reads_kept _ _ _ was.1);
        below = s.below;
      }

  pub root_kept : (root : RootData) (shelf : List Shelved) → RootStands f has root shelf → RootStands f now root shelf
  root_kept root shelf s =
      record {
        snapshots = AllPairs-map (snap_kept root) root.snapshots shelf s.snapshots;
        indices = λ index shard generation g. index_kept root index shard generation (s.indices index shard generation g);
      }

  pub stands_kept : (n : ℕ) (shelf : List Shelved) → Stands f has n shelf → Stands f now n shelf
  stands_kept n shelf s = record { root = s.root; root_reads = reads_kept _ _ _ s.root_reads; stands = root_kept s.root shelf s.stands }

-- each listed snapshot's info is there
pub info_there : (f : Formats) (has : BlobName → Bytes → Type 0) (root : RootData) (snaps : List RootSnap) (shelf : List Shelved) → AllPairs (SnapStands f has root) snaps shelf
    → (snap : RootSnap) → Has snaps snap → (shelved : Shelved) × SnapStands f has root snap shelved
info_there f has root [] shelf s snap m = absurd m
info_there f has root (x ∷ xs) [] s snap m = absurd s
info_there f has root (x ∷ xs) (y ∷ ys) s snap (inl e) = (y, subst (λ z. SnapStands f has root z y) e s.0)
info_there f has root (x ∷ xs) (y ∷ ys) s snap (inr m) = info_there f has root xs ys s.1 snap m

-- a text is that of one name
pub text_one : (f : Formats) (a b : BlobName) → ReadsBack f.names a → ReadsBack f.names b → f.names.text a ≡ f.names.text b → a ≡ b
text_one f a b p q same = same_Some a b (sym p ∙ ap f.names.read same ∙ q)

module _ (f : Formats) (blobs : Blobs) (name : BlobName) (bytes : Bytes) (named : IsStored f name) (absent : fin.get blobs (f.names.text name) ≡ None) (doomed : List BlobName) where
  abbrev pub added : Blobs
  added = fin.insert blobs (f.names.text name) bytes

  pub at_kept : (m : BlobName) (b : Bytes) → At f blobs m b → At f added m b
  at_kept m b h = (get_kept nat_list_cmp_total texts_same blobs (f.names.text name) bytes (f.names.text m) b absent h.0, h.1)

  pub at_new : At f added name bytes
  at_new = (get_same nat_list_cmp_total texts_same blobs (f.names.text name) bytes, named)

  pub at_was : (m : BlobName) (b : Bytes) → At f added m b → ((m ≡ name) × (bytes ≡ b)) ⊎ At f blobs m b
  at_was m b h = elim (get_was nat_list_cmp_total texts_same blobs (f.names.text name) bytes (f.names.text m) b h.0) [
    | inl e ↦ inl (text_one f m name h.1.0 named.0 e.0, e.1)
    | inr e ↦ inr (e.1, h.1)
  ]

module _ (f : Formats) (blobs now : Blobs) (p : PutsLatest f blobs now) where
  pub at_back : (m : BlobName) (b : Bytes) → At f now m b → At f blobs m b
  at_back m b h = elim p [
    | inl e ↦ subst (λ x. At f x m b) e h
    | inr q ↦ (sym (get_other nat_list_cmp_total texts_same blobs (f.names.text Latest) q.0 (f.names.text m) (λ same. h.1.1 (text_one f m Latest h.1.0 q.2 same))) ∙ ap (λ x. fin.get x (f.names.text m)) (sym q.1) ∙ h.0, h.1)
  ]
