-- What stands, stands by what its root reaches.
use Rattle.std.proofs.Common.{◌≡◌, ℕ, List, [], ◌∷◌, subst, inl, inr}
use Rattle.esr_model.specs.Places.{shelf_places}
use Rattle.esr_model.specs.Parts.{part_names}
use Rattle.esr_model.specs.Names.{BlobName, IndexMeta, ShardIndex}
use Rattle.esr_model.specs.Values.{Bytes, IndexRef, RootSnap, RootData, FileEntry, ShardFiles, Kind, Formats}
use Rattle.esr_model.specs.Shelf.{Shelved, ShelfShard}
use Rattle.esr_model.specs.Image.{Has, AllPairs, Reads, Generation, FileStands, ShardStands, SnapStands, IndexStands, RootStands}
use Rattle.esr_model.specs.Reach.{Reached, ReachSnap, ReachMeta, ReachIndexMeta, ReachIndex, ReachShardSnap, ReachPart}
use Rattle.esr_model.specs.Lists.{AllPairs-with}

module _ (f : Formats) (has : BlobName → Bytes → Type 0) (root : RootData) where
  abbrev pub Used : BlobName → Bytes → Type 0
  Used name bytes = has name bytes × Reached f has root name

  reads_used : {V : Type 0} (name : BlobName) (kind : Kind V) (v : V) → Reached f has root name → Reads has name kind v → Reads Used name kind v
  reads_used name kind v r h = record { bytes = h.bytes; there = (h.there, r); reads = h.reads }

  file_used : (i k g : ℕ) (held : ShardFiles) → Generation root i k g → Reads has (ShardIndex i k g) f.shard_index held → (e : FileEntry) → Has held.files e → (bytes : Bytes) → FileStands f has i k e bytes
      → FileStands f Used i k e bytes
  file_used i k g held gen reads e m bytes s =
      record {
        parts = s.parts;
        there = AllPairs-with has Used (part_names i k e) s.parts (λ name part p h. (h, ReachPart i k g held e name gen reads m p)) s.there;
        full = s.full;
        joined = s.joined;
        len = s.len;
        digest = s.digest;
      }

  -- a file of a listed snapshot is one of the index
  entry_there : (held : ShardFiles) (es : List FileEntry) (ids : List ℕ) → AllPairs (λ id e. (e.name ≡ id) × Has held.files e) ids es → (e : FileEntry) → Has es e → Has held.files e
  entry_there held [] ids h e m = absurd m
  entry_there held (x ∷ xs) [] h e m = absurd h
  entry_there held (x ∷ xs) (i ∷ is) h e (inl same) = subst (Has held.files) same h.0.1
  entry_there held (x ∷ xs) (i ∷ is) h e (inr m) = entry_there held xs is h.1 e m

  shard_used : (snap : RootSnap) → Has root.snapshots snap → (place : IndexRef × ℕ) (shard : ShelfShard) → ShardStands f has root snap.uuid place shard → ShardStands f Used root snap.uuid place shard
  shard_used snap listed place shard s =
      record {
        name_is = s.name_is;
        number_is = s.number_is;
        generation = s.generation;
        in_root = s.in_root;
        snap = s.snap;
        snap_reads = reads_used _ _ _ (ReachShardSnap place.0.id place.1 s.generation snap s.index s.lists.list s.in_root s.index_reads s.lists.there listed s.lists.uuid_is) s.snap_reads;
        index = s.index;
        index_reads = reads_used _ _ _ (ReachIndex place.0.id place.1 s.generation s.in_root) s.index_reads;
        lists = s.lists;
        files =
            AllPairs-with _ _ s.snap.files shard.files (λ e file m h. (h.0, file_used place.0.id place.1 s.generation s.index s.in_root s.index_reads e (entry_there s.index s.snap.files s.lists.list.files s.lists.entries e m) file.1 h.1)) s.files;
      }

  snap_used : (snap : RootSnap) → Has root.snapshots snap → (shelved : Shelved) → SnapStands f has root snap shelved → SnapStands f Used root snap shelved
  snap_used snap m shelved s =
      record {
        name_is = s.name_is;
        uuid_is = s.uuid_is;
        info = s.info;
        info_reads = reads_used _ _ _ (ReachSnap snap m) s.info_reads;
        info_name = s.info_name;
        info_uuid = s.info_uuid;
        info_state = s.info_state;
        global_reads = reads_used _ _ _ (ReachMeta snap m) s.global_reads;
        metas = λ r h. let (x, there, name, id, mine) = s.listed r h in
            reads_used _ _ _ (subst (λ i. Reached f has root (IndexMeta i snap.uuid)) id (ReachIndexMeta x snap.uuid there mine)) (s.metas r h);
        listed = s.listed;
        exact = s.exact;
        shards = AllPairs-with (ShardStands f has root snap.uuid) (ShardStands f Used root snap.uuid) (shelf_places s.info.indices) shelved.shards (λ place shard p h. shard_used snap m place shard h) s.shards;
      }

  index_used : (i k g : ℕ) → Generation root i k g → IndexStands f has root i k g → IndexStands f Used root i k g
  index_used i k g gen s =
      record {
        held = s.held;
        held_reads = reads_used _ _ _ (ReachIndex i k g gen) s.held_reads;
        files = λ e m. let was = s.files e m in (was.0, file_used i k g s.held gen s.held_reads e m was.0 was.1);
        snaps = λ l snap m n e. let was = s.snaps l snap m n e in (was.0, reads_used _ _ _ (ReachShardSnap i k g snap s.held l gen s.held_reads m n e) was.1);
        below = s.below;
      }

  -- all that a root needs, it reaches
  pub root_used : (shelf : List Shelved) → RootStands f has root shelf → RootStands f Used root shelf
  root_used shelf s =
      record {
        snapshots = AllPairs-with (SnapStands f has root) (SnapStands f Used root) root.snapshots shelf (λ snap shelved m h. snap_used snap m shelved h) s.snapshots;
        indices = λ i k g gen. index_used i k g gen (s.indices i k g gen);
      }
