-- A kept image is kept whatever the sources tell.
use Rattle.std.proofs.Common.{◌≡◌, ℕ, zero, suc, Bool, List, Option, inl, inr}
use Rattle.esr_model.specs.Names.{BlobName}
use Rattle.esr_model.specs.Values.{Bytes, FileEntry, IndexRef, RootSnap, RootData, Formats}
use Rattle.esr_model.specs.Shelf.{ShelfShard, Shelved}
use Rattle.esr_model.specs.Places.{shelf_places}
use Rattle.esr_model.specs.Image.{Image, FileStands, ShardStands, SnapStands, IndexStands, RootStands, Stands, Picked, RootIs, At}
use Rattle.esr_model.specs.Kept.{Recorded, Kept}
use Rattle.esr_model.specs.Lists.{AllPairs-with}
use Rattle.esr_law.specs.Digests.{retold}

module _ (f : Formats) (known : Bytes → Bytes → ℕ → Bool) (told : Bytes → Bytes → ℕ → Option (List (Bytes × Bytes))) where
  abbrev g : Formats
  g = retold f known told

  module _ (has : BlobName → Bytes → Type 0) where
    file_again : (index shard : ℕ) (e : FileEntry) (bytes : Bytes) → FileStands f has index shard e bytes → FileStands g has index shard e bytes
    file_again index shard e bytes h = record { parts = h.parts; there = h.there; full = h.full; joined = h.joined; len = h.len; digest = h.digest }

    shard_again : (root : RootData) (uuid : ℕ) (place : IndexRef × ℕ) (shard : ShelfShard) → ShardStands f has root uuid place shard → ShardStands g has root uuid place shard
    shard_again root uuid place shard h =
        record {
          name_is = h.name_is;
          number_is = h.number_is;
          generation = h.generation;
          in_root = h.in_root;
          snap = h.snap;
          snap_reads = h.snap_reads;
          index = h.index;
          index_reads = h.index_reads;
          lists = h.lists;
          files = AllPairs-with (λ e file. (e.physical ≡ file.0) × FileStands f has place.0.id place.1 e file.1) (λ e file. (e.physical ≡ file.0) × FileStands g has place.0.id place.1 e file.1) h.snap.files shard.files
              (λ e file m p. (p.0, file_again place.0.id place.1 e file.1 p.1)) h.files;
        }

    snap_again : (root : RootData) (snap : RootSnap) (shelved : Shelved) → SnapStands f has root snap shelved → SnapStands g has root snap shelved
    snap_again root snap shelved h =
        record {
          name_is = h.name_is;
          uuid_is = h.uuid_is;
          info = h.info;
          info_reads = h.info_reads;
          info_name = h.info_name;
          info_uuid = h.info_uuid;
          info_state = h.info_state;
          global_reads = h.global_reads;
          metas = h.metas;
          listed = h.listed;
          exact = h.exact;
          shards = AllPairs-with (ShardStands f has root snap.uuid) (ShardStands g has root snap.uuid) (shelf_places h.info.indices) shelved.shards (λ place shard m s. shard_again root snap.uuid place shard s) h.shards;
        }

    index_again : (root : RootData) (index shard generation : ℕ) → IndexStands f has root index shard generation → IndexStands g has root index shard generation
    index_again root index shard generation h =
        record { held = h.held; held_reads = h.held_reads; files = λ e m. let (bytes, file) = h.files e m in (bytes, file_again index shard e bytes file); snaps = h.snaps; below = h.below }

    root_again : (root : RootData) (shelf : List Shelved) → RootStands f has root shelf → RootStands g has root shelf
    root_again root shelf h =
        record {
          snapshots = AllPairs-with (SnapStands f has root) (SnapStands g has root) root.snapshots shelf (λ snap shelved m s. snap_again root snap shelved s) h.snapshots;
          indices = λ index shard generation is. index_again root index shard generation (h.indices index shard generation is);
        }

    stands_again : (n : ℕ) (shelf : List Shelved) → Stands f has n shelf → Stands g has n shelf
    stands_again n shelf h = record { root = h.root; root_reads = h.root_reads; stands = root_again h.root shelf h.stands }

    picked_again : (safe : ℕ) (shelf : List Shelved) → Picked f has safe shelf → Picked g has safe shelf
    picked_again zero shelf h = h
    picked_again (suc n) shelf h = stands_again n shelf h

    root_is : (safe : ℕ) (root : RootData) → RootIs g has safe root → RootIs f has safe root
    root_is zero root h = h
    root_is (suc n) root h = h

  recorded_again : (image : Image) (shelf : List Shelved) → Recorded f image shelf → Recorded g image shelf
  recorded_again image shelf h =
      record {
        cluster = h.cluster;
        text = h.text;
        there = h.there;
        reads = h.reads;
        kept = record {
          ordered = h.kept.ordered;
          picked = picked_again (At f image.blobs) h.cluster.ledger.safe shelf h.kept.picked;
          begun = h.kept.begun;
          whole = λ n there above. let (now, stands) = h.kept.whole n there above in (now, stands_again (At f image.blobs) n now stands);
          named = h.kept.named;
        };
        names_below = h.names_below;
        root_below = λ root is. h.root_below root (root_is (At f image.blobs) h.cluster.ledger.safe root is);
        ops_below = h.ops_below;
      }

  pub kept_again : (image : Image) (shelf : List Shelved) → Kept f image shelf → Kept g image shelf
  kept_again image shelf (inl empty) = inl empty
  kept_again image shelf (inr recorded) = inr (recorded_again image shelf recorded)
