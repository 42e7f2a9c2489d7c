-- When the info of a listed snapshot stands, and the snapshot.
use Rattle.std.proofs.Common.{◌≡◌, ℕ, List, refl, subst}
use Rattle.esr_model.specs.Names.{BlobName, Snap}
use Rattle.esr_model.specs.Values.{Bytes, Has, IndexRef, RootSnap, RootIndex, RootData, SnapInfo, Formats}
use Rattle.esr_model.specs.Shelf.{ShelfShard, Shelved}
use Rattle.esr_model.specs.Places.{shelf_places}
use Rattle.esr_model.specs.Image.{AllPairs, IsOne, Reads, ShardStands, SnapStands}
use Rattle.esr_plain.specs.Infos.{Agrees, InfoStands}
use Rattle.esr_plain.proofs.Blobs.{reads_one}

-- the index is that of the reference, and has the snapshot
abbrev pub IsIndexOf : ℕ → IndexRef → RootIndex → Type 0
IsIndexOf uuid r x = (x.name ≡ r.name) × (x.id ≡ r.id) × Has x.snapshots uuid

abbrev pub IsRefTo : RootIndex → IndexRef → Type 0
IsRefTo x r = (r.name ≡ x.name) × (r.id ≡ x.id)

module _ (f : Formats) (has : BlobName → Bytes → Type 0) (root : RootData) (snap : RootSnap) where
  pub info_agrees : (info : SnapInfo) → Reads has (Snap snap.uuid) f.info info → Agrees f has root snap info → InfoStands f has root snap info
  info_agrees info reads agrees = record { reads = reads; agrees = agrees }

  pub info_unread : ((info : SnapInfo) → Reads has (Snap snap.uuid) f.info info → ⊥) → (info : SnapInfo) → InfoStands f has root snap info → ⊥
  info_unread none info s = none info s.reads

  pub info_disagrees : IsOne has → (info : SnapInfo) → Reads has (Snap snap.uuid) f.info info → (Agrees f has root snap info → ⊥) → (other : SnapInfo) → InfoStands f has root snap other → ⊥
  info_disagrees one info reads none other s = none (subst (λ (i : SnapInfo). Agrees f has root snap i) (reads_one has one (Snap snap.uuid) f.info other info s.reads reads) s.agrees)

  pub info_of_snap : (x : Shelved) (s : SnapStands f has root snap x) → InfoStands f has root snap s.info
  info_of_snap x s = record {
    reads = s.info_reads;
    agrees = record { of = (s.info_name, s.info_uuid, s.info_state); global = s.global_reads; metas = s.metas; listed = s.listed; exact = s.exact };
  }

  pub snap_no_info : ((info : SnapInfo) → InfoStands f has root snap info → ⊥) → (x : Shelved) → SnapStands f has root snap x → ⊥
  snap_no_info none x s = none s.info (info_of_snap x s)

  pub snap_no_shards : IsOne has → (info : SnapInfo) → InfoStands f has root snap info → ((shards : List ShelfShard) → AllPairs (ShardStands f has root snap.uuid) (shelf_places info.indices) shards → ⊥)
      → (x : Shelved) → SnapStands f has root snap x → ⊥
  snap_no_shards one info stands none x s =
      none x.shards (subst (λ (i : SnapInfo). AllPairs (ShardStands f has root snap.uuid) (shelf_places i.indices) x.shards) (reads_one has one (Snap snap.uuid) f.info s.info info s.info_reads stands.reads) s.shards)

  pub snap_stands : (info : SnapInfo) (name : Bytes) (shards : List ShelfShard) → name ≡ snap.name → InfoStands f has root snap info → AllPairs (ShardStands f has root snap.uuid) (shelf_places info.indices) shards
      → SnapStands f has root snap (record { name = name; uuid = snap.uuid; shards = shards })
  snap_stands info name shards named stands all = record {
    name_is = named;
    uuid_is = refl;
    info = info;
    info_reads = stands.reads;
    info_name = stands.agrees.of.0;
    info_uuid = stands.agrees.of.1;
    info_state = stands.agrees.of.2;
    global_reads = stands.agrees.global;
    metas = stands.agrees.metas;
    listed = stands.agrees.listed;
    exact = stands.agrees.exact;
    shards = all;
  }
