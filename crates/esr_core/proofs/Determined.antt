-- An image determines its shelf.
use Rattle.std.proofs.Common.{◌≡◌, ℕ, zero, suc, List, sym, ap, ◌∙◌, subst, inl, inr}
use Rattle.std.proofs.lemmas.Option.{same_Some, none-some}
use Rattle.esr_model.specs.Places.{shelf_places}
use Rattle.esr_model.specs.Parts.{part_names}
use Rattle.esr_model.specs.Names.{BlobName, Root, Snap, ShardSnap}
use Rattle.esr_model.specs.Values.{Bytes, IndexRef, RootSnap, RootData, SnapInfo, ShardSnapshot, FileEntry, ClusterRecord, Formats}
use Rattle.esr_model.specs.Shelf.{Shelved, ShelfShard}
use Rattle.esr_model.specs.Image.{Image, AllPairs, At, IsOne, concat, FileStands, ShardStands, SnapStands, Stands, Picked}
use Rattle.esr_model.specs.Kept.{Kept}
use Rattle.esr_model.specs.Lists.{pairs_one}
use Rattle.esr_core.specs.Laws.OneValue.{reads_one}

module _ (f : Formats) (has : BlobName → Bytes → Type 0) (func : IsOne has) where
  pub file_one : (index shard : ℕ) (e : FileEntry) (a b : Bytes) → FileStands f has index shard e a → FileStands f has index shard e b → a ≡ b
  file_one index shard e a b p q = sym p.joined ∙ ap concat (pairs_one has has func (part_names index shard e) p.parts q.parts p.there q.there) ∙ q.joined

  shard_one : (root : RootData) (uuid : ℕ) (place : IndexRef × ℕ) (a b : ShelfShard) → ShardStands f has root uuid place a → ShardStands f has root uuid place b → a ≡ b
  shard_one root uuid place a b p q =
      let same : p.snap ≡ q.snap = reads_one has func (ShardSnap place.0.id place.1 uuid) f.shard_snap p.snap q.snap p.snap_reads q.snap_reads in
      let files : a.files ≡ b.files = pairs_one _ _ (λ e (x : Bytes × Bytes) (y : Bytes × Bytes) h k. λ i. ((sym h.0 ∙ k.0) i, file_one place.0.id place.1 e x.1 y.1 h.1 k.1 i)) q.snap.files a.files b.files
      (subst (λ (s : ShardSnapshot). AllPairs (λ e file. (e.physical ≡ file.0) × FileStands f has place.0.id place.1 e file.1) s.files a.files) same p.files) q.files in
      λ i. record { index = (p.name_is ∙ sym q.name_is) i; number = (p.number_is ∙ sym q.number_is) i; files = files i }

  snap_one : (root : RootData) (snap : RootSnap) (a b : Shelved) → SnapStands f has root snap a → SnapStands f has root snap b → a ≡ b
  snap_one root snap a b p q =
      let same : p.info ≡ q.info = reads_one has func (Snap snap.uuid) f.info p.info q.info p.info_reads q.info_reads in
      let shards : a.shards ≡ b.shards = pairs_one (ShardStands f has root snap.uuid) (ShardStands f has root snap.uuid) (shard_one root snap.uuid) (shelf_places q.info.indices) a.shards b.shards
      (subst (λ (s : SnapInfo). AllPairs (ShardStands f has root snap.uuid) (shelf_places s.indices) a.shards) same p.shards) q.shards in
      λ i. record { name = (p.name_is ∙ sym q.name_is) i; uuid = (p.uuid_is ∙ sym q.uuid_is) i; shards = shards i }

  stands_one : (n : ℕ) (a b : List Shelved) → Stands f has n a → Stands f has n b → a ≡ b
  stands_one n a b p q =
      let same : p.root ≡ q.root = reads_one has func (Root n) f.root p.root q.root p.root_reads q.root_reads in
      pairs_one (SnapStands f has q.root) (SnapStands f has q.root) (snap_one q.root) q.root.snapshots a b
      (subst (λ (r : RootData). AllPairs (SnapStands f has r) r.snapshots a) same p.stands.snapshots) q.stands.snapshots

  picked_one : (safe : ℕ) (a b : List Shelved) → Picked f has safe a → Picked f has safe b → a ≡ b
  picked_one zero a b p q = p ∙ sym q
  picked_one (suc n) a b p q = stands_one n a b p q

pub kept_one : (f : Formats) (image : Image) (a b : List Shelved) → Kept f image a → Kept f image b → a ≡ b
kept_one f image a b (inl p) (inl q) = p.no_snapshot ∙ sym q.no_snapshot
kept_one f image a b (inl p) (inr q) = absurd (none-some q.text (sym p.no_record ∙ q.there))
kept_one f image a b (inr p) (inl q) = absurd (none-some p.text (sym q.no_record ∙ p.there))
kept_one f image a b (inr p) (inr q) =
    let text : p.text ≡ q.text = same_Some _ _ (sym p.there ∙ q.there) in
    let cluster : p.cluster ≡ q.cluster = same_Some _ _ (sym p.reads ∙ ap f.cluster.read text ∙ q.reads) in
    picked_one f (At f image.blobs) (λ n x y h k. same_Some x y (sym h.0 ∙ k.0)) q.cluster.ledger.safe a b (subst (λ (r : ClusterRecord). Picked f (At f image.blobs) r.ledger.safe a) cluster p.kept.picked) q.kept.picked
