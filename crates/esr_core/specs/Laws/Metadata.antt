-- Which blobs the metadata of a snapshot has.
use Rattle.std.proofs.Common.{◌≡◌, sym, ap, inl, inr}
use Rattle.esr_model.specs.Names.{BlobName, Snap, Meta, IndexMeta}
use Rattle.esr_model.specs.Values.{Bytes, IndexRef, SnapInfo, Formats}
use Rattle.esr_model.specs.Image.{Has, global_of}
use Rattle.esr_core.specs.World.{metadata}
use Rattle.esr_model.specs.Lists.{Has-mapped}

-- which blob of the metadata it is
pub data Kinds (f : Formats) (info : SnapInfo) (name : BlobName) (b : Bytes) : Type 0 where
  IsSnap : name ≡ Snap info.uuid → b ≡ f.info.text info → Kinds f info name b
  IsMeta : name ≡ Meta info.uuid → b ≡ f.global.text (global_of info) → Kinds f info name b
  IsIndex : (r : IndexRef) → Has info.indices r → name ≡ IndexMeta r.id info.uuid → b ≡ f.index_meta.text (record { index = r; uuid = info.uuid }) → Kinds f info name b

pub kinds : (f : Formats) (info : SnapInfo) (name : BlobName) (b : Bytes) → Has (metadata f info) (name, b) → Kinds f info name b
kinds f info name b (inl e) = IsSnap (sym (ap (λ (p : BlobName × Bytes). p.0) e)) (sym (ap (λ (p : BlobName × Bytes). p.1) e))
kinds f info name b (inr (inl e)) = IsMeta (sym (ap (λ (p : BlobName × Bytes). p.0) e)) (sym (ap (λ (p : BlobName × Bytes). p.1) e))
kinds f info name b (inr (inr m)) =
    let (r, there, e) = Has-mapped {B = BlobName × Bytes} (λ (r : IndexRef). (IndexMeta r.id info.uuid, f.index_meta.text (record { index = r; uuid = info.uuid }))) info.indices (name, b) m in
    IsIndex r there (sym (ap (λ (p : BlobName × Bytes). p.0) e)) (sym (ap (λ (p : BlobName × Bytes). p.1) e))
