-- The blobs that a finalization writes: a name with its bytes.
use Rattle.std.specs.Prelude.{ℕ, List, map}
use Rattle.esr_model.specs.Names.{BlobName, Root, Snap, Meta, IndexMeta}
use Rattle.esr_model.specs.Values.{Bytes, IndexRef, RootData, SnapInfo, Formats}
use Rattle.esr_model.specs.Image.{global_of}

abbrev pub info_blob : Formats → SnapInfo → BlobName × Bytes
info_blob f info = (Snap info.uuid, f.info.text info)

abbrev pub global_blob : Formats → SnapInfo → BlobName × Bytes
global_blob f info = (Meta info.uuid, f.global.text (global_of info))

-- an index's metadata in the snapshot of this uuid
abbrev pub index_blob : Formats → ℕ → IndexRef → BlobName × Bytes
index_blob f uuid r = (IndexMeta r.id uuid, f.index_meta.text (record { index = r; uuid = uuid }))

abbrev pub index_blobs : Formats → SnapInfo → List (BlobName × Bytes)
index_blobs f info = map (λ (r : IndexRef). index_blob f info.uuid r) info.indices

-- a root under its generation
abbrev pub root_blob : Formats → ℕ → RootData → BlobName × Bytes
root_blob f n root = (Root n, f.root.text root)
