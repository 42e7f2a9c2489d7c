-- The blobs of a finalization, by the texts of the code.
use Rattle.std.proofs.Common.{◌≡◌, ℕ, ap, ◌∙◌}
use Rattle.esr_model.specs.Names.{Snap, Meta, IndexMeta}
use Rattle.esr_model.specs.Values.{Bytes, RootData}
use Rattle.esr_model.specs.Image.{global_of}
use Rattle.esr_names.specs.declared.ids.Id.{Id}
use Rattle.esr_names.specs.declared.index_ref.IndexRef.{IndexRef}
use Rattle.esr_meta.specs.Info.{Info}
use Rattle.esr_formats.specs.Formats.{formats}
use Rattle.esr_formats.specs.Infos.{info_of_code, info_kind}
use Rattle.esr_formats.specs.Globals.{global_kind}
use Rattle.esr_formats.specs.IndexMetas.{index_meta_kind}
use Rattle.esr_formats.specs.Refs.{ref_of_code}
use Rattle.esr_formats.specs.Roots.{root_kind}
use Rattle.esr_desk.specs.Start.{Start, formats_of}
use Rattle.esr_finish.specs.Blobs.{info_blob, global_blob, index_blob, root_blob}

pub info_blob_is : (s : Start) (info : Info) (uuid : Id) (text : Bytes) → uuid ≡ info.uuid → text ≡ info_kind.text (info_of_code info) → (Snap uuid.number, text) ≡ info_blob (formats_of s) (info_of_code info)
unfolding formats
info_blob_is s info uuid text same is = ap (λ (u : Id). (Snap u.number, text)) same ∙ ap (λ (b : Bytes). (Snap info.uuid.number, b)) is

pub global_blob_is : (s : Start) (info : Info) (uuid : Id) (text : Bytes) → uuid ≡ info.uuid → text ≡ global_kind.text (global_of (info_of_code info)) → (Meta uuid.number, text) ≡ global_blob (formats_of s) (info_of_code info)
unfolding formats
global_blob_is s info uuid text same is = ap (λ (u : Id). (Meta u.number, text)) same ∙ ap (λ (b : Bytes). (Meta info.uuid.number, b)) is

pub index_blob_is : (s : Start) (index : IndexRef) (uuid : ℕ) (text : Bytes) → text ≡ index_meta_kind.text (record { index = ref_of_code index; uuid = uuid })
    → (IndexMeta index.id.number uuid, text) ≡ index_blob (formats_of s) uuid (ref_of_code index)
unfolding formats
index_blob_is s index uuid text is = ap (λ (b : Bytes). (IndexMeta index.id.number uuid, b)) is

pub root_text_is : (s : Start) (n : ℕ) (root : RootData) (text : Bytes) → text ≡ root_kind.text root → text ≡ (root_blob (formats_of s) n root).1
unfolding formats
root_text_is s n root text is = is
