-- The texts of metadata read as they were.
use Rattle.std.proofs.Common.{◌≡◌, List, [], ◌∷◌, ◌++◌, Ok, refl, arith}
use Rattle.std.specs.List.{AllByRecursion}
use Rattle.esr_names.specs.declared.index_ref.IndexRef.{IndexRef}
use Rattle.esr_names.specs.IdTextLaws.{IsUtf8-id_text}
use Rattle.esr_json.specs.declared.key.Key.TheVariants as keys
use Rattle.esr_json.specs.Plain.{IsPlain}
use Rattle.esr_json.specs.PlainTexts.{parsed-compact_text}
use Rattle.esr_json.specs.PlainValues.{IsUtf8-key_text, ItemsArePlain-map}
use Rattle.esr_meta.specs.declared.global.GlobalMeta.{GlobalMeta}
use Rattle.esr_names.specs.Indices.{ref_data, indices_data, IsRef, AreRefs}
use Rattle.esr_root.specs.RootTexts.{index_name_utf8, snap_name_utf8}
use Rattle.esr_meta.specs.Info.{Info, IsInfo, info_data, info_text, info_from}
use Rattle.esr_meta.specs.Global.{IsGlobal, global_data, global_text, global_from}
use Rattle.esr_meta.specs.Index.{Index, IsIndexMeta, index_meta_data, index_meta_text, index_meta_from}
use Rattle.esr_meta.specs.RoundTrip.{info_of-info_data, info_plain, global_of-global_data, global_plain, index_meta_of-index_meta_data, index_meta_plain}
use Rattle.esr_model.specs.Values.{ReadsBack}
use Rattle.esr_formats.specs.Infos.{info_of_code, code_info, info_kind}
use Rattle.esr_formats.specs.Globals.{global_of_code, code_global, global_kind}
use Rattle.esr_formats.specs.IndexMetas.{index_meta_of, code_index_meta, index_meta_kind}
use Rattle.esr_formats.specs.ReadBack.{ReadsBack-kind_by}
use Rattle.esr_formats.proofs.ByKind.{text-kind_by}
use Rattle.esr_formats.proofs.Inverses.{info_back}

pub refs_each : (before rs : List IndexRef) → AreRefs before rs → AllByRecursion IsRef rs
refs_each before [] h = tt
refs_each before (r ∷ rs) h = (h.0, refs_each (before ++ r ∷ []) rs h.2)

ref_is_plain : (r : IndexRef) → IsRef r → IsPlain (ref_data r)
ref_is_plain r h = (
  IsUtf8-key_text keys.Id,
  IsUtf8-id_text r.id.number,
  refl,
  (IsUtf8-key_text keys.Name, index_name_utf8 r.name h.name, refl, (IsUtf8-key_text keys.Shards, omega (arith, h.most), tt, tt)),
)

pub indices_are_plain : (rs : List IndexRef) → AreRefs [] rs → IsPlain (indices_data rs)
indices_are_plain rs h = ItemsArePlain-map IsRef ref_data ref_is_plain rs (refs_each [] rs h)

info_is_plain : (i : Info) → IsInfo i → IsPlain (info_data i)
unfolding info_data
info_is_plain i h = (
  IsUtf8-key_text keys.Bytes,
  omega (arith, h.bytes),
  refl,
  (
    IsUtf8-key_text keys.Files,
    omega (arith, h.files),
    refl,
    (
      IsUtf8-key_text keys.Indices,
      indices_are_plain i.indices h.indices,
      refl,
      (
        IsUtf8-key_text keys.Moment,
        h.moment,
        refl,
        (
          IsUtf8-key_text keys.Name,
          snap_name_utf8 i.name h.name,
          refl,
          (IsUtf8-key_text keys.State, omega (arith, h.state), refl, (IsUtf8-key_text keys.Uuid, IsUtf8-id_text i.uuid.number, tt, tt)),
        ),
      ),
    ),
  ),
)

pub info_from-info_text : (i : Info) → IsInfo i → info_from (info_text i) ≡ Ok i
info_from-info_text i h = rw (parsed-compact_text (info_data i) (info_is_plain i h) (info_plain i).1) (info_of-info_data i h)

global_is_plain : (m : GlobalMeta) → IsGlobal m → IsPlain (global_data m)
unfolding global_data
global_is_plain m h = (
  IsUtf8-key_text keys.Moment,
  h.moment,
  refl,
  (IsUtf8-key_text keys.Name, snap_name_utf8 m.name h.name, refl, (IsUtf8-key_text keys.Uuid, IsUtf8-id_text m.uuid.number, tt, tt)),
)

pub global_from-global_text : (m : GlobalMeta) → IsGlobal m → global_from (global_text m) ≡ Ok m
global_from-global_text m h = rw (parsed-compact_text (global_data m) (global_is_plain m h) (global_plain m).1) (global_of-global_data m h)

index_meta_is_plain : (m : Index) → IsIndexMeta m → IsPlain (index_meta_data m)
unfolding index_meta_data
index_meta_is_plain m h = (
  IsUtf8-key_text keys.Id,
  IsUtf8-id_text m.id.number,
  refl,
  (
    IsUtf8-key_text keys.Name,
    index_name_utf8 m.name h.name,
    refl,
    (IsUtf8-key_text keys.Shards, omega (arith, h.most), refl, (IsUtf8-key_text keys.Uuid, IsUtf8-id_text m.uuid.number, tt, tt)),
  ),
)

pub index_meta_from-index_meta_text : (m : Index) → IsIndexMeta m → index_meta_from (index_meta_text m) ≡ Ok m
index_meta_from-index_meta_text m h =
    rw (parsed-compact_text (index_meta_data m) (index_meta_is_plain m h) (index_meta_plain m).1) (index_meta_of-index_meta_data m h)

-- ---- by their kinds

pub info_kind-text : (i : Info) → info_kind.text (info_of_code i) ≡ info_text i
unfolding info_kind
info_kind-text i = text-kind_by code_info info_of_code info_text info_from i (info_back i)

pub info_reads_back : (i : Info) → IsInfo i → ReadsBack info_kind (info_of_code i)
unfolding info_kind
info_reads_back i h = ReadsBack-kind_by code_info info_of_code info_text info_from i (info_back i) (info_from-info_text i h)

pub global_kind-text : (m : GlobalMeta) → global_kind.text (global_of_code m) ≡ global_text m
unfolding global_kind
global_kind-text m = refl

pub global_reads_back : (m : GlobalMeta) → IsGlobal m → ReadsBack global_kind (global_of_code m)
unfolding global_kind
global_reads_back m h = ReadsBack-kind_by code_global global_of_code global_text global_from m refl (global_from-global_text m h)

pub index_meta_kind-text : (m : Index) → index_meta_kind.text (index_meta_of m) ≡ index_meta_text m
unfolding index_meta_kind
index_meta_kind-text m = refl

pub index_meta_reads_back : (m : Index) → IsIndexMeta m → ReadsBack index_meta_kind (index_meta_of m)
unfolding index_meta_kind
index_meta_reads_back m h = ReadsBack-kind_by code_index_meta index_meta_of index_meta_text index_meta_from m refl (index_meta_from-index_meta_text m h)
