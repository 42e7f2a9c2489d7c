-- What is written is read as it was.
use Rattle.std.proofs.Common.{◌≡◌, ◌^◌, ◌-◌, nat_lt, false, [], map, Ok, refl, arith}
use Rattle.std.proofs.lemmas.Bool.{le-ltb}
use Rattle.serde_json.specs.Read.{max_depth}
use Rattle.esr_names.specs.IdTextLaws.{read_id-id_text}
use Rattle.esr_json.specs.Access.{member_at, text_at, number_at, items_at}
use Rattle.esr_json.specs.Shallow.{IsShallow}
use Rattle.esr_json.specs.Items.{items_listed_of}
use Rattle.esr_names.specs.Indices.{id_at, snap_name_at, index_name_at, indices_at, ref_data}
use Rattle.esr_meta.specs.declared.global.GlobalMeta.{GlobalMeta}
use Rattle.esr_meta.specs.Global.{IsGlobal, global_of, global_data}
use Rattle.esr_meta.specs.Index.{Index, IsIndexMeta, index_meta_of, index_meta_data}
use Rattle.esr_meta.specs.Info.{Info, IsInfo, info_of, info_data}
use Rattle.esr_names.specs.RefTexts.{refs_from-map, IsShallow-indices_data}

pub info_of-info_data : (i : Info) → IsInfo i → info_of (info_data i) ≡ Ok i
unfolding info_of info_data indices_at id_at snap_name_at items_at text_at number_at member_at
info_of-info_data i h =
    let bytes_low : nat_lt i.bytes 0 ≡ false = le-ltb i.bytes 0 (omega arith) in
    let bytes_high : nat_lt (2 ^ 63 - 1) i.bytes ≡ false = le-ltb (2 ^ 63 - 1) i.bytes (omega (arith, h.bytes)) in
    let files_low : nat_lt i.files 0 ≡ false = le-ltb i.files 0 (omega arith) in
    let files_high : nat_lt (2 ^ 63 - 1) i.files ≡ false = le-ltb (2 ^ 63 - 1) i.files (omega (arith, h.files)) in
    let moment_low : nat_lt i.moment 0 ≡ false = le-ltb i.moment 0 (omega arith) in
    let moment_high : nat_lt (2 ^ 64 - 1) i.moment ≡ false = le-ltb (2 ^ 64 - 1) i.moment (omega (arith, h.moment)) in
    let state_low : nat_lt i.state 0 ≡ false = le-ltb i.state 0 (omega arith) in
    let state_high : nat_lt 255 i.state ≡ false = le-ltb 255 i.state (omega (arith, h.state)) in
    rw (bytes_low, bytes_high, files_low, files_high, items_listed_of (map ref_data i.indices), refs_from-map [] i.indices h.indices, moment_low, moment_high, h.name, state_low, state_high, read_id-id_text i.uuid h.uuid) refl

pub global_of-global_data : (m : GlobalMeta) → IsGlobal m → global_of (global_data m) ≡ Ok m
unfolding global_of global_data id_at snap_name_at text_at number_at member_at
global_of-global_data m h =
    let low : nat_lt m.moment 0 ≡ false = le-ltb m.moment 0 (omega arith) in
    let high : nat_lt (2 ^ 64 - 1) m.moment ≡ false = le-ltb (2 ^ 64 - 1) m.moment (omega (arith, h.moment)) in
    rw (low, high, h.name, read_id-id_text m.uuid h.uuid) refl

pub index_meta_of-index_meta_data : (m : Index) → IsIndexMeta m → index_meta_of (index_meta_data m) ≡ Ok m
unfolding index_meta_of index_meta_data id_at index_name_at text_at number_at member_at
index_meta_of-index_meta_data m h =
    let low : nat_lt m.shards 1 ≡ false = le-ltb m.shards 1 h.least in
    let high : nat_lt 1024 m.shards ≡ false = le-ltb 1024 m.shards h.most in
    rw (read_id-id_text m.id h.id, h.name, low, high, read_id-id_text m.uuid h.uuid) refl

-- ---- what the writer asks of a value

pub info_plain : (i : Info) → IsShallow max_depth (info_data i)
unfolding info_data
info_plain i = let indices = IsShallow-indices_data i.indices in (rw indices.0 refl, omega (arith, indices.1))

pub global_plain : (m : GlobalMeta) → IsShallow max_depth (global_data m)
unfolding global_data
global_plain m = (refl, omega arith)

pub index_meta_plain : (m : Index) → IsShallow max_depth (index_meta_data m)
unfolding index_meta_data
index_meta_plain m = (refl, omega arith)
