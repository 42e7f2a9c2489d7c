-- The texts of names and of the index of a shard read as they were.
use Rattle.std.proofs.Common.{◌≡◌, ap, ◌∙◌, Option, option_map, Result, Ok, List, [], ◌∷◌, map, refl, ap₂, Bool, true, cond, Some, None}
use Rattle.std.specs.Result.{result_ok}
use Rattle.std.specs.Prelude.{option_and_then}
use Rattle.std.proofs.lemmas.Bool.{lt-ltb, and_from}
use Rattle.std.proofs.lemmas.Slice.Eq.{bytes_eq-Decides}
use Rattle.esr_names.specs.declared.blob.BlobName.TheVariants as code
use Rattle.esr_json.specs.declared.refusal.Reason.{Reason}
use Rattle.esr_model.specs.Values.{Bytes, ReadsBack}
use Rattle.esr_formats.specs.Kinds.{kind_by}
use Rattle.esr_names.specs.declared.ids.Id.{Id}
use Rattle.esr_names.specs.declared.blob.BlobName.{BlobName as CodeName}
use Rattle.esr_shardidx.specs.declared.entry.FileEntry.{FileEntry as CodeEntry}
use Rattle.esr_shardidx.specs.declared.index.SnapList.{SnapList as CodeList}
use Rattle.esr_shardidx.specs.Indices.{IndexValue, IsShardIndex, shard_index_text, shard_index_from}
use Rattle.esr_formats.specs.Shards.{entry_of, snap_list_of, shard_index_of, code_entry, code_snap_list, code_shard_index, shard_index_kind}
use Rattle.esr_formats.specs.Ids.{number_of, id_of}
use Rattle.esr_formats.specs.Names.{name_of, code_name, is_of_layout, checked_name, read_name, name_kind}
use Rattle.esr_names.specs.Layout.{name_text, IsName, HasIds}
use Rattle.esr_names.specs.NameTexts.{name_of-name_text}
use Rattle.esr_shardidx.specs.RoundTrip.{index_reads_back}

pub ReadsBack-kind_by : {C V : Type 0} (code : V → C) (model : C → V) (text : C → Bytes) (from : Bytes → Result C Reason) (c : C) → code (model c) ≡ c → from (text c) ≡ Ok c
    → ReadsBack (kind_by code model text from) (model c)
ReadsBack-kind_by {C} {V} code model text from c same back =
    let answer : Result C Reason → Option V = λ r. option_map model (result_ok r) in
    ap (λ (x : C). answer (from (text x))) same ∙ ap answer back

pub map_back : {A B : Type 0} (f : A → B) (g : B → A) → ((x : A) → g (f x) ≡ x) → (xs : List A) → map g (map f xs) ≡ xs
map_back f g back [] = refl
map_back {A} f g back (x ∷ xs) = ap₂ (λ (y : A) (ys : List A). y ∷ ys) (back x) (map_back f g back xs)

pub ids_back : (us : List Id) → map id_of (map number_of us) ≡ us
ids_back us = map_back number_of id_of (λ u. refl) us

pub name_back : (name : CodeName) → code_name (name_of name) ≡ name
name_back (code.ShardSnap s u) = refl
name_back name = refl

pub entries_back : (es : List CodeEntry) → map code_entry (map entry_of es) ≡ es
entries_back es = map_back entry_of code_entry (λ e. refl) es

snap_list_back : (l : CodeList) → code_snap_list (snap_list_of l) ≡ l
snap_list_back l = let made : List Id → CodeList = λ us. record { files = us; uuid = l.uuid } in ap made (ids_back l.files)

pub shard_index_back : (v : IndexValue) → code_shard_index (shard_index_of v) ≡ v
shard_index_back v =
    let made : List CodeEntry → List CodeList → IndexValue = λ es ls. record { files = es; snapshots = ls } in
    ap₂ made (entries_back v.files) (map_back snap_list_of code_snap_list snap_list_back v.snapshots)

is_of_layout-from : (name : CodeName) → HasIds name → IsName name → is_of_layout name ≡ true
unfolding is_of_layout HasIds IsName
is_of_layout-from (code.Root n) ids fits = lt-ltb _ _ fits
is_of_layout-from code.Latest ids fits = refl
is_of_layout-from (code.IndexMeta i u) ids fits = and_from _ _ (lt-ltb _ _ ids.0) (lt-ltb _ _ ids.1)
is_of_layout-from (code.ShardSnap s u) ids fits = and_from _ _ (and_from _ _ (lt-ltb _ _ ids.0) (lt-ltb _ _ ids.1)) (lt-ltb _ _ fits)
is_of_layout-from (code.ShardIndex s g) ids fits = and_from _ _ (and_from _ _ (lt-ltb _ _ ids.0) (lt-ltb _ _ ids.1)) (lt-ltb _ _ fits)
is_of_layout-from (code.Whole s x) ids fits = and_from _ _ (and_from _ _ (lt-ltb _ _ ids.0) (lt-ltb _ _ ids.1)) (lt-ltb _ _ fits)
is_of_layout-from (code.Part s x k) ids fits = and_from _ _ (and_from _ _ (lt-ltb _ _ ids.0) (lt-ltb _ _ ids.1)) (and_from _ _ (lt-ltb _ _ fits.0) (lt-ltb _ _ fits.1))
is_of_layout-from (code.TestNode v w) ids fits = and_from _ _ (lt-ltb _ _ ids) (lt-ltb _ _ fits)
is_of_layout-from name ids fits = lt-ltb _ _ ids

-- the text of a name of the layout reads as the name
pub read_name-name_text : (name : CodeName) → HasIds name → IsName name → read_name (name_text name) ≡ Some name
unfolding read_name
read_name-name_text name ids fits =
    let kept : Bool → Option CodeName = λ b. cond b (Some name) None in
    ap (option_and_then (checked_name (name_text name))) (name_of-name_text name ids fits)
    ∙ ap kept (and_from _ _ (is_of_layout-from name ids fits) ((bytes_eq-Decides (name_text name) (name_text name)).1 refl))

pub name_reads_back : (name : CodeName) → HasIds name → IsName name → ReadsBack name_kind (name_of name)
unfolding name_kind
name_reads_back name ids fits =
    ap (λ (n : CodeName). option_map name_of (read_name (name_text n))) (name_back name) ∙ ap (option_map name_of) (read_name-name_text name ids fits)

pub shard_index_reads_back : (v : IndexValue) → IsShardIndex v → ReadsBack shard_index_kind (shard_index_of v)
unfolding shard_index_kind
shard_index_reads_back v h = ReadsBack-kind_by code_shard_index shard_index_of shard_index_text shard_index_from v (shard_index_back v) (index_reads_back v h)
