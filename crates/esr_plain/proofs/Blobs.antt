-- What stored blobs are, and what they read as.
use Rattle.std.proofs.Common.{◌≡◌, ◌≢◌, Bool, true, Option, Some, None, option_map, Result, Ok, Err, IfOk, refl, sym, ap, ◌∙◌, subst}
use Rattle.std.specs.FinMap as fin
use Rattle.esr_json.specs.declared.refusal.ReadRefusal.{ReadRefusal}
use Rattle.esr_json.specs.declared.refusal.ReadRefusal.TheVariants as refusals
use Rattle.esr_formats.specs.Names.{name_kind}
use Rattle.esr_formats.specs.Roots.{root_kind}
use Rattle.esr_formats.specs.Infos.{info_kind}
use Rattle.esr_formats.specs.Globals.{global_kind}
use Rattle.esr_formats.specs.IndexMetas.{index_meta_kind}
use Rattle.esr_formats.specs.Shards.{shard_snap_kind, shard_index_kind}
use Rattle.esr_formats.specs.Kinds.{IsRead}
use Rattle.esr_formats.specs.Formats.{formats}
use Rattle.esr_model.specs.Names.{BlobName, Latest}
use Rattle.esr_model.specs.Values.{Bytes, Kind, Formats}
use Rattle.esr_model.specs.Image.{Blobs, At, IsOne, Reads}
use Rattle.esr_plain.specs.Exactly.{Always, IsExactly}
use Rattle.esr_plain.specs.Settled.{settled}
use Rattle.esr_plain.proofs.Loops.{exact_some, exact_none}
use Rattle.std.specs.declared.alloc.AllocError.{AllocError}

some_same : {A : Type 0} (x y : A) → Some x ≡ Some y → x ≡ y
some_same x y e = cc

some_none : {A : Type 0} (o : Option A) (x : A) → o ≡ None → o ≡ Some x → ⊥
some_none o x none some = cc

-- a name has one content, and a blob reads as one value
pub at_one : (f : Formats) (blobs : Blobs) → IsOne (At f blobs)
at_one f blobs name a b p q = some_same a b (sym p.0 ∙ q.0)

pub reads_one : (has : BlobName → Bytes → Type 0) → IsOne has → {V : Type 0} (name : BlobName) (kind : Kind V) (v w : V) → Reads has name kind v → Reads has name kind w → v ≡ w
reads_one has one name kind v w a b = some_same v w (sym a.reads ∙ ap kind.read (one name a.bytes b.bytes a.there b.there) ∙ b.reads)

-- ---- a blob by its name

abbrev pub IsStoredAs : BlobName → Bytes → Type 0
IsStoredAs name text = (name_kind.read text ≡ Some name) × (name ≢ Latest)

pub not_stored : (blobs : Blobs) (name : BlobName) (text : Bytes) → text ≡ name_kind.text name → (IsStoredAs name text → ⊥) → Always (λ f. (b : Bytes) → At f blobs name b → ⊥)
unfolding formats
not_stored blobs name text is none known told b at = none (ap name_kind.read is ∙ at.1.0, at.1.1)

pub stored_at : (blobs : Blobs) (name : BlobName) (text b : Bytes) → text ≡ name_kind.text name → IsStoredAs name text → fin.get blobs text ≡ Some b → Always (λ f. At f blobs name b)
unfolding formats
stored_at blobs name text b is stored there known told = (ap (λ (t : Bytes). fin.get blobs t) (sym is) ∙ there, (ap name_kind.read (sym is) ∙ stored.0, stored.1))

pub absent_at : (blobs : Blobs) (name : BlobName) (text : Bytes) → text ≡ name_kind.text name → fin.get blobs text ≡ None → Always (λ f. (b : Bytes) → At f blobs name b → ⊥)
unfolding formats
absent_at blobs name text is absent known told b at = some_none (fin.get blobs text) b absent (ap (λ (t : Bytes). fin.get blobs t) is ∙ at.0)

-- ---- a blob that is read

pub root_is : Always (λ f. f.root ≡ root_kind)
unfolding formats
root_is known told = refl

pub info_is : Always (λ f. f.info ≡ info_kind)
unfolding formats
info_is known told = refl

pub global_is : Always (λ f. f.global ≡ global_kind)
unfolding formats
global_is known told = refl

pub index_meta_is : Always (λ f. f.index_meta ≡ index_meta_kind)
unfolding formats
index_meta_is known told = refl

pub shard_snap_is : Always (λ f. f.shard_snap ≡ shard_snap_kind)
unfolding formats
shard_snap_is known told = refl

pub shard_index_is : Always (λ f. f.shard_index ≡ shard_index_kind)
unfolding formats
shard_index_is known told = refl

exact_reading : {C V : Type 0} (kind : Kind V) (of : Formats → Kind V) (model : C → V) (blobs : Blobs) (name : BlobName) (bytes : Bytes) (read : Result C ReadRefusal)
    → Always (λ f. of f ≡ kind) → Always (λ f. At f blobs name bytes) → IsRead kind model bytes read
    → IfOk (settled read) (λ o. Always (λ f. IsExactly (Reads (At f blobs) name (of f)) (option_map model o)))
exact_reading {C} {V} kind of model blobs name bytes (Ok x) same there is = λ known told. record {
  bytes = bytes;
  there = there known told;
  reads = ap (λ (k : Kind V). k.read bytes) (same known told) ∙ is;
}
exact_reading kind of model blobs name bytes (Err refusals.Memory) same there is = tt
exact_reading {C} {V} kind of model blobs name bytes (Err (refusals.Damaged why)) same there is = λ known told v reads.
    let one : bytes ≡ reads.bytes = at_one (formats known told) blobs name bytes reads.bytes (there known told) reads.there in
    some_none (kind.read bytes) v is (ap kind.read one ∙ ap (λ (k : Kind V). k.read reads.bytes) (sym (same known told)) ∙ reads.reads)

-- a blob that is there is read
pub reading_exact : {C V : Type 0} (kind : Kind V) (of : Formats → Kind V) (model : C → V) (blobs : Blobs) (name : BlobName) (o : Option Bytes) (b bytes : Bytes) (read : Result C ReadRefusal) (result : Result (Option C) AllocError)
    → Always (λ f. of f ≡ kind) → Always (λ f. IsExactly (At f blobs name) o) → o ≡ Some b → bytes ≡ b → IsRead kind model bytes read → result ≡ settled read
    → IfOk result (λ o. Always (λ f. IsExactly (Reads (At f blobs) name (of f)) (option_map model o)))
reading_exact {C} {V} kind of model blobs name o b bytes read result same exact is bytes_is reads settles =
    let there : Always (λ f. At f blobs name bytes) = (λ known told. subst (At (formats known told) blobs name) (sym bytes_is) (exact_some (At (formats known told) blobs name) o b is (exact known told))) in
    subst (λ (r : Result (Option C) AllocError). IfOk r (λ o. Always (λ f. IsExactly (Reads (At f blobs) name (of f)) (option_map model o)))) (sym settles)
    (exact_reading kind of model blobs name bytes read same there reads)

-- a blob that isn't there reads as nothing
pub reading_none : {V : Type 0} (of : Formats → Kind V) (blobs : Blobs) (name : BlobName) (o : Option Bytes) → Always (λ f. IsExactly (At f blobs name) o) → o ≡ None → Always (λ f. (v : V) → Reads (At f blobs) name (of f) v → ⊥)
reading_none of blobs name o exact is known told v reads = exact_none (At (formats known told) blobs name) o is (exact known told) reads.bytes reads.there

-- ---- what was read

pub was_read : {C V : Type 0} (of : Formats → Kind V) (model : C → V) (blobs : Blobs) (name : BlobName) (o : Option C) (x : C) → Always (λ f. IsExactly (Reads (At f blobs) name (of f)) (option_map model o)) → o ≡ Some x
    → Always (λ f. Reads (At f blobs) name (of f) (model x))
was_read of model blobs name o x exact is known told = exact_some (Reads (At (formats known told) blobs) name (of (formats known told))) (option_map model o) (model x) (ap (option_map model) is) (exact known told)

pub was_unread : {C V : Type 0} (of : Formats → Kind V) (model : C → V) (blobs : Blobs) (name : BlobName) (o : Option C) → Always (λ f. IsExactly (Reads (At f blobs) name (of f)) (option_map model o)) → o ≡ None
    → Always (λ f. (v : V) → Reads (At f blobs) name (of f) v → ⊥)
was_unread of model blobs name o exact is known told = exact_none (Reads (At (formats known told) blobs) name (of (formats known told))) (option_map model o) (ap (option_map model) is) (exact known told)

-- a test on a value that was read is one on what the blob reads as
pub value_exact : {V : Type 0} (has : BlobName → Bytes → Type 0) → IsOne has → (name : BlobName) (kind : Kind V) (v w : V) (b : Bool) → Reads has name kind v → (b ≡ true → v ≡ w) × (v ≡ w → b ≡ true)
    → (b ≡ true → Reads has name kind w) × (Reads has name kind w → b ≡ true)
value_exact has one name kind v w b reads is = (λ e. subst (Reads has name kind) (is.0 e) reads, λ other. is.1 (reads_one has one name kind v w reads other))
