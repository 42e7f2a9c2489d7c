-- The text of a name of the layout is UTF-8, and reads as the name.
use Rattle.std.proofs.Common.{◌≡◌, ℕ, ◌<◌, ◌^◌, Bool, true, ◌&&◌, List, ◌++◌, codes, Option, Some, None, option_map, IfSome, IsUtf8, bytes_eq, refl, sym, ap, subst, ◌∙◌, arith}
use Rattle.std.specs.Prelude.{decimal, option_and_then}
use Rattle.std.proofs.lemmas.Bool.{and_parts, ltb-true}
use Rattle.std.proofs.lemmas.Slice.Eq.{bytes_eq-Decides}
use Rattle.std.proofs.lemmas.Fmt.{IsAscii-decimal}
use Rattle.std.proofs.lemmas.Str.{IsUtf8-append, IsUtf8-from_ascii}
use Rattle.json.proofs.Printed.Utf8.{IsUtf8-are_ascii}
use Rattle.std.proofs.lemmas.Option.{cond_some}
use Rattle.esr_names.specs.declared.ids.Id.{Id}
use Rattle.esr_names.specs.declared.blob.ShardId.{ShardId}
use Rattle.esr_names.specs.declared.blob.BlobName.{BlobName as CodeName}
use Rattle.esr_names.specs.declared.blob.BlobName.TheVariants as code
use Rattle.esr_names.specs.Layout.{text_of_id, below, name_text, IsName, HasIds}
use Rattle.esr_names.specs.Reading as reading
use Rattle.esr_names.specs.IdTextLaws.{IsUtf8-id_text}
use Rattle.esr_model.specs.Names.{BlobName}
use Rattle.esr_model.specs.Values.{Bytes}
use Rattle.esr_formats.specs.Names.{name_of, is_of_layout, checked_name, read_name, name_kind}
use Rattle.esr_formats.specs.ReadBack.{name_back, read_name-name_text}

-- ---- UTF-8

number_utf8 : (n : ℕ) → n < 2 ^ 64 → IsUtf8 (decimal n)
number_utf8 n fits = IsUtf8-from_ascii (decimal n) (IsAscii-decimal n fits)

dat_utf8 : (u : Id) → IsUtf8 (text_of_id u ++ codes ".dat")
dat_utf8 u = IsUtf8-append _ _ (IsUtf8-id_text u.number) (IsUtf8-are_ascii (codes ".dat") refl)

below_utf8 : (s : ShardId) (rest : List ℕ) → s.number < 1024 → IsUtf8 rest → IsUtf8 (below s rest)
below_utf8 s rest small utf8 =
    IsUtf8-append (codes "indices/") _ (IsUtf8-are_ascii (codes "indices/") refl)
    (IsUtf8-append _ _ (IsUtf8-id_text s.index.number)
    (IsUtf8-append (codes "/") _ (IsUtf8-are_ascii (codes "/") refl)
    (IsUtf8-append _ _ (number_utf8 s.number (omega arith))
    (IsUtf8-append (codes "/") rest (IsUtf8-are_ascii (codes "/") refl) utf8))))

pub name_text_utf8 : (name : CodeName) → IsName name → IsUtf8 (name_text name)
unfolding name_text IsName
name_text_utf8 (code.Root n) fits = IsUtf8-append (codes "index-") _ (IsUtf8-are_ascii (codes "index-") refl) (number_utf8 n (omega arith))
name_text_utf8 code.Latest fits = IsUtf8-are_ascii (codes "index.latest") refl
name_text_utf8 (code.Snap u) fits = IsUtf8-append (codes "snap-") _ (IsUtf8-are_ascii (codes "snap-") refl) (dat_utf8 u)
name_text_utf8 (code.Meta u) fits = IsUtf8-append (codes "meta-") _ (IsUtf8-are_ascii (codes "meta-") refl) (dat_utf8 u)
name_text_utf8 (code.IndexMeta i u) fits =
    IsUtf8-append (codes "indices/") _ (IsUtf8-are_ascii (codes "indices/") refl)
    (IsUtf8-append _ _ (IsUtf8-id_text i.number) (IsUtf8-append (codes "/meta-") _ (IsUtf8-are_ascii (codes "/meta-") refl) (dat_utf8 u)))
name_text_utf8 (code.ShardSnap s u) fits = below_utf8 s _ fits (IsUtf8-append (codes "snap-") _ (IsUtf8-are_ascii (codes "snap-") refl) (dat_utf8 u))
name_text_utf8 (code.ShardIndex s g) fits = below_utf8 s _ fits (IsUtf8-append (codes "index-") _ (IsUtf8-are_ascii (codes "index-") refl) (IsUtf8-id_text g.number))
name_text_utf8 (code.Whole s x) fits = below_utf8 s _ fits (IsUtf8-append (codes "__") _ (IsUtf8-are_ascii (codes "__") refl) (IsUtf8-id_text x.number))
name_text_utf8 (code.Part s x k) fits =
    below_utf8 s _ fits.0
    (IsUtf8-append (codes "__") _ (IsUtf8-are_ascii (codes "__") refl)
    (IsUtf8-append _ _ (IsUtf8-id_text x.number) (IsUtf8-append (codes ".part") _ (IsUtf8-are_ascii (codes ".part") refl) (number_utf8 k (omega arith)))))
name_text_utf8 (code.TestMaster v) fits =
    IsUtf8-append (codes "tests-") _ (IsUtf8-are_ascii (codes "tests-") refl) (IsUtf8-append _ _ (IsUtf8-id_text v.number) (IsUtf8-are_ascii (codes "/master.dat") refl))
name_text_utf8 (code.TestNode v w) fits =
    IsUtf8-append (codes "tests-") _ (IsUtf8-are_ascii (codes "tests-") refl)
    (IsUtf8-append _ _ (IsUtf8-id_text v.number)
    (IsUtf8-append (codes "/data-w") _ (IsUtf8-are_ascii (codes "/data-w") refl) (IsUtf8-append _ _ (number_utf8 w (omega arith)) (IsUtf8-are_ascii (codes ".dat") refl))))

-- ---- the names of the layout

two_ids : (x y z : Bool) → ((x && y) && z) ≡ true → (x ≡ true) × (y ≡ true) × (z ≡ true)
two_ids true true z h = (refl, refl, h)
two_ids x y z h = absurd cc

pub is_of_layout-says : (name : CodeName) → is_of_layout name ≡ true → HasIds name × IsName name
unfolding is_of_layout HasIds IsName
is_of_layout-says (code.Root n) h = (tt, ltb-true _ _ h)
is_of_layout-says code.Latest h = (tt, tt)
is_of_layout-says (code.IndexMeta i u) h = let p = and_parts _ _ h in ((ltb-true _ _ p.0, ltb-true _ _ p.1), tt)
is_of_layout-says (code.ShardSnap s u) h = let p = two_ids _ _ _ h in ((ltb-true _ _ p.0, ltb-true _ _ p.1), ltb-true _ _ p.2)
is_of_layout-says (code.ShardIndex s g) h = let p = two_ids _ _ _ h in ((ltb-true _ _ p.0, ltb-true _ _ p.1), ltb-true _ _ p.2)
is_of_layout-says (code.Whole s x) h = let p = two_ids _ _ _ h in ((ltb-true _ _ p.0, ltb-true _ _ p.1), ltb-true _ _ p.2)
is_of_layout-says (code.Part s x k) h = let p = two_ids _ _ _ h in let q = and_parts _ _ p.2 in ((ltb-true _ _ p.0, ltb-true _ _ p.1), (ltb-true _ _ q.0, ltb-true _ _ q.1))
is_of_layout-says (code.TestNode v w) h = let p = and_parts _ _ h in (ltb-true _ _ p.0, ltb-true _ _ p.1)
is_of_layout-says name h = (ltb-true _ _ h, tt)

-- ---- reading

checked_is : (bytes : Bytes) (o : Option CodeName) (name : CodeName) → option_and_then (checked_name bytes) o ≡ Some name → HasIds name × IsName name × (bytes ≡ name_text name)
checked_is bytes None name h = absurd cc
checked_is bytes (Some n) name h =
    let found = cond_some (is_of_layout n && bytes_eq (name_text n) bytes) n name h in
    let tests = and_parts (is_of_layout n) (bytes_eq (name_text n) bytes) found.0 in
    let says = is_of_layout-says n tests.0 in
    (subst HasIds found.1 says.0, subst IsName found.1 says.1, sym ((bytes_eq-Decides (name_text n) bytes).0 tests.1) ∙ ap name_text found.1)

-- what reads as a name is the text of that name, which is one of the layout
pub read_name-says : (bytes : Bytes) (name : CodeName) → read_name bytes ≡ Some name → HasIds name × IsName name × (bytes ≡ name_text name)
unfolding read_name
read_name-says bytes name h = checked_is bytes (reading.name_of bytes) name h

none_when : {A : Type 0} (o : Option A) → ((x : A) → o ≡ Some x → ⊥) → o ≡ None
none_when None h = refl
none_when (Some x) h = absurd (h x refl)

-- the parser answers what reads
pub parsed_is : (bytes : Bytes) (r : Option CodeName) → IfSome r (λ name. HasIds name × IsName name × (bytes ≡ name_text name))
    → ((name : CodeName) → HasIds name → IsName name → bytes ≡ name_text name → r ≡ Some name) → name_kind.read bytes ≡ option_map name_of r
unfolding name_kind
parsed_is bytes None found only =
    ap (option_map name_of) (none_when (read_name bytes) (λ name h. let s = read_name-says bytes name h in let e : None ≡ Some name = only name s.0 s.1 s.2 in absurd cc))
parsed_is bytes (Some name) found only = ap (option_map name_of) (ap read_name found.2 ∙ read_name-name_text name found.0 found.1)

pub name_kind-text : (name : CodeName) → name_kind.text (name_of name) ≡ name_text name
unfolding name_kind
name_kind-text name = ap name_text (name_back name)

-- the text of the name that was parsed
pub parsed_text : (bytes : Bytes) (r : Option CodeName) → IfSome r (λ name. HasIds name × IsName name × (bytes ≡ name_text name)) → IfSome r (λ name. name_kind.text (name_of name) ≡ bytes)
parsed_text bytes None found = tt
parsed_text bytes (Some name) found = name_kind-text name ∙ sym found.2

exact : (bytes : Bytes) (r : Option CodeName) (a : BlobName) → ((name : CodeName) → r ≡ Some name → bytes ≡ name_text name) → option_map name_of r ≡ Some a → name_kind.text a ≡ bytes
exact bytes None a says h = absurd cc
exact bytes (Some name) a says h = let same : name_of name ≡ a = cc in ap name_kind.text (sym same) ∙ name_kind-text name ∙ sym (says name refl)

pub name_kind-exact : (bytes : Bytes) (a : BlobName) → name_kind.read bytes ≡ Some a → name_kind.text a ≡ bytes
unfolding name_kind
name_kind-exact bytes a h = exact bytes (read_name bytes) a (λ name is. (read_name-says bytes name is).2) h
