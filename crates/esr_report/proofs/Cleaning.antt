-- What a cleanup took away, as far as the entries were read.
use Rattle.std.proofs.Common.{◌≡◌, ℕ, ◌+◌, ◌<◌, ◌≤◌, min, Bool, true, false, ◌||◌, List, [], ◌∷◌, ◌++◌, map, length, take, drop, get_or, sum_by, Some, refl, sym, ap, ◌∙◌, arith}
use Rattle.std.proofs.lemmas.List.{drop_more, at_drop_all, take_more, take_all, length-map}
use Rattle.std.proofs.lemmas.List.Folds.{list_any-append}
use Rattle.std.proofs.lemmas.List.Sums.{sum_by_push}
use Rattle.std.proofs.lemmas.Map.Keys.{IsDistinct-from_sorted}
use Rattle.std.proofs.lemmas.Map.Lookups.{exact_bytes}
use Rattle.std.proofs.lemmas.Map.Made.{length-from_keys}
use Rattle.std.specs.List.{list_any, AllByRecursion, IsDistinct}
use Rattle.std.specs.declared.alloc.Global.{Global}
use Rattle.std.specs.declared.cmp.Ordering.{Ordering}
use Rattle.std.specs.declared.cmp.Ordering.TheVariants.{Less, Equal, Greater}
use Rattle.std.specs.declared.vec.Vec.{Vec}
use Rattle.std.specs.Ordering.{nat_cmp, match_ordering, eq_by_cmp}
use Rattle.std.specs.Cmp.{eq_by_cmp_equiv}
use Rattle.std.specs.Cmp.Lexicographic.{slice_cmp, nat_list_cmp_total}
use Rattle.std.specs.BTreeSet.{BTreeSet, insert_key, IsOrdered}
use Rattle.std.proofs.Math.Bool.{or-false}
use Rattle.esr_names.specs.declared.blob.BlobName.{BlobName as CodeName}
use Rattle.esr_model.specs.Names.{BlobName}
use Rattle.esr_model.specs.Values.{Bytes}
use Rattle.esr_model.specs.Uploads.{same_bytes}
use Rattle.esr_core.specs.Entry.{Entry}
use Rattle.esr_formats.specs.Names.{name_of, name_kind}
use Rattle.esr_report.specs.Cleaned.{is_cleanup_ticket, gone_at, page_at, has_text, is_gone, sizes_where, texts_gone, blobs_gone, bytes_gone}
use Rattle.esr_report.specs.Replies.{Cleaned, cleaned_by}
use Rattle.esr_report.specs.Ends.{holds_text}

-- ---- answers of two tests, of which one holds

or_twice : (a b : Bool) → (a || (a || b)) ≡ (a || b)
or_twice true b = refl
or_twice false b = refl

or_swap : (a b c : Bool) → (a || (b || c)) ≡ (b || (a || c))
or_swap true true c = refl
or_swap a b c = refl

or_both : (a b c : Bool) → ((a || b) || c) ≡ (a || (b || c))
or_both true b c = refl
or_both false b c = refl

-- ---- a set of texts

abbrev vec_cmp : Vec ℕ Global → Vec ℕ Global → Ordering
vec_cmp a b = slice_cmp nat_cmp a.items b.items

abbrev is_key : Bytes → Vec ℕ Global → Bool
is_key text key = same_bytes text key.items

-- one key more, by how it stands to the first of the others
placed : (text : Bytes) (key x : Vec ℕ Global) (keys later : List (Vec ℕ Global)) (o : Ordering) → vec_cmp key x ≡ o → list_any (is_key text) later ≡ (is_key text key || list_any (is_key text) keys)
    → list_any (is_key text) (match_ordering o (key ∷ x ∷ keys) (x ∷ keys) (x ∷ later)) ≡ (is_key text key || (is_key text x || list_any (is_key text) keys))
placed text key x keys later Less is more = refl
placed text key x keys later Equal is more =
    let rest : Bool = list_any (is_key text) keys in
    let same : is_key text x ≡ is_key text key = ap (same_bytes text) (sym (exact_bytes key.items x.items is)) in
    sym (or_twice (is_key text x) rest) ∙ ap (λ (b : Bool). b || (is_key text x || rest)) same
placed text key x keys later Greater is more = ap (λ (b : Bool). is_key text x || b) more ∙ or_swap (is_key text x) (is_key text key) (list_any (is_key text) keys)

inserted : (text : Bytes) (keys : List (Vec ℕ Global)) (key : Vec ℕ Global) → list_any (is_key text) (insert_key vec_cmp keys key) ≡ (is_key text key || list_any (is_key text) keys)
inserted text [] key = refl
inserted text (x ∷ keys) key = placed text key x keys (insert_key vec_cmp keys key) (vec_cmp key x) refl (inserted text keys key)

-- the texts of some names were added, and now that of the next one
pub texts_read : (names : List CodeName) (i : ℕ) (d : CodeName) (old now new : BTreeSet (Vec ℕ Global)) (key : Vec ℕ Global) (none written text : Bytes) → i < length names → none ≡ []
    → written ≡ none ++ name_kind.text (name_of (get_or names i d)) → key.items ≡ written
    → new.keys ≡ insert_key vec_cmp now.keys key → (holds_text old text || has_text (map name_of names) text) ≡ (holds_text now text || has_text (map name_of (drop i names)) text)
    → (holds_text old text || has_text (map name_of names) text) ≡ (holds_text new text || has_text (map name_of (drop (i + 1) names)) text)
texts_read names i d old now new key none written text less empty appended moved keys read =
    let x : CodeName = get_or names i d in
    let rest : Bool = has_text (map name_of (drop (i + 1) names)) text in
    let named : Bool = same_bytes text (name_kind.text (name_of x)) in
    let is : key.items ≡ name_kind.text (name_of x) = moved ∙ appended ∙ ap (λ (t : Bytes). t ++ name_kind.text (name_of x)) empty in
    let held : holds_text new text ≡ (named || holds_text now text) = ap (list_any (is_key text)) keys ∙ inserted text now.keys key ∙ ap (λ (t : Bytes). same_bytes text t || holds_text now text) is in
    read ∙ ap (λ (ns : List CodeName). holds_text now text || has_text (map name_of ns) text) (drop_more names i d less) ∙ or_swap (holds_text now text) named rest ∙ sym (or_both named (holds_text now text) rest)
    ∙ ap (λ (b : Bool). b || rest) (sym held)

pub texts_all : (names : List CodeName) (i : ℕ) (old now : BTreeSet (Vec ℕ Global)) (text : Bytes) → length names ≤ i
    → (holds_text old text || has_text (map name_of names) text) ≡ (holds_text now text || has_text (map name_of (drop i names)) text)
    → holds_text now text ≡ (holds_text old text || has_text (map name_of names) text)
texts_all names i old now text past read = sym (read ∙ at_drop_all (λ (ns : List CodeName). holds_text now text || has_text (map name_of ns) text) names i past ∙ or-false (holds_text now text))

-- ---- how many texts a set has

texts_apart : (x : Vec ℕ Global) (keys : List (Vec ℕ Global)) → AllByRecursion (λ (y : Vec ℕ Global). eq_by_cmp vec_cmp x y ≡ false) keys
    → AllByRecursion (λ (text : Bytes). same_bytes x.items text ≡ false) (map (λ (key : Vec ℕ Global). key.items) keys)
texts_apart x [] apart = tt
texts_apart x (y ∷ keys) apart = (apart.0, texts_apart x keys apart.1)

texts_distinct : (keys : List (Vec ℕ Global)) → IsDistinct (eq_by_cmp vec_cmp) keys → IsDistinct same_bytes (map (λ (key : Vec ℕ Global). key.items) keys)
unfolding IsDistinct
texts_distinct [] distinct = tt
texts_distinct (x ∷ keys) distinct = (texts_apart x keys distinct.0, texts_distinct keys distinct.1)

text_held : (keys : List (Vec ℕ Global)) (text : Bytes) → list_any (same_bytes text) (map (λ (key : Vec ℕ Global). key.items) keys) ≡ list_any (is_key text) keys
text_held [] text = refl
text_held (x ∷ keys) text = ap (λ (b : Bool). same_bytes text x.items || b) (text_held keys text)

text_named : (names : List BlobName) (text : Bytes) → list_any (same_bytes text) (map (λ (name : BlobName). name_kind.text name) names) ≡ has_text names text
text_named [] text = refl
text_named (x ∷ names) text = ap (λ (b : Bool). same_bytes text (name_kind.text x) || b) (text_named names text)

text_gone : (all : List Entry) (k : ℕ) (text : Bytes) → list_any (same_bytes text) (texts_gone all k) ≡ is_gone all k text
text_gone [] k text = refl
text_gone (e ∷ all) k text =
    list_any-append (same_bytes text) (map (λ (name : BlobName). name_kind.text name) (gone_at k e)) (texts_gone all k)
    ∙ ap (λ (b : Bool). b || list_any (same_bytes text) (texts_gone all k)) (text_named (gone_at k e) text) ∙ ap (λ (b : Bool). has_text (gone_at k e) text || b) (text_gone all k text)

-- as many as names were taken away, each counted once
pub texts_count : (all : List Entry) (k : ℕ) (texts : BTreeSet (Vec ℕ Global)) → IsOrdered vec_cmp texts → holds_text texts ≡ is_gone all k → length texts.keys ≡ blobs_gone all k
texts_count all k texts ordered same =
    let items : List Bytes = map (λ (key : Vec ℕ Global). key.items) texts.keys in
    sym (length-map texts.keys (λ (key : Vec ℕ Global). key.items))
    ∙ length-from_keys (eq_by_cmp_equiv nat_list_cmp_total) items (texts_gone all k) (texts_distinct texts.keys (IsDistinct-from_sorted vec_cmp texts.keys ordered))
    (λ (text : Bytes). text_held texts.keys text ∙ ap (λ (passes : Bytes → Bool). passes text) same ∙ sym (text_gone all k text))

-- so the drop of the op is answered
pub cleaned_as : (all : List Entry) (k blobs bytes : ℕ) → is_cleanup_ticket all k ≡ true → blobs ≡ blobs_gone all k → bytes ≡ bytes_gone all k → Some (Cleaned blobs bytes) ≡ cleaned_by all k (is_cleanup_ticket all k)
cleaned_as all k blobs bytes cleanup counted summed = ap (λ (n : ℕ). Some (Cleaned n bytes)) counted ∙ ap (λ (n : ℕ). Some (Cleaned (blobs_gone all k) n)) summed ∙ ap (cleaned_by all k) (sym cleanup)

-- ---- the entries of a ticket

pub gone_unread : (all : List Entry) (k : ℕ) (now : BTreeSet (Vec ℕ Global)) (text : Bytes) → now.keys ≡ [] → is_gone all k text ≡ (holds_text now text || is_gone all k text)
gone_unread all k now text none = ap (λ (keys : List (Vec ℕ Global)). list_any (is_key text) keys || is_gone all k text) (sym none)

-- one entry more was read
pub gone_read : (all : List Entry) (k i : ℕ) (e : Entry) (now new : BTreeSet (Vec ℕ Global)) (names : List CodeName) (text : Bytes) → i < length all → e ≡ get_or all i e → map name_of names ≡ gone_at k e
    → holds_text new text ≡ (holds_text now text || has_text (map name_of names) text) → is_gone all k text ≡ (holds_text now text || is_gone (drop i all) k text)
    → is_gone all k text ≡ (holds_text new text || is_gone (drop (i + 1) all) k text)
gone_read all k i e now new names text less is here added read =
    let rest : Bool = is_gone (drop (i + 1) all) k text in
    let next : drop i all ≡ e ∷ drop (i + 1) all = drop_more all i e less ∙ ap (λ (z : Entry). z ∷ drop (i + 1) all) (sym is) in
    let held : holds_text new text ≡ (holds_text now text || has_text (gone_at k e) text) = added ∙ ap (λ (ns : List BlobName). holds_text now text || has_text ns text) here in
    read ∙ ap (λ (es : List Entry). holds_text now text || is_gone es k text) next ∙ sym (or_both (holds_text now text) (has_text (gone_at k e) text) rest) ∙ ap (λ (b : Bool). b || rest) (sym held)

pub gone_all : (all : List Entry) (k i : ℕ) (now : BTreeSet (Vec ℕ Global)) → length all ≤ i → ((text : Bytes) → is_gone all k text ≡ (holds_text now text || is_gone (drop i all) k text)) → holds_text now ≡ is_gone all k
gone_all all k i now past read = λ at text. here text at
  where
    here : (text : Bytes) → holds_text now text ≡ is_gone all k text
    here text = sym (read text ∙ at_drop_all (λ (es : List Entry). holds_text now text || is_gone es k text) all i past ∙ or-false (holds_text now text))

-- ---- sums

-- one more was added, whose own sum stops at the limit
pub sum_read : {A : Type 0} (f : A → ℕ) (all : List A) (i : ℕ) (x : A) (limit now more new : ℕ) → i < length all → x ≡ get_or all i x → more ≡ min (f x) limit → new ≡ min (now + more) limit
    → now ≡ min (sum_by f (take i all)) limit → new ≡ min (sum_by f (take (i + 1) all)) limit
sum_read {A} f all i x limit now more new less is own added read =
    let next : sum_by f (take (i + 1) all) ≡ sum_by f (take i all) + f x = ap (sum_by f) (take_more all i x less ∙ ap (λ (z : A). take i all ++ z ∷ []) (sym is)) ∙ sum_by_push f (take i all) x in
    omega (arith, next, own, added, read)

-- all were added, by the texts that the set has
pub sum_all : (all : List Entry) (k i limit now : ℕ) (holds gone : Bytes → Bool) → length all ≤ i → holds ≡ gone → now ≡ min (sum_by (λ (e : Entry). sizes_where holds (page_at k e)) (take i all)) limit
    → now ≡ min (sum_by (λ (e : Entry). sizes_where gone (page_at k e)) all) limit
sum_all all k i limit now holds gone past same read =
    read ∙ ap (λ (es : List Entry). min (sum_by (λ (e : Entry). sizes_where holds (page_at k e)) es) limit) (take_all i all past)
    ∙ ap (λ (passes : Bytes → Bool). min (sum_by (λ (e : Entry). sizes_where passes (page_at k e)) all) limit) same
