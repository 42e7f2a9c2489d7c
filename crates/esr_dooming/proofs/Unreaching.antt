-- The names among what a cleanup lists that are appended.
use Rattle.std.proofs.Common.{◌≡◌, ◌<◌, ◌≤◌, ◌+◌, ℕ, zero, suc, Bool, true, false, List, [], ◌∷◌, ◌++◌, map, flat_map, length, take, get_or, Some, sym, ap, ◌∙◌, inl, inr, arith, append_assoc}
use Rattle.std.specs.Prelude.{◌||◌, if◌then◌else◌}
use Rattle.std.proofs.lemmas.List.{append-nil, map-append, take_more, take_all}
use Rattle.std.proofs.lemmas.Grind.{flat_map-append}
use Rattle.esr_names.specs.declared.blob.BlobName.{BlobName as CodeName}
use Rattle.esr_core.specs.After.{is_latest}
use Rattle.esr_model.specs.Names.{BlobName}
use Rattle.esr_model.specs.Values.{Has}
use Rattle.esr_formats.specs.Names.{name_of}
use Rattle.esr_formats.specs.ReadBack.{name_back}
use Rattle.esr_reach.specs.Names.{Pushed}
use Rattle.esr_reach.specs.NamePieces.{pushed_one}
use Rattle.esr_dooming.specs.Unreached.{is_spared, name_piece, is_root, rest_piece}

-- ---- one name

pub spared_by : (has : CodeName → Bool) (a : CodeName) → (is_latest (name_of a) || has a) ≡ is_spared has (name_of a)
spared_by has a = ap (λ (b : CodeName). is_latest (name_of a) || has b) (sym (name_back a))

-- it is spared
pub not_pushed : (names : List CodeName) (has : CodeName → Bool) (name : BlobName) → is_spared has name ≡ true → Pushed names names (name_piece has (Some name))
not_pushed names has name spared = sym (append-nil (map name_of names)) ∙ ap (λ (b : Bool). map name_of names ++ (if b then [] else name ∷ [])) (sym spared)

-- it isn't
pub name_pushed : (old new : List CodeName) (has : CodeName → Bool) (a : CodeName) → is_spared has (name_of a) ≡ false → new ≡ old ++ a ∷ [] → Pushed old new (name_piece has (Some (name_of a)))
name_pushed old new has a spared is = pushed_one old new a is ∙ ap (λ (b : Bool). map name_of old ++ (if b then [] else name_of a ∷ [])) (sym spared)

-- ---- a page

pub page_next : {A : Type 0} (f : A → List BlobName) (first old new : List CodeName) (page : List A) (i : ℕ) (x : A) → i < length page → x ≡ get_or page i x → Pushed first old (flat_map f (take i page)) → Pushed old new (f x)
    → Pushed first new (flat_map f (take (i + 1) page))
page_next {A} f first old new page i x less is before more =
    let front : List A = take i page in
    let step : take (i + 1) page ≡ front ++ x ∷ [] = take_more page i x less ∙ ap (λ (y : A). front ++ y ∷ []) (sym is) in
    more ∙ ap (λ (l : List BlobName). l ++ f x) before ∙ append_assoc (map name_of first) (flat_map f front) (f x)
    ∙ ap (λ (l : List BlobName). map name_of first ++ l) (ap (λ (l : List BlobName). flat_map f front ++ l) (sym (append-nil (f x))) ∙ sym (flat_map-append f front (x ∷ [])) ∙ ap (flat_map f) (sym step))

pub page_all : {A : Type 0} (f : A → List BlobName) (first new : List CodeName) (page : List A) (i : ℕ) → length page ≤ i → Pushed first new (flat_map f (take i page)) → Pushed first new (flat_map f page)
page_all f first new page i past pushed = pushed ∙ ap (λ l. map name_of first ++ flat_map f l) (take_all i page past)

-- ---- the other names

-- one more of them, unless it is the root's
rest_next : (n : ℕ) (items : List CodeName) (i : ℕ) (x : CodeName) (old new : List CodeName) → i < length items → x ≡ get_or items i x → map name_of old ≡ flat_map (rest_piece n) (map name_of (take i items))
    → map name_of new ≡ map name_of old ++ rest_piece n (name_of x)
    → map name_of new ≡ flat_map (rest_piece n) (map name_of (take (i + 1) items))
rest_next n items i x old new less is before more =
    let f : BlobName → List BlobName = rest_piece n in
    let front : List CodeName = take i items in
    let step : map name_of (take (i + 1) items) ≡ map name_of front ++ name_of x ∷ [] = ap (map name_of) (take_more items i x less ∙ ap (λ (y : CodeName). front ++ y ∷ []) (sym is)) ∙ map-append name_of front (x ∷ []) in
    more ∙ ap (λ (l : List BlobName). l ++ f (name_of x)) before
    ∙ ap (λ (l : List BlobName). flat_map f (map name_of front) ++ l) (sym (append-nil (f (name_of x)))) ∙ sym (flat_map-append f (map name_of front) (name_of x ∷ [])) ∙ ap (flat_map f) (sym step)

pub rest_pushed : (n : ℕ) (items : List CodeName) (i : ℕ) (x : CodeName) (old new : List CodeName) → i < length items → x ≡ get_or items i x → is_root n (name_of x) ≡ false
    → map name_of old ≡ flat_map (rest_piece n) (map name_of (take i items)) → new ≡ old ++ x ∷ []
    → map name_of new ≡ flat_map (rest_piece n) (map name_of (take (i + 1) items))
rest_pushed n items i x old new less is other before pushed =
    rest_next n items i x old new less is before (pushed_one old new x pushed ∙ ap (λ (b : Bool). map name_of old ++ (if b then [] else name_of x ∷ [])) (sym other))

pub rest_passed : (n : ℕ) (items : List CodeName) (i : ℕ) (x : CodeName) (old new : List CodeName) → i < length items → x ≡ get_or items i x → is_root n (name_of x) ≡ true
    → map name_of old ≡ flat_map (rest_piece n) (map name_of (take i items)) → new ≡ old
    → map name_of new ≡ flat_map (rest_piece n) (map name_of (take (i + 1) items))
rest_passed n items i x old new less is own before same =
    rest_next n items i x old new less is before (ap (map name_of) same ∙ sym (append-nil (map name_of old)) ∙ ap (λ (b : Bool). map name_of old ++ (if b then [] else name_of x ∷ [])) (sym own))

pub rest_all : (n : ℕ) (items names rest : List CodeName) (i : ℕ) → items ≡ names → length items ≤ i → map name_of rest ≡ flat_map (rest_piece n) (map name_of (take i items))
    → map name_of rest ≡ flat_map (rest_piece n) (map name_of names)
rest_all n items names rest i same past so_far = so_far ∙ ap (λ (l : List CodeName). flat_map (rest_piece n) (map name_of l)) (take_all i items past ∙ same)

-- an item of a list
pub item_has : {A : Type 0} (xs : List A) (i : ℕ) (x : A) → i < length xs → x ≡ get_or xs i x → Has xs x
item_has [] i x less is = absurd (omega (arith, less))
item_has (y ∷ xs) zero x less is = inl (sym is)
item_has (y ∷ xs) (suc i) x less is = inr (item_has xs i x (omega (arith, less)) is)
