-- Shards in the order of the shelf.
use Rattle.std.proofs.Common.{◌≡◌, ℕ, zero, suc, ◌+◌, ◌<◌, Bool, true, false, if◌then◌else◌, List, [], ◌∷◌, ◌++◌, map, length, take, drop, get_or, sym, ap, ◌∙◌, append_assoc, arith}
use Rattle.std.proofs.lemmas.List.{append-nil, take_more, drop_more, take-map, drop-map, map-append}
use Rattle.esr_model.specs.Loops.{next}
use Rattle.esr_names.specs.declared.index_ref.IndexRef.{IndexRef as CodeRef}
use Rattle.esr_formats.specs.Refs.{ref_of_code}
use Rattle.esr_model.specs.Values.{IndexRef}
use Rattle.esr_model.specs.Places.{numbered, places, put_by}
use Rattle.esr_plain.specs.declared.places.Place.{Place}
use Rattle.esr_plain.specs.Places.{place_of}

-- ---- one more shard, one more index

numbered_from : (r : IndexRef) (first n : ℕ) → numbered r first (suc n) ≡ numbered r first n ++ (r, first + n) ∷ []
numbered_from r first zero = let same : first ≡ first + 0 = omega arith in ap (λ (k : ℕ). (r, k) ∷ []) same
numbered_from r first (suc n) =
    let same : suc first + n ≡ first + suc n = omega arith in
    ap (λ (l : List (IndexRef × ℕ)). (r, first) ∷ l) (numbered_from r (suc first) n) ∙ ap (λ (k : ℕ). (r, first) ∷ (numbered r (suc first) n ++ (r, k) ∷ [])) same

pub numbered_more : (r : IndexRef) (n : ℕ) → numbered r 0 (n + 1) ≡ numbered r 0 n ++ (r, n) ∷ []
numbered_more r n =
    let more : n + 1 ≡ suc n = omega arith in
    let same : 0 + n ≡ n = omega arith in
    ap (numbered r 0) more ∙ numbered_from r 0 n ∙ ap (λ (k : ℕ). numbered r 0 n ++ (r, k) ∷ []) same

pub places_push : (refs : List IndexRef) (r : IndexRef) → places (refs ++ r ∷ []) ≡ places refs ++ numbered r 0 r.shards
places_push [] r = append-nil (numbered r 0 r.shards)
places_push (q ∷ refs) r = ap (λ (l : List (IndexRef × ℕ)). numbered q 0 q.shards ++ l) (places_push refs r) ∙ sym (append_assoc (numbered q 0 q.shards) (places refs) (numbered r 0 r.shards))

-- the next shard of an index was appended
pub numbered_push : (old now new : List Place) (index own : CodeRef) (n : ℕ) → new ≡ now ++ record { index = index; number = n } ∷ [] → index ≡ own → map place_of now ≡ map place_of old ++ numbered (ref_of_code own) 0 n
    → map place_of new ≡ map place_of old ++ numbered (ref_of_code own) 0 (n + 1)
numbered_push old now new index own n is same so_far =
    let p : Place = record { index = index; number = n } in
    let ref = ref_of_code own in
    ap (map place_of) is ∙ map-append place_of now (p ∷ []) ∙ ap (λ (l : List (IndexRef × ℕ)). l ++ place_of p ∷ []) so_far
    ∙ append_assoc (map place_of old) (numbered ref 0 n) (place_of p ∷ [])
    ∙ ap (λ (r : CodeRef). map place_of old ++ (numbered ref 0 n ++ (ref_of_code r, n) ∷ [])) same ∙ ap (λ (l : List (IndexRef × ℕ)). map place_of old ++ l) (sym (numbered_more ref n))

-- the shards of the next index were appended
pub places_more : (refs : List CodeRef) (i : ℕ) (r : CodeRef) (old new : List Place) → i < length refs → r ≡ get_or refs i r → map place_of new ≡ map place_of old ++ numbered (ref_of_code r) 0 r.shards
    → map place_of old ≡ places (map ref_of_code (take i refs)) → map place_of new ≡ places (map ref_of_code (take (i + 1) refs))
places_more refs i r old new less is made so_far =
    made ∙ ap (λ (l : List (IndexRef × ℕ)). l ++ numbered (ref_of_code r) 0 r.shards) so_far ∙ sym (places_push (map ref_of_code (take i refs)) (ref_of_code r)) ∙ ap places (sym (next ref_of_code refs i r less is))

-- ---- a value that is put into an ordered list, seen from a place in the list

from_here : {A B : Type 0} (f : A → B) (xs : List A) (i : ℕ) (y : A) → i < length xs → y ≡ get_or xs i y → drop i (map f xs) ≡ f y ∷ drop (i + 1) (map f xs)
from_here {A} {B} f xs i y less is =
    drop-map f i xs ∙ ap (map f) (drop_more xs i y less ∙ ap (λ (z : A). z ∷ drop (i + 1) xs) (sym is)) ∙ ap (λ (l : List B). f y ∷ l) (sym (drop-map f (i + 1) xs))

up_to_next : {A B : Type 0} (f : A → B) (xs : List A) (i : ℕ) (y : A) → i < length xs → y ≡ get_or xs i y → take (i + 1) (map f xs) ≡ take i (map f xs) ++ f y ∷ []
up_to_next {A} {B} f xs i y less is =
    take-map f (i + 1) xs ∙ ap (map f) (take_more xs i y less ∙ ap (λ (z : A). take i xs ++ z ∷ []) (sym is)) ∙ map-append f (take i xs) (y ∷ []) ∙ ap (λ (l : List B). l ++ f y ∷ []) (sym (take-map f i xs))

-- it stands before the one at this place
pub put_here : {A B : Type 0} (first : B → B → Bool) (f : A → B) (x : B) (xs : List A) (i : ℕ) (y : A) → i < length xs → y ≡ get_or xs i y → first x (f y) ≡ true
    → put_by first x (drop i (map f xs)) ≡ x ∷ drop i (map f xs)
put_here {A} {B} first f x xs i y less is before =
    let rest = drop (i + 1) (map f xs) in
    let here = from_here f xs i y less is in
    ap (put_by first x) here ∙ ap (λ (b : Bool). if b then x ∷ f y ∷ rest else f y ∷ put_by first x rest) before ∙ ap (λ (l : List B). x ∷ l) (sym here)

-- it stands behind the one at this place
pub put_past : {A B : Type 0} (first : B → B → Bool) (f : A → B) (x : B) (xs : List A) (i : ℕ) (y : A) (all : List B) → i < length xs → y ≡ get_or xs i y → first x (f y) ≡ false
    → all ≡ take i (map f xs) ++ put_by first x (drop i (map f xs)) → all ≡ take (i + 1) (map f xs) ++ put_by first x (drop (i + 1) (map f xs))
put_past {A} {B} first f x xs i y all less is behind put =
    let rest = drop (i + 1) (map f xs) in
    let here : put_by first x (drop i (map f xs)) ≡ f y ∷ put_by first x rest = ap (put_by first x) (from_here f xs i y less is) ∙ ap (λ (b : Bool). if b then x ∷ f y ∷ rest else f y ∷ put_by first x rest) behind in
    put ∙ ap (λ (l : List B). take i (map f xs) ++ l) here ∙ sym (append_assoc (take i (map f xs)) (f y ∷ []) (put_by first x rest)) ∙ ap (λ (l : List B). l ++ put_by first x rest) (sym (up_to_next f xs i y less is))

-- what is inserted, seen through a function
pub inserted : {A B : Type 0} (f : A → B) (xs : List A) (i : ℕ) (y : A) → map f (take i xs ++ y ∷ drop i xs) ≡ take i (map f xs) ++ f y ∷ drop i (map f xs)
inserted {A} {B} f xs i y =
    map-append f (take i xs) (y ∷ drop i xs) ∙ ap (λ (l : List B). l ++ f y ∷ map f (drop i xs)) (sym (take-map f i xs)) ∙ ap (λ (l : List B). take i (map f xs) ++ f y ∷ l) (sym (drop-map f i xs))
