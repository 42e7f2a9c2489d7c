-- Values that are put down piece by piece.
use Rattle.std.proofs.Common.{◌≡◌, ℕ, ◌+◌, ◌<◌, ◌≤◌, List, [], ◌∷◌, ◌++◌, length, take, get_or, map, flat_map, refl, sym, ap, ◌∙◌, append_assoc, append-nil}
use Rattle.std.proofs.lemmas.List.{take_more, take_all}
use Rattle.json.specs.Token.{Token}
use Rattle.json.specs.Print.{print}
use Rattle.json.specs.Tree.{items_tokens}
use Rattle.json.specs.Written.{Written}
use Rattle.serde_json.specs.Data.{Data, array}
use Rattle.serde_json.specs.View.{items_of}
use Rattle.serde_json.specs.Written.{items_outline, compact_text}
use Rattle.serde_json.proofs.Texts.{print-outline}
use Rattle.esr_shardidx.specs.Written.{tokens_of, Adds}

pub adds_then : (u v w : Written) (ts us : List Token) → Adds u v ts → Adds v w us → Adds u w (ts ++ us)
adds_then u v w ts us first next = record {
  before = next.before ∙ first.before;
  tokens = next.tokens ∙ ap (λ (xs : List Token). xs ++ us) first.tokens ∙ append_assoc u.tokens ts us;
}

pub one_added : (u v : Written) (t : Token) → v.before ≡ u.before → v.tokens ≡ u.tokens ++ t ∷ [] → Adds u v (t ∷ [])
one_added u v t before tokens = record { before = before; tokens = tokens }

-- the text of a value that was put after nothing
pub text_of : (u w : Written) (d : Data) → u.before ≡ [] → u.tokens ≡ [] → Adds u w (tokens_of d) → w.before ++ print w.tokens ≡ compact_text d
text_of u w d none blank put =
    let tokens : w.tokens ≡ tokens_of d = put.tokens ∙ ap (λ (ts : List Token). ts ++ tokens_of d) blank in
    ap (λ (s : List ℕ). s ++ print w.tokens) (put.before ∙ none) ∙ ap print tokens ∙ print-outline d

-- ---- the items of a list

-- the pieces of these, one after another
abbrev pub pieces : {A : Type 0} → (A → Data) → List A → List Token
pieces f [] = []
pieces f (x ∷ xs) = tokens_of (f x) ++ pieces f xs

pieces-append : {A : Type 0} (f : A → Data) (xs ys : List A) → pieces f (xs ++ ys) ≡ pieces f xs ++ pieces f ys
pieces-append f [] ys = refl
pieces-append f (x ∷ xs) ys = ap (λ (ts : List Token). tokens_of (f x) ++ ts) (pieces-append f xs ys) ∙ sym (append_assoc (tokens_of (f x)) (pieces f xs) (pieces f ys))

items_pieces : {A : Type 0} (f : A → Data) (xs : List A) → items_tokens (items_outline (items_of (map f xs))) ≡ pieces f xs ++ Token.end_array ∷ []
items_pieces f [] = refl
items_pieces f (x ∷ xs) = ap (λ (ts : List Token). tokens_of (f x) ++ ts) (items_pieces f xs) ∙ sym (append_assoc (tokens_of (f x)) (pieces f xs) (Token.end_array ∷ []))

-- one more item
pub item_added : {A : Type 0} (f : A → Data) (xs : List A) (i : ℕ) (d : A) (u v w : Written) → i < length xs → Adds u v (Token.begin_array ∷ pieces f (take i xs)) → Adds v w (tokens_of (f (get_or xs i d)))
    → Adds u w (Token.begin_array ∷ pieces f (take (i + 1) xs))
item_added {A} f xs i d u v w within first next =
    let x : A = get_or xs i d in
    let all = adds_then u v w (Token.begin_array ∷ pieces f (take i xs)) (tokens_of (f x)) first next in
    let more : pieces f (take (i + 1) xs) ≡ pieces f (take i xs) ++ tokens_of (f x) =
    ap (pieces f) (take_more xs i d within) ∙ pieces-append f (take i xs) (x ∷ []) ∙ ap (λ (ts : List Token). pieces f (take i xs) ++ ts) (append-nil (tokens_of (f x))) in
    record { before = all.before; tokens = all.tokens ∙ ap (λ (ts : List Token). u.tokens ++ Token.begin_array ∷ ts) (sym more) }

-- the end of the list
pub items_added : {A : Type 0} (f : A → Data) (xs : List A) (i : ℕ) (u v w : Written) → length xs ≤ i → Adds u v (Token.begin_array ∷ pieces f (take i xs)) → Adds v w (Token.end_array ∷ [])
    → Adds u w (tokens_of (array (items_of (map f xs))))
items_added f xs i u v w past first last =
    let all = adds_then u v w (Token.begin_array ∷ pieces f (take i xs)) (Token.end_array ∷ []) first last in
    let whole : items_tokens (items_outline (items_of (map f xs))) ≡ pieces f (take i xs) ++ Token.end_array ∷ [] = items_pieces f xs ∙ ap (λ (ts : List Token). ts ++ Token.end_array ∷ []) (ap (pieces f) (sym (take_all i xs past))) in
    record { before = all.before; tokens = all.tokens ∙ ap (λ (ts : List Token). u.tokens ++ Token.begin_array ∷ ts) (sym whole) }
