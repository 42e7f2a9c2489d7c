-- An object made of values with rising names has them in that order.
use Rattle.std.proofs.Common.{◌≡◌, ℕ, List, [], ◌∷◌, ◌++◌, map, refl, ap, ◌∙◌}
use Rattle.std.specs.List.{AllByRecursion}
use Rattle.std.specs.Ordering.{nat_cmp}
use Rattle.std.specs.Cmp.Lexicographic.{slice_cmp}
use Rattle.std.specs.declared.cmp.Ordering.TheVariants.{Greater}
use Rattle.std.proofs.lemmas.List.{append_assoc, append-nil}
use Rattle.serde_json.specs.Data.{Data, Members, no_members, member, put}
use Rattle.esr_json.specs.Access.{members_list}
use Rattle.esr_json.specs.Named.{with_members, Rising}

-- the name is above those of the members
abbrev IsAbove : List ℕ → Members → Type 0
IsAbove k no_members = Unit {0}
IsAbove k (member l e ms) = (slice_cmp nat_cmp k l ≡ Greater) × IsAbove k ms

put_above : (k : List ℕ) (d : Data) (ms : Members) → IsAbove k ms → members_list (put k d ms) ≡ members_list ms ++ (k, d) ∷ []
put_above k d no_members h = refl
put_above k d (member l e ms) h = rw h.0 (ap (λ r. (l, e) ∷ r) (put_above k d ms h.1))

above_put : (j k : List ℕ) (d : Data) (ms : Members) → IsAbove j ms → slice_cmp nat_cmp j k ≡ Greater → IsAbove k ms → IsAbove j (put k d ms)
above_put j k d no_members h over below = (over, tt)
above_put j k d (member l e ms) h over below = rw below.0 (h.0, above_put j k d ms h.1 over below.1)

abbrev AllAbove : Members → List (List ℕ) → Type 0
AllAbove found ns = AllByRecursion (λ n. IsAbove n found) ns

all_above_put : (k : List ℕ) (d : Data) (found : Members) (ns : List (List ℕ)) → AllAbove found ns → AllByRecursion (λ m. slice_cmp nat_cmp m k ≡ Greater) ns → IsAbove k found → AllAbove (put k d found) ns
all_above_put k d found [] h over below = tt
all_above_put k d found (n ∷ ns) h over below = (above_put n k d found h.0 over.0 below, all_above_put k d found ns h.1 over.1 below)

all_above_none : (ns : List (List ℕ)) → AllAbove no_members ns
all_above_none [] = tt
all_above_none (n ∷ ns) = (tt, all_above_none ns)

grown : {A : Type 0} (name : A → List ℕ) (f : A → Data) (found : Members) (xs : List A) → AllAbove found (map name xs) → Rising (map name xs)
    → members_list (with_members found (map (λ x. (name x, f x)) xs)) ≡ members_list found ++ map (λ x. (name x, f x)) xs
grown name f found [] above rises = rw append-nil refl
grown name f found (x ∷ xs) above rises =
    grown name f (put (name x) (f x) found) xs (all_above_put (name x) (f x) found (map name xs) above.1 rises.0 above.0) rises.1
    ∙ rw (put_above (name x) (f x) found above.0) (append_assoc (members_list found) _ _)

pub members_list-with_members : {A : Type 0} (name : A → List ℕ) (f : A → Data) (xs : List A) → Rising (map name xs)
    → members_list (with_members no_members (map (λ x. (name x, f x)) xs)) ≡ map (λ x. (name x, f x)) xs
members_list-with_members name f xs rises = grown name f no_members xs (all_above_none (map name xs)) rises
