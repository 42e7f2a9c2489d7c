-- Which values are shallow, by how they are made.
use Rattle.std.proofs.Common.{◌≡◌, ℕ, ℤ, suc, ◌≤◌, false, List, [], ◌∷◌, map, pos, negsuc, refl, arith}
use Rattle.std.specs.Ordering.{nat_cmp, match_ordering}
use Rattle.std.specs.Cmp.Lexicographic.{slice_cmp}
use Rattle.std.specs.declared.cmp.Ordering.{Ordering}
use Rattle.std.specs.declared.cmp.Ordering.TheVariants.{Less, Equal, Greater}
use Rattle.std.proofs.lemmas.Bool.{or_parts}
use Rattle.serde_json.specs.Data.{Data, number, array, Members, no_members, member, put, items_depth}
use Rattle.serde_json.specs.Find.{of_integer}
use Rattle.serde_json.specs.View.{items_of}
use Rattle.serde_json.specs.Written.{has_float, items_have_float, members_have_float}
use Rattle.esr_json.specs.Named.{with_members}
use Rattle.esr_json.specs.Shallow.{IsShallow, AreShallow, MembersAreShallow}

pub IsShallow-integer : (k : ℕ) (z : ℤ) → IsShallow k (number (of_integer z))
IsShallow-integer k (pos n) = (refl, omega arith)
IsShallow-integer k (negsuc n) = (refl, omega arith)

-- ---- lists

items_shallow : (k : ℕ) (ds : List Data) → AreShallow k ds → (items_have_float (items_of ds) ≡ false) × (items_depth (items_of ds) ≤ k)
items_shallow k [] h = (refl, omega arith)
items_shallow k (d ∷ ds) h =
    let rest = items_shallow k ds h.1 in
    (rw (h.0.0, rest.0) refl, omega (arith, h.0.1, rest.1))

pub IsShallow-array : (k : ℕ) (ds : List Data) → AreShallow k ds → IsShallow (suc k) (array (items_of ds))
IsShallow-array k ds h = let all = items_shallow k ds h in (all.0, omega (arith, all.1))

pub AreShallow-map : {A : Type 0} (k : ℕ) (f : A → Data) → ((x : A) → IsShallow k (f x)) → (xs : List A) → AreShallow k (map f xs)
AreShallow-map k f h [] = tt
AreShallow-map k f h (x ∷ xs) = (h x, AreShallow-map k f h xs)

-- a list of values that are made in one way
pub IsShallow-array_map : {A : Type 0} (k : ℕ) (f : A → Data) → ((x : A) → IsShallow k (f x)) → (xs : List A) → IsShallow (suc k) (array (items_of (map f xs)))
IsShallow-array_map k f h xs = IsShallow-array k (map f xs) (AreShallow-map k f h xs)

-- ---- objects

pub MembersAreShallow-none : (k : ℕ) → MembersAreShallow k no_members
MembersAreShallow-none k = (refl, omega arith)

pub MembersAreShallow-member : (k : ℕ) (name : List ℕ) (d : Data) (ms : Members) → IsShallow k d → MembersAreShallow k ms → MembersAreShallow k (member name d ms)
MembersAreShallow-member k name d ms h rest = (rw (h.0, rest.0) refl, omega (arith, h.1, rest.1))

one_of_three : (o : Ordering) (a b c : Members) (k : ℕ) → MembersAreShallow k a → MembersAreShallow k b → MembersAreShallow k c → MembersAreShallow k (match_ordering o a b c)
one_of_three Less a b c k x y z = x
one_of_three Equal a b c k x y z = y
one_of_three Greater a b c k x y z = z

pub MembersAreShallow-put : (k : ℕ) (name : List ℕ) (d : Data) (ms : Members) → IsShallow k d → MembersAreShallow k ms → MembersAreShallow k (put name d ms)
MembersAreShallow-put k name d no_members h rest = MembersAreShallow-member k name d no_members h rest
MembersAreShallow-put k name d (member l e ms) h all =
    let parts = or_parts (has_float e) (members_have_float ms) all.0 in
    let first : IsShallow k e = (parts.0, omega (arith, all.1)) in
    let rest : MembersAreShallow k ms = (parts.1, omega (arith, all.1)) in
    one_of_three (slice_cmp nat_cmp name l) (member name d (member l e ms)) (member l d ms) (member l e (put name d ms)) k
    (MembersAreShallow-member k name d (member l e ms) h all)
    (MembersAreShallow-member k l d ms h rest)
    (MembersAreShallow-member k l e (put name d ms) first (MembersAreShallow-put k name d ms h rest))

pub MembersAreShallow-with_members : {A : Type 0} (k : ℕ) (name : A → List ℕ) (f : A → Data) → ((x : A) → IsShallow k (f x)) → (found : Members) (xs : List A)
    → MembersAreShallow k found → MembersAreShallow k (with_members found (map (λ x. (name x, f x)) xs))
MembersAreShallow-with_members k name f h found [] all = all
MembersAreShallow-with_members k name f h found (x ∷ xs) all =
    MembersAreShallow-with_members k name f h (put (name x) (f x) found) xs (MembersAreShallow-put k (name x) (f x) found (h x) all)
