-- Sets of numbers tell what the lists do that they were made of.
use Rattle.std.proofs.Common.{◌≡◌, ℕ, ◌+◌, ◌<◌, ◌==◌, ◌||◌, ◌&&◌, Bool, true, false, cond, List, [], ◌∷◌, ◌++◌, map, length, take, get_or, refl, sym, ap, ◌∙◌, subst}
use Rattle.std.specs.Prelude.{if◌then◌else◌}
use Rattle.std.specs.List.{list_any}
use Rattle.std.specs.Ordering.{nat_cmp}
use Rattle.std.specs.BTreeSet.{BTreeSet, contains, Updates}
use Rattle.std.proofs.lemmas.List.Folds.{list_any-append}
use Rattle.std.proofs.Math.Bool.{or-false}
use Rattle.esr_model.specs.Loops.{next, item_is}
use Rattle.esr_names.specs.declared.ids.Id.{Id}
use Rattle.esr_shardidx.specs.declared.index.SnapList.{SnapList as CodeList}
use Rattle.esr_shardidx.specs.FileOrder.{is_eq-nat_cmp}
use Rattle.esr_formats.specs.Ids.{number_of}
use Rattle.esr_formats.specs.Shards.{snap_list_of}
use Rattle.esr_model.specs.Values.{RootSnap, SnapList}
use Rattle.esr_model.specs.Delete.{names_uuid}
use Rattle.esr_reach.specs.Listing.{is_listed}
use Rattle.esr_dooming.specs.Pieces.{is_one, has_left_file}

-- ---- among the numbers of a list

pub or_if : (a b c : Bool) → b ≡ c → (a || b) ≡ (if a then true else c)
or_if true b c e = refl
or_if false b c e = e

pub one_names : (us : List ℕ) (u : ℕ) → is_one us u ≡ names_uuid us u
one_names [] u = refl
one_names (v ∷ us) u = or_if (v == u) (is_one us u) (names_uuid us u) (one_names us u)

pub of_ids : (us : List ℕ) → is_one us ≡ names_uuid us
of_ids us = λ j u. one_names us u j

listed_names : (ss : List RootSnap) (u : ℕ) → is_listed ss u ≡ names_uuid (map (λ (s : RootSnap). s.uuid) ss) u
listed_names [] u = refl
listed_names (s ∷ ss) u = or_if (s.uuid == u) (is_listed ss u) (names_uuid (map (λ (z : RootSnap). z.uuid) ss) u) (listed_names ss u)

pub of_snaps : (ss : List RootSnap) → is_listed ss ≡ names_uuid (map (λ (s : RootSnap). s.uuid) ss)
of_snaps ss = λ j u. listed_names ss u j

pub any_map : {A B : Type 0} (p : B → Bool) (f : A → B) (xs : List A) → list_any p (map f xs) ≡ list_any (λ (x : A). p (f x)) xs
any_map p f [] = refl
any_map p f (x ∷ xs) = ap (λ (b : Bool). p (f x) || b) (any_map p f xs)

-- ---- a set that grows

swapped : (a o b : Bool) → cond a true (o || b) ≡ (o || (b || (a || false)))
swapped true false true = refl
swapped false false true = refl
swapped a o b = refl

-- it has what it had, and these numbers
abbrev pub IsAlso : BTreeSet ℕ → BTreeSet ℕ → List ℕ → Type 0
IsAlso old set us = (q : ℕ) → contains nat_cmp set q ≡ (contains nat_cmp old q || is_one us q)

pub also_none : (s : BTreeSet ℕ) → IsAlso s s []
also_none s q = sym (or-false (contains nat_cmp s q))

also_push : (old s n : BTreeSet ℕ) (us : List ℕ) (u : ℕ) → IsAlso old s us → Updates nat_cmp s n u true → IsAlso old n (us ++ u ∷ [])
also_push old s n us u has adds q =
    adds.0 q ∙ ap (λ (b : Bool). cond b true (contains nat_cmp s q)) (is_eq-nat_cmp u q) ∙ ap (λ (b : Bool). cond (u == q) true b) (has q)
    ∙ swapped (u == q) (contains nat_cmp old q) (is_one us q) ∙ ap (λ (b : Bool). contains nat_cmp old q || b) (sym (list_any-append (λ (v : ℕ). v == q) us (u ∷ [])))

pub also_next : (old s n : BTreeSet ℕ) (ids : List Id) (i : ℕ) (d : Id) → i < length ids → IsAlso old s (map number_of (take i ids)) → Updates nat_cmp s n (get_or ids i d).number true → IsAlso old n (map number_of (take (i + 1) ids))
also_next old s n ids i d less has adds =
    subst (λ (us : List ℕ). IsAlso old n us) (sym (next number_of ids i (get_or ids i d) less (item_is ids i d less))) (also_push old s n (map number_of (take i ids)) (get_or ids i d).number has adds)

-- a set that has the numbers so far has one more
pub is_next : (s n : BTreeSet ℕ) (ids : List Id) (i : ℕ) (d : Id) → i < length ids → ((q : ℕ) → contains nat_cmp s q ≡ is_one (map number_of (take i ids)) q) → Updates nat_cmp s n (get_or ids i d).number true
    → (q : ℕ) → contains nat_cmp n q ≡ is_one (map number_of (take (i + 1) ids)) q
is_next s n ids i d less has adds q =
    let u : ℕ = (get_or ids i d).number in
    adds.0 q ∙ ap (λ (b : Bool). cond b true (contains nat_cmp s q)) (is_eq-nat_cmp u q) ∙ ap (λ (b : Bool). cond (u == q) true b) (has q)
    ∙ swapped (u == q) false (is_one (map number_of (take i ids)) q) ∙ sym (list_any-append (λ (v : ℕ). v == q) (map number_of (take i ids)) (u ∷ []))
    ∙ ap (λ (us : List ℕ). is_one us q) (sym (next number_of ids i (get_or ids i d) less (item_is ids i d less)))

-- ---- the files of the lists that are left

-- the set has the files of these
abbrev pub HasFiles : BTreeSet ℕ → (ℕ → Bool) → List SnapList → Type 0
HasFiles set left lists = (q : ℕ) → contains nat_cmp set q ≡ has_left_file left lists q

pub files_none : (s : BTreeSet ℕ) (left : ℕ → Bool) → s.keys ≡ [] → HasFiles s left []
files_none s left none q = rw none refl

files_push : (left : ℕ → Bool) (ls : List SnapList) (l : SnapList) (q : ℕ) → has_left_file left (ls ++ l ∷ []) q ≡ (has_left_file left ls q || (left l.uuid && is_one l.files q))
files_push left ls l q =
    let test : SnapList → Bool = λ (x : SnapList). left x.uuid && is_one x.files q in
    list_any-append test ls (l ∷ []) ∙ ap (λ (b : Bool). list_any test ls || b) (or-false (test l))

pub files_more : (left : ℕ → Bool) (xs : List CodeList) (i : ℕ) (x : CodeList) (s n : BTreeSet ℕ) → i < length xs → x ≡ get_or xs i x → HasFiles s left (map snap_list_of (take i xs))
    → ((q : ℕ) → contains nat_cmp n q ≡ (contains nat_cmp s q || (left x.uuid.number && is_one (map number_of x.files) q))) → HasFiles n left (map snap_list_of (take (i + 1) xs))
files_more left xs i x s n less is has adds q =
    let its : Bool = left x.uuid.number && is_one (map number_of x.files) q in
    adds q ∙ ap (λ (b : Bool). b || its) (has q) ∙ sym (files_push left (map snap_list_of (take i xs)) (snap_list_of x) q) ∙ ap (λ (ls : List SnapList). has_left_file left ls q) (sym (next snap_list_of xs i x less is))

-- a list that isn't left adds nothing
pub no_more : (b o : Bool) (other : Bool) → b ≡ false → o ≡ (o || (b && other))
no_more b o other none = sym (or-false o) ∙ ap (λ (a : Bool). o || (a && other)) (sym none)
