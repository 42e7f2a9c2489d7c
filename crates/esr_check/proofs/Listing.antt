-- Blobs of one item of a list after another.
use Rattle.std.proofs.Common.{◌≡◌, inl, inr, ℕ, zero, suc, ◌+◌, ◌<◌, List, [], ◌∷◌, ◌++◌, map, length, take, get_or, refl, sym, ap, ◌∙◌, subst, arith}
use Rattle.std.proofs.lemmas.Simd.{map-map}
use Rattle.std.specs.List.{AllByRecursion}
use Rattle.esr_model.specs.Lists.{Has-left, Has-right, Has-map}
use Rattle.esr_model.specs.Loops.{has_at, next}
use Rattle.esr_names.specs.declared.index_ref.IndexRef.{IndexRef as CodeRef}
use Rattle.esr_names.specs.Indices.{AreRefs}
use Rattle.esr_newroot.specs.RefLists.{one_id, ids_distinct}
use Rattle.esr_formats.specs.Refs.{ref_of_code}
use Rattle.esr_model.specs.Names.{BlobName}
use Rattle.esr_model.specs.Values.{Has, IndexRef}
use Rattle.esr_core.specs.Entry.{Moment}
use Rattle.esr_desk.specs.Start.{Start}
use Rattle.esr_reach.specs.Names.{AreOnce}
use Rattle.esr_reach.specs.Members.{once_distinct}
use Rattle.esr_desk.specs.Own.{caller_of}
use Rattle.esr_reach.specs.OnceEach.{tests_apart}
use Rattle.esr_check.specs.Names.{AreUnfetched}
use Rattle.esr_check.specs.Went.{Went}
use Rattle.esr_check.proofs.Going.{went_as, went_both, still_new}

-- of one of these items
abbrev pub Any : {B : Type 0} → (B → BlobName → Type 0) → List B → BlobName → Type 0
Any {B} P xs name = (x : B) × Has xs x × P x name

-- of an item of a lower number
abbrev pub Below : (ℕ → BlobName → Type 0) → ℕ → BlobName → Type 0
Below P n name = (k : ℕ) × (k < n) × P k name

-- ---- an item at a place

-- the items are the list itself
pub at_same : {A : Type 0} (items xs : List A) (i : ℕ) (x : A) → items ≡ xs → i < length items → x ≡ get_or items i x → (i < length xs) × (x ≡ get_or xs i x)
at_same {A} items xs i x same less is = subst (λ (l : List A). (i < length l) × (x ≡ get_or l i x)) same (less, is)

pub all_at : {A : Type 0} (P : A → Type 0) (xs : List A) (i : ℕ) (x : A) → AllByRecursion P xs → i < length xs → x ≡ get_or xs i x → P x
all_at P [] i x all less is = absurd (omega (arith, less))
all_at P (y ∷ ys) zero x all less is = subst P (sym is) all.0
all_at P (y ∷ ys) (suc i) x all less is = let fewer : i < length ys = omega (arith, less) in all_at P ys i x all.1 fewer is

-- ---- its key is another one than those before it

key_apart : {A B : Type 0} (key : B → ℕ) (h : A → B) (xs : List A) (i : ℕ) (x : A) (b : B) → AreOnce (map key (map h xs)) → i < length xs → x ≡ get_or xs i x → Has (map h (take i xs)) b → key b ≡ key (h x) → ⊥
key_apart key h [] i x b once less is has same = absurd (omega (arith, less))
key_apart key h (y ∷ ys) zero x b once less is has same = has
key_apart key h (y ∷ ys) (suc i) x b once less is (inl here) same =
    let fewer : i < length ys = omega (arith, less) in
    let key_is : key (h x) ≡ key (h y) = sym same ∙ sym (ap key here) in
    once.0 (subst (λ (k : ℕ). Has (map key (map h ys)) k) key_is (Has-map key (map h ys) (h x) (has_at h ys i x fewer is)))
key_apart key h (y ∷ ys) (suc i) x b once less is (inr later) same =
    let fewer : i < length ys = omega (arith, less) in
    key_apart key h ys i x b once.1 fewer is later same

-- so none of its blobs is fetched yet
pub next_new : {A B : Type 0} (s : Start) (old now : List Moment) (key : B → ℕ) (P : B → BlobName → Type 0) (h : A → B) (xs : List A) (i : ℕ) (x : A) → ((a b : B) (name : BlobName) → P a name → P b name → key a ≡ key b)
    → AreOnce (map key (map h xs))
    → i < length xs → x ≡ get_or xs i x → AreUnfetched (caller_of s old) (P (h x)) → Went s old now (Any P (map h (take i xs))) → AreUnfetched (caller_of s now) (P (h x))
next_new {A} {B} s old now key P h xs i x keys once less is new went =
    still_new s old now (Any P (map h (take i xs))) (P (h x)) (λ name own any. key_apart key h xs i x any.0 once less is any.1 (keys any.0 (h x) name any.2 own)) new went

-- ---- one item more

pub any_next : {A B : Type 0} (s : Start) (old mid new : List Moment) (P : B → BlobName → Type 0) (h : A → B) (xs : List A) (i : ℕ) (x : A) → i < length xs → x ≡ get_or xs i x → Went s old mid (Any P (map h (take i xs)))
    → Went s mid new (P (h x))
    → Went s old new (Any P (map h (take (i + 1) xs)))
any_next {A} {B} s old mid new P h xs i x less is first second =
    subst (λ (zs : List B). Went s old new (Any P zs)) (sym (next h xs i x less is))
    (went_both s old mid new (Any P (map h (take i xs))) (P (h x)) (Any P (map h (take i xs) ++ h x ∷ []))
    (λ name any. (any.0, Has-left (map h (take i xs)) (h x ∷ []) any.0 any.1, any.2))
    (λ name own. (h x, Has-right (map h (take i xs)) (h x ∷ []) (h x) (inl refl), own)) first second)

-- so far these, which are some
pub any_all : {B : Type 0} (s : Start) (old new : List Moment) (P : B → BlobName → Type 0) (R : BlobName → Type 0) (xs : List B) → ((x : B) (name : BlobName) → P x name → R name) → Went s old new (Any P xs) → Went s old new R
any_all s old new P R xs each went = went_as s old new (Any P xs) R (λ name any. each any.0 name any.2) went

-- and then those of an item, which are some too
pub any_then : {B : Type 0} (s : Start) (old mid new : List Moment) (P : B → BlobName → Type 0) (R : BlobName → Type 0) (xs : List B) (x : B) → ((y : B) (name : BlobName) → P y name → R name) → Went s old mid (Any P xs)
    → Went s mid new (P x) → Went s old new R
any_then s old mid new P R xs x each first second = went_both s old mid new (Any P xs) (P x) R (λ name any. each any.0 name any.2) (λ name own. each x name own) first second

-- ---- by number

pub below_new : (s : Start) (old now : List Moment) (P : ℕ → BlobName → Type 0) (n : ℕ) → ((k : ℕ) (name : BlobName) → k < n → P k name → P n name → ⊥) → AreUnfetched (caller_of s old) (P n) → Went s old now (Below P n)
    → AreUnfetched (caller_of s now) (P n)
below_new s old now P n apart new went = still_new s old now (Below P n) (P n) (λ name own below. apart below.0 name below.1 below.2 own) new went

pub below_next : (s : Start) (old mid new : List Moment) (P : ℕ → BlobName → Type 0) (n : ℕ) → Went s old mid (Below P n) → Went s mid new (P n) → Went s old new (Below P (n + 1))
below_next s old mid new P n first second =
    went_both s old mid new (Below P n) (P n) (Below P (n + 1)) (λ name below. let less : below.0 < n = below.1 in (below.0, omega (arith, less), below.2)) (λ name own. (n, omega arith, own)) first second

pub below_all : (s : Start) (old new : List Moment) (P : ℕ → BlobName → Type 0) (R : BlobName → Type 0) (n : ℕ) → ((k : ℕ) (name : BlobName) → P k name → R name) → Went s old new (Below P n) → Went s old new R
below_all s old new P R n each went = went_as s old new (Below P n) R (λ name below. each below.0 name below.2) went

pub below_then : (s : Start) (old mid new : List Moment) (P : ℕ → BlobName → Type 0) (R : BlobName → Type 0) (n : ℕ) → ((k : ℕ) (name : BlobName) → P k name → R name) → Went s old mid (Below P n) → Went s mid new (P n)
    → Went s old new R
below_then s old mid new P R n each first second = went_both s old mid new (Below P n) (P n) R (λ name below. each below.0 name below.2) (λ name own. each n name own) first second

-- ---- the ids of an info are distinct

pub refs_once : (rs : List CodeRef) → AreRefs [] rs → AreOnce (map (λ (r : IndexRef). r.id) (map ref_of_code rs))
refs_once rs rule =
    subst AreOnce (sym (map-map (λ (r : IndexRef). r.id) ref_of_code rs))
    (once_distinct one_id (λ (r : CodeRef). r.id.number) (λ p q apart. tests_apart p.id.number q.id.number apart) rs (ids_distinct rs rule))

-- ---- lists that are pushed to

pub map_push : {A B : Type 0} (h : A → B) (xs : List A) (x : A) → map h (xs ++ x ∷ []) ≡ map h xs ++ h x ∷ []
map_push h [] x = refl
map_push {A} {B} h (y ∷ ys) x = ap (λ (l : List B). h y ∷ l) (map_push h ys x)
