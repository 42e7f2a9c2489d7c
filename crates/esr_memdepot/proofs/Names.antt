-- Maps by names: what is taken away and put in another order.
use Rattle.std.proofs.Common.{◌≡◌, ℕ, zero, suc, ◌<◌, Bool, true, false, cond, List, [], ◌∷◌, Option, Some, None, length, take, get_or, refl, sym, ◌∙◌, ap, subst, arith}
use Rattle.std.proofs.lemmas.List.{get_or-take, length-take}
use Rattle.std.specs.Prelude.{Contains, All}
use Rattle.std.specs.FinMap.{empty, insert, remove, get, get-insert, get-remove, get-empty, same_map, slice_cmp-IsAntisymmetric, nat_cmp-IsAntisymmetric}
use Rattle.std.specs.Ordering.{nat_cmp, eq_by_cmp}
use Rattle.std.specs.Cmp.Lexicographic.{slice_cmp, nat_list_cmp_total}
use Rattle.esr_depot.specs.Image.{Blobs}
use Rattle.esr_depot.specs.Pages.{tied as equal}

pub tied : (x y : List ℕ) → eq_by_cmp (slice_cmp nat_cmp) x y ≡ true → x ≡ y
tied x y e = slice_cmp-IsAntisymmetric nat_cmp-IsAntisymmetric x y (equal (slice_cmp nat_cmp x y) e)

same : (m n : Blobs) → ((q : List ℕ) → get m q ≡ get n q) → m ≡ n
same m n is = same_map nat_list_cmp_total (slice_cmp-IsAntisymmetric nat_cmp-IsAntisymmetric) m n is

get-in : (m : Blobs) (k v q : List ℕ) → get (insert m k v) q ≡ cond (eq_by_cmp (slice_cmp nat_cmp) q k) (Some v) (get m q)
get-in m k v q = get-insert nat_list_cmp_total m k v q

get-out : (m : Blobs) (k q : List ℕ) → get (remove m k) q ≡ cond (eq_by_cmp (slice_cmp nat_cmp) q k) None (get m q)
get-out m k q = get-remove nat_list_cmp_total m k q

covered : (b : Bool) (v : List ℕ) (x : Option (List ℕ)) → cond b None (cond b (Some v) x) ≡ cond b None x
covered true v x = refl
covered false v x = refl

pub remove-empty : (n : List ℕ) → remove (empty {X = List ℕ} {R = slice_cmp nat_cmp}) n ≡ empty
remove-empty n = same _ _ (λ q. get-out empty n q ∙ nothing (eq_by_cmp (slice_cmp nat_cmp) q n) q)
  where
    nothing : (b : Bool) (q : List ℕ) → cond b None (get (empty {X = List ℕ} {R = slice_cmp nat_cmp}) q) ≡ get (empty {X = List ℕ} {R = slice_cmp nat_cmp}) q
    nothing true q = sym (get-empty (slice_cmp nat_cmp) q)
    nothing false q = refl

-- what was put under the name goes with it
pub remove-put_same : (m : Blobs) (n k v : List ℕ) → eq_by_cmp (slice_cmp nat_cmp) n k ≡ true → remove (insert m k v) n ≡ remove m n
remove-put_same m n k v is = rw (sym (tied n k is)) (same _ _ (λ q. get-out (insert m n v) n q
    ∙ ap (cond (eq_by_cmp (slice_cmp nat_cmp) q n) None) (get-in m n v q) ∙ covered (eq_by_cmp (slice_cmp nat_cmp) q n) v (get m q) ∙ sym (get-out m n q)))

crossed : (a b : Bool) (v : List ℕ) (x : Option (List ℕ)) → (a ≡ true → b ≡ true → ⊥) → cond a None (cond b (Some v) x) ≡ cond b (Some v) (cond a None x)
crossed true true v x apart = absurd (apart refl refl)
crossed a b v x apart = refl

-- under another name the order of the two doesn't count
pub remove-put_other : (m : Blobs) (n k v : List ℕ) → eq_by_cmp (slice_cmp nat_cmp) n k ≡ false → remove (insert m k v) n ≡ insert (remove m n) k v
remove-put_other m n k v not = same _ _ (λ q. get-out (insert m k v) n q ∙ ap (cond (eq_by_cmp (slice_cmp nat_cmp) q n) None) (get-in m k v q)
    ∙ crossed (eq_by_cmp (slice_cmp nat_cmp) q n) (eq_by_cmp (slice_cmp nat_cmp) q k) v (get m q) (apart q)
    ∙ sym (get-in (remove m n) k v q ∙ ap (cond (eq_by_cmp (slice_cmp nat_cmp) q k) (Some v)) (get-out m n q)))
  where
    apart : (q : List ℕ) → eq_by_cmp (slice_cmp nat_cmp) q n ≡ true → eq_by_cmp (slice_cmp nat_cmp) q k ≡ true → ⊥
    apart q a b =
        let e : n ≡ k = sym (tied q n a) ∙ tied q k b in
        let f : eq_by_cmp (slice_cmp nat_cmp) n k ≡ true = subst (λ (x : List ℕ). eq_by_cmp (slice_cmp nat_cmp) x k ≡ true) (tied q n a) b in
        cc

any_default : {A : Type 0} (xs : List A) (k : ℕ) (d e : A) → k < length xs → get_or xs k d ≡ get_or xs k e
any_default [] k d e lt = absurd (omega arith)
any_default (x ∷ xs) zero d e lt = refl
any_default (x ∷ xs) (suc k) d e lt = any_default xs k d e (omega arith)

-- the first of a list are among it
pub among : {A : Type 0} (xs : List A) (n : ℕ) → All (Contains xs) (take n xs)
among xs n k d lt =
    let short = length-take n xs in
    let x = get_or (take n xs) k d in
    (k, omega arith, sym (get_or-take n xs k x (omega arith)) ∙ any_default (take n xs) k x d lt)

pub of_first : {A : Type 0} (xs : List A) (n : ℕ) (x : A) → Contains (take n xs) x → Contains xs x
of_first xs n x has =
    let short = length-take n xs in
    (has.0, omega (arith, has.1), sym (get_or-take n xs has.0 x (omega (arith, has.1))) ∙ has.2)
