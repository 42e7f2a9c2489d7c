-- Lists of what a container in memory has had.
use Rattle.std.proofs.Common.{◌≡◌, ℕ, zero, suc, ◌+◌, ◌<◌, Bool, true, false, ◌&&◌, if◌then◌else◌, List, [], ◌∷◌, ◌++◌, Option, Some, None, length, map, get_or, set, take, drop, refl, sym, ◌∙◌, ap, arith, add-one}
use Rattle.std.proofs.lemmas.List.{drop_more}
use Rattle.std.specs.FinMap.{empty, insert, get, get-insert, get-empty}
use Rattle.std.specs.Ordering.{nat_cmp}
use Rattle.std.specs.Cmp.Lexicographic.{slice_cmp, nat_list_cmp_total}
use Rattle.std.specs.List.{list_all}
use Rattle.std.proofs.lemmas.Bool.{and_parts}
use Rattle.esr_depot.specs.Image.{Blobs, blob}
use Rattle.esr_memdepot.specs.Past.{is_named, is_there, held, found, last_text, image_now}
use Rattle.esr_memdepot.specs.declared.blob.KeptBlob.{KeptBlob}
use Rattle.esr_memdepot.specs.declared.text.KeptText.{KeptText}

pub list_all-push : {A : Type 0} (p : A → Bool) (xs : List A) (x : A) → list_all p xs ≡ true → p x ≡ true → list_all p (xs ++ x ∷ []) ≡ true
list_all-push p [] x all is = rw is refl
list_all-push p (y ∷ xs) x all is = let b = and_parts (p y) (list_all p xs) all in rw b.0 (list_all-push p xs x b.1 is)

-- one more element of a list that a loop changes in place
map_suc : {A : Type 0} (f : A → A) (xs : List A) (i : ℕ) (d : A) → i < length xs
    → set (map f (take i xs) ++ drop i xs) i (f (get_or (map f (take i xs) ++ drop i xs) i d)) ≡ map f (take (suc i) xs) ++ drop (suc i) xs
map_suc f [] i d lt = absurd (omega arith)
map_suc f (x ∷ xs) zero d lt = refl
map_suc f (x ∷ xs) (suc i) d lt = ap (λ (l : List _). f x ∷ l) (map_suc f xs i d (omega arith))

pub map_step : {A : Type 0} (f : A → A) (xs : List A) (i : ℕ) (d : A) → i < length xs
    → set (map f (take i xs) ++ drop i xs) i (f (get_or (map f (take i xs) ++ drop i xs) i d)) ≡ map f (take (i + 1) xs) ++ drop (i + 1) xs
map_step f xs i d lt = rw add-one (map_suc f xs i d lt)

-- what is left of a list begins with the element at the index
pub rest-is : {A : Type 0} (xs : List A) (i : ℕ) (x : A) → i < length xs → x ≡ get_or xs i x → drop i xs ≡ x ∷ drop (i + 1) xs
rest-is xs i x lt is = drop_more xs i x lt ∙ (λ j. sym is j ∷ drop (i + 1) xs)

pub held-push : (p : KeptBlob → Bool) (ks : List KeptBlob) (k : KeptBlob) (m : Blobs) → held p (ks ++ k ∷ []) m ≡ (if p k then insert (held p ks m) k.name k.bytes else held p ks m)
held-push p [] k m = refl
held-push p (x ∷ ks) k m = held-push p ks k _

module _ (p : KeptBlob → Bool) where
  -- one blob more is copied, or left out
  pub held-copied : (ks cs rest : List KeptBlob) (k c : KeptBlob) → ks ≡ k ∷ rest → p k ≡ true → is_there c ≡ true → c.name ≡ k.name → c.bytes ≡ k.bytes
      → held p rest (held is_there (cs ++ c ∷ []) empty) ≡ held p ks (held is_there cs empty)
  held-copied ks cs rest k c is passes there name bytes =
      rw (is, passes) (ap (held p rest) (held-push is_there cs c empty ∙ (rw there (λ i. insert (held is_there cs empty) (name i) (bytes i)))))

  pub held-skipped : (ks rest : List KeptBlob) (k : KeptBlob) (m : Blobs) → ks ≡ k ∷ rest → p k ≡ false → held p rest m ≡ held p ks m
  held-skipped ks rest k m is fails = rw (is, fails) refl

  pub get-held : (q : List ℕ) (ks : List KeptBlob) (m : Blobs) → get (held p ks m) q ≡ found p q ks (get m q)
  get-held q [] m = refl
  get-held q (k ∷ ks) m = get-held q ks _ ∙ ap (found p q ks) (one (p k))
    where
      one : (b : Bool) → get (if b then insert m k.name k.bytes else m) q ≡ (if b && is_named q k then Some k.bytes else get m q)
      one true = get-insert nat_list_cmp_total m k.name k.bytes q
      one false = refl

pub last_text-push : (q : KeptText → Bool) (xs : List KeptText) (x : KeptText) (m : Option (List ℕ)) → last_text q (xs ++ x ∷ []) m ≡ (if q x then Some x.bytes else last_text q xs m)
last_text-push q [] x m = refl
last_text-push q (y ∷ xs) x m = last_text-push q xs x _

module _ (q : KeptText → Bool) where
  -- one text more is copied, or left out
  pub text-copied : (xs cs rest : List KeptText) (x c : KeptText) → xs ≡ x ∷ rest → q x ≡ true → c.stands ≡ true → c.bytes ≡ x.bytes
      → last_text q rest (last_text (λ y. y.stands) (cs ++ c ∷ []) None) ≡ last_text q xs (last_text (λ y. y.stands) cs None)
  text-copied xs cs rest x c is passes stands bytes =
      rw (is, passes) (ap (last_text q rest) (last_text-push (λ y. y.stands) cs c None ∙ (rw stands (ap Some bytes))))

  pub text-skipped : (xs rest : List KeptText) (x : KeptText) (m : Option (List ℕ)) → xs ≡ x ∷ rest → q x ≡ false → last_text q rest m ≡ last_text q xs m
  text-skipped xs rest x m is fails = rw (is, fails) refl

-- what is found by name is in the image
pub blob-found : (ks : List KeptBlob) (xs : List KeptText) (q : List ℕ) → blob (image_now ks xs) q ≡ found is_there q ks None
blob-found ks xs q = get-held is_there q ks empty ∙ ap (found is_there q ks) (get-empty (slice_cmp nat_cmp) q)
