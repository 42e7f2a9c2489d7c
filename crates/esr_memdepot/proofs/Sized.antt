-- Names with the lengths of their blobs.
use Rattle.std.proofs.Common.{◌≡◌, ℕ, true, List, [], ◌∷◌, map, length, refl, sym, ◌∙◌, ap, arith}
use Rattle.std.specs.declared.cmp.Ordering.TheVariants.{Less, Equal, Greater}
use Rattle.std.specs.FinMap.{empty, insert, entries, put, entries-insert, len-entries, len-empty}
use Rattle.std.specs.BTreeMap.{insert_entry}
use Rattle.std.specs.Ordering.{nat_cmp, match_ordering}
use Rattle.std.specs.Cmp.Lexicographic.{slice_cmp, nat_list_cmp_total}
use Rattle.esr_depot.specs.Image.{Blobs, sizes_of}
use Rattle.esr_memdepot.specs.Past.{held, is_there}
use Rattle.esr_memdepot.specs.declared.blob.KeptBlob.{KeptBlob}

nothing : {A : Type 0} (xs : List A) → length xs ≡ 0 → xs ≡ []
nothing [] e = refl
nothing (x ∷ xs) e = absurd (omega arith)

pub sizes_empty : sizes_of empty ≡ []
sizes_empty = ap (map (λ (e : List ℕ × List ℕ). (e.0, length e.1))) (nothing (entries empty) (sym (len-entries empty) ∙ len-empty (slice_cmp nat_cmp) (List ℕ)))

-- as a map puts an entry in its place
by_name : (es : List (List ℕ × ℕ)) (k : List ℕ) (n : ℕ) → insert_entry (slice_cmp nat_cmp) es k n ≡ put (slice_cmp nat_cmp) k n es
by_name [] k n = refl
by_name (e ∷ es) k n =
    elim (slice_cmp nat_cmp k e.0) as (λ o. match_ordering o ((k, n) ∷ e ∷ es) ((e.0, n) ∷ es) (e ∷ insert_entry (slice_cmp nat_cmp) es k n)
    ≡ match_ordering o ((k, n) ∷ e ∷ es) ((e.0, n) ∷ es) (e ∷ put (slice_cmp nat_cmp) k n es)) [
      | Less ↦ refl
      | Equal ↦ refl
      | Greater ↦ ap (λ (l : List (List ℕ × ℕ)). e ∷ l) (by_name es k n)
    ]

-- by lengths
by_length : (es : List (List ℕ × List ℕ)) (k v : List ℕ) → map (λ e. (e.0, length e.1)) (put (slice_cmp nat_cmp) k v es) ≡ put (slice_cmp nat_cmp) k (length v) (map (λ e. (e.0, length e.1)) es)
by_length [] k v = refl
by_length (e ∷ es) k v =
    let sized : List ℕ × List ℕ → List ℕ × ℕ = λ x. (x.0, length x.1) in
    elim (slice_cmp nat_cmp k e.0) as (λ o. map sized (match_ordering o ((k, v) ∷ e ∷ es) ((e.0, v) ∷ es) (e ∷ put (slice_cmp nat_cmp) k v es))
    ≡ match_ordering o ((k, length v) ∷ sized e ∷ map sized es) ((e.0, length v) ∷ map sized es) (sized e ∷ put (slice_cmp nat_cmp) k (length v) (map sized es))) [
      | Less ↦ refl
      | Equal ↦ refl
      | Greater ↦ ap (λ (l : List (List ℕ × ℕ)). sized e ∷ l) (by_length es k v)
    ]

sizes_put : (es : List (List ℕ × ℕ)) (m : Blobs) (name v : List ℕ) → es ≡ sizes_of m → insert_entry (slice_cmp nat_cmp) es name (length v) ≡ sizes_of (insert m name v)
sizes_put es m name v same =
    by_name es name (length v) ∙ ap (put (slice_cmp nat_cmp) name (length v)) same ∙ sym (by_length (entries m) name v)
    ∙ ap (map (λ (e : List ℕ × List ℕ). (e.0, length e.1))) (sym (entries-insert nat_list_cmp_total m name v))

-- one more blob that is there
pub sizes_more : (es : List (List ℕ × ℕ)) (ks rest : List KeptBlob) (k : KeptBlob) (m : Blobs) (name : List ℕ) (n : ℕ) → ks ≡ k ∷ rest → is_there k ≡ true
    → name ≡ k.name → n ≡ length k.bytes → es ≡ sizes_of m
    → (insert_entry (slice_cmp nat_cmp) es name n ≡ sizes_of (insert m k.name k.bytes)) × (held is_there rest (insert m k.name k.bytes) ≡ held is_there ks m)
sizes_more es ks rest k m name n is there named size same = (rw (named, size) (sizes_put es m k.name k.bytes same), rw (is, there) refl)
