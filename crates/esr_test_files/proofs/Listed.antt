-- Files by their places in the list.
use Rattle.std.proofs.Common.{◌≡◌, ℕ, zero, suc, ◌<◌, List, [], ◌∷◌, map, length, Option, Some, None, option_map, IfSome, slice_get, slice_index_or, refl, sym, subst, arith}
use Rattle.esr_source.specs.declared.files.ListedFile.{ListedFile}
use Rattle.esr_source.specs.Files.{listed_of, bytes_at}

len_in : (told : List (List ℕ × List ℕ)) (i : ℕ) (d : ListedFile) → i < length (map listed_of told)
    → IfSome (option_map (λ (f : List ℕ × List ℕ). f.1) (slice_get told i)) (λ b. length b ≡ (slice_index_or (map listed_of told) i d).length)
len_in [] i d lt = absurd (omega (arith, lt))
len_in (f ∷ told) zero d lt = refl
len_in (f ∷ told) (suc i) d lt = len_in told i d (omega (arith, lt))

-- a told file has its listed length
pub len_at : (fs : List ListedFile) (told : Option (List (List ℕ × List ℕ))) (i : ℕ) (d : ListedFile) → IfSome told (λ x. fs ≡ map listed_of x) → i < length fs
    → IfSome (bytes_at told i) (λ b. length b ≡ (slice_index_or fs i d).length)
len_at fs None i d is lt = tt
len_at fs (Some x) i d is lt =
    let P : List ListedFile → Type 0 = λ l. i < length l → IfSome (bytes_at (Some x) i) (λ b. length b ≡ (slice_index_or l i d).length) in
    subst P (sym is) (len_in x i d) lt
