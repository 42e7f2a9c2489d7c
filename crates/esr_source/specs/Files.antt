-- The files of a shard: what is told of them, and what is listed.
use Rattle.std.specs.Prelude.{◌≡◌, ℕ, ◌^◌, ◌<◌, Bool, true, false, not, ◌==◌, ◌&&◌, ◌||◌, nat_lt, nat_le, List, [], ◌∷◌, length, All, Option, Some, None, slice_get, slice_index_or, option_map, codes, bytes_eq, if◌then◌else◌}
use Rattle.std.specs.List.{list_all, AllPass}
use Rattle.std.proofs.lemmas.Bool.{and_parts, ltb-true}
use Rattle.std.proofs.lemmas.List.Sums.{AllPass-from_list_all}
use Rattle.std.specs.Ordering.{nat_cmp, is_lt}
use Rattle.std.specs.Cmp.Lexicographic.{slice_cmp}
use Rattle.esr_source.specs.declared.files.ListedFile.{ListedFile}
use Rattle.esr_source.specs.declared.files.MemFile.{MemFile}

-- a file in memory, told by its name and its bytes
abbrev pub told_file : MemFile → List ℕ × List ℕ
told_file f = (f.name, f.bytes)

-- what is listed of a told file
abbrev pub listed_of : List ℕ × List ℕ → ListedFile
listed_of f = record { name = f.0; length = length f.1 }

-- the bytes of the file at a place of the list, where they are told
abbrev pub bytes_at : Option (List (List ℕ × List ℕ)) → ℕ → Option (List ℕ)
bytes_at None place = None
bytes_at (Some files) place = option_map (λ f. f.1) (slice_get files place)

-- ---- which files a shard may list

-- 33 to 126, and no slash
abbrev pub is_name_byte : ℕ → Bool
is_name_byte b = nat_le 33 b && (nat_le b 126 && not (b == 47))

abbrev pub is_dots : List ℕ → Bool
is_dots name = bytes_eq name (codes ".") || bytes_eq name (codes "..")

-- a file's name has 1 to 255 such bytes, and is neither one dot nor two
abbrev pub is_file_name : List ℕ → Bool
is_file_name name =
    if length name == 0 then false
    else (if nat_lt 255 (length name) then false else (if is_dots name then false else list_all is_name_byte name))

-- its length is below 2^60
abbrev pub is_listed : ListedFile → Bool
is_listed f = nat_lt f.length (2 ^ 60) && is_file_name f.name

-- a name is above the one before it, if there is one
abbrev pub is_above : Option (List ℕ) → List ℕ → Bool
is_above None name = true
is_above (Some last) name = is_lt (slice_cmp nat_cmp last name)

-- the names rise in byte order
abbrev pub is_rising : Option (List ℕ) → List ListedFile → Bool
is_rising last [] = true
is_rising last (f ∷ fs) = is_above last f.name && is_rising (Some f.name) fs

abbrev pub is_listing : List ListedFile → Bool
is_listing fs = nat_lt (length fs) (2 ^ 32) && list_all is_listed fs && is_rising None fs

-- the same in facts: few files, short ones, and names by the rule that rise in byte order
pub record IsListing (fs : List ListedFile) : Type 0 where
  pub few : length fs < 2 ^ 32
  pub short : All (λ f. f.length < 2 ^ 60) fs
  pub named : All (λ f. is_file_name f.name ≡ true) fs
  pub rising : is_rising None fs ≡ true

pub IsListing-from : (fs : List ListedFile) → is_listing fs ≡ true → IsListing fs
IsListing-from fs ok =
    let outer = and_parts (nat_lt (length fs) (2 ^ 32) && list_all is_listed fs) (is_rising None fs) ok in
    let inner = and_parts (nat_lt (length fs) (2 ^ 32)) (list_all is_listed fs) outer.0 in
    let each : AllPass is_listed fs = AllPass-from_list_all is_listed fs inner.1 in
    record {
      few = ltb-true (length fs) (2 ^ 32) inner.0;
      short = λ k d lt. ltb-true (slice_index_or fs k d).length (2 ^ 60) (and_parts _ (is_file_name (slice_index_or fs k d).name) (each k d lt)).0;
      named = λ k d lt. (and_parts (nat_lt (slice_index_or fs k d).length (2 ^ 60)) _ (each k d lt)).1;
      rising = outer.1;
    }
