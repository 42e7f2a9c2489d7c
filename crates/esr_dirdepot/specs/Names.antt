-- Names of blobs that stay inside the folder of blobs, and the paths of their files.
use Rattle.std.specs.Prelude.{ℕ, List, [], ◌∷◌, ◌++◌, length, Bool, ◌&&◌, not, ◌==◌, nat_le, bytes_eq}
use Rattle.std.specs.List.{slice_split, list_all}

-- the name of an entry of a folder: not empty, and neither the folder itself nor the one above it
abbrev pub names_entry : List ℕ → Bool
names_entry part = not (bytes_eq part []) && not (bytes_eq part (46 ∷ [])) && not (bytes_eq part (46 ∷ 46 ∷ []))

-- the parts of a name between its slashes
abbrev pub parts_of : List ℕ → List (List ℕ)
parts_of name = slice_split (λ b. b == 47) name

-- each part is the name of an entry
abbrev pub names_entries : List ℕ → Bool
names_entries name = list_all names_entry (parts_of name)

-- there is no NUL, at which the file system would cut the name off
abbrev pub has_no_nul : List ℕ → Bool
has_no_nul name = list_all (λ b. not (b == 0)) name

-- a name that leads to a place below the folder from which it is taken, and nowhere else
abbrev pub leads_inside : List ℕ → Bool
leads_inside name = nat_le (length name) 128 && has_no_nul name && names_entries name

-- the path of an entry below a folder
abbrev pub path_below : List ℕ → List ℕ → List ℕ
path_below folder name = folder ++ (47 ∷ name)
