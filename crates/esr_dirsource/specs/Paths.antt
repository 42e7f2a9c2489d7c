-- Where the files of shards lie.
use Rattle.std.specs.Prelude.{ℕ, Bool, false, not, ◌==◌, ◌&&◌, List, ◌++◌, length, slice_get, Option, Some, None, option_map, codes, decimal, if◌then◌else◌}
use Rattle.std.specs.List.{list_all}
use Rattle.esr_source.specs.Files.{is_dots}
use Rattle.esr_source.specs.declared.files.ListedFile.{ListedFile}

-- the path of what has this name in a folder
abbrev pub path_in : List ℕ → List ℕ → List ℕ
path_in folder name = folder ++ (codes "/" ++ name)

-- the folder of a shard's files where they are read
abbrev pub source_folder : List ℕ → ℕ → List ℕ
source_folder place number = path_in place (decimal number)

-- the folder of a shard's files where they are written
abbrev pub target_folder : List ℕ → List ℕ → ℕ → List ℕ
target_folder place index number = path_in (path_in place index) (decimal number)

-- the path of the file at a place of a list
abbrev pub file_path : List ℕ → Option (List ListedFile) → ℕ → Option (List ℕ)
file_path folder None place = None
file_path folder (Some files) place = option_map (λ f. path_in folder f.name) (slice_get files place)

-- neither a slash nor NUL
abbrev pub is_folder_byte : ℕ → Bool
is_folder_byte b = not (b == 47) && not (b == 0)

-- the name of one folder, from which no path leads up: it isn't empty, has only such bytes, and is neither one dot nor two
abbrev pub is_folder_name : List ℕ → Bool
is_folder_name name = if length name == 0 then false else (if is_dots name then false else list_all is_folder_byte name)
